use mathlib.Core.Path.{ap, ◌∙◌}
use Rattle.left.specs.Left.{left_in}
use Rattle.onward.specs.declared.Judgement.{Judgement}
use Rattle.sagalib.proofs.saga_left.Goals as goal

pub returns : goal.returns
returns c = c.left_of.ensures ∙ ap (λ (r : Judgement). left_in r.tables r.state) c.judged-read.ensures
