use mathlib.Core.Path.{ap, ◌∙◌}
use Rattle.plan.specs.Lines.{up_to_blanks}
use Rattle.plan.proofs.line_between.Goals as goal

pub returns : goal.returns
returns c = c.up_to_blanks.ensures ∙ ap up_to_blanks c.before.past_blanks-front.ensures
