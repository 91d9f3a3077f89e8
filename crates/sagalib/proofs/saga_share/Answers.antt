use mathlib.Core.Path.{ap, ◌∙◌}
use Rattle.totals.specs.Figures.{share_of}
use Rattle.sagalib.specs.Numbers.{share_numbers}
use Rattle.sagalib.proofs.saga_share.Goals as goal

pub returns : goal.returns
returns c = ap share_numbers (c.share-lowest.ensures ∙ ap share_of c.totals_in-counted.ensures)
