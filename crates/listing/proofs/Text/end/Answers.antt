use mathlib.Core.Path.{sym, ◌∙◌}
use Rattle.listing.proofs.TextLaws.{all_one}
use Rattle.listing.proofs.Text.end.Goals as goal

pub returns : goal.returns
returns c = c.byte.ensures ∙ sym (all_one _ _)
