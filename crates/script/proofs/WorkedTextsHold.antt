-- The worked texts say what is written.
use mathlib.Core.Path.{refl}
use Rattle.plan.specs.Lines.{lines_of, past_blanks}
use Rattle.script.specs.Forms.{table, forms, sign_of, allows, ended, figures_from, numeral_of, found_by, says}
use Rattle.script.specs.Stages.{due_after}
use Rattle.script.specs.Scripts.{one_says, first_says, line_says, tells_from, telling}
use Rattle.script.specs.WorkedTexts.{WorkedTexts}

pub worked-texts : WorkedTexts
unfolding lines_of past_blanks table forms sign_of allows ended figures_from numeral_of found_by says due_after one_says first_says line_says tells_from telling
worked-texts = record { by_hand = refl; third = refl; too_many = refl }
