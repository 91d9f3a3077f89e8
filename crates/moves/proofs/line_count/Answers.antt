use mathlib.Core.Path.{◌∙◌, sym}
use Rattle.moves.proofs.SaidLaws.{count-refused, count-told, count-unfit}
use Rattle.moves.proofs.line_count.Goals as goal

pub returns-in_default : goal.returns-in_default
returns-in_default c = let a = c.args in count-unfit a.names.now a.ends.now a.steps.now a.lists.now a.judgement _ (sym c.in_default.is ∙ c.judged.ensures)

pub returns-in_default-answer : goal.returns-in_default-answer
returns-in_default-answer c = let a = c.args in count-refused a.names.now a.ends.now a.steps.now a.lists.now a.judgement (sym c.in-Ok.is ∙ c.judged.ensures) _ (sym c.in_default-answer.is)

pub returns : goal.returns
returns c = let a = c.args in count-told a.names.now a.ends.now a.steps.now a.lists.now a.judgement (sym c.in-Ok.is ∙ c.judged.ensures) (sym c.in-Accepted.is)
