use mathlib.Core.Path.{◌∙◌, sym}
use Rattle.moves.proofs.SaidLaws.{said-refused, said-told, said-unfit}
use Rattle.moves.proofs.line.Goals as goal

pub returns-in-Err : goal.returns-in-Err
returns-in-Err c = let a = c.args in c.plan_line.ensures ∙ said-unfit a.names.now a.ends.now a.steps.now a.lists.now a.judgement a.k _ (sym c.in-Err.is ∙ c.judged.ensures)

pub returns-in_default-answer : goal.returns-in_default-answer
returns-in_default-answer c = let a = c.args in c.line.ensures ∙ said-refused a.names.now a.ends.now a.steps.now a.lists.now a.judgement a.k (sym c.in_default.is ∙ c.judged.ensures) _ (sym c.in_default-answer.is)

pub returns : goal.returns
returns c = let a = c.args in c.accepted_line.ensures ∙ said-told a.names.now a.ends.now a.steps.now a.lists.now a.judgement a.k (sym c.in_default.is ∙ c.judged.ensures) (sym c.in-Accepted.is)
