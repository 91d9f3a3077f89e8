use Rattle.moves.proofs.SaidLaws.{todo-is}
use mathlib.Core.Path.{◌∙◌, ap, sym}
use Rattle.closing.specs.declared.NextStep.TheVariants.{NoStep, ToAbort, ToBegin, ToCommit}
use Rattle.moves.specs.declared.Todo.TheVariants.{Aborts, Begins, Commits}
use Rattle.moves.proofs.to_do.Goals as goal

pub returns-in-NoStep : goal.returns-in-NoStep
returns-in-NoStep c = let a = c.args in todo-is a.tables a.state a.i NoStep (sym c.in-NoStep.is ∙ c.closing.ensures)

pub returns-in-ToBegin : goal.returns-in-ToBegin
returns-in-ToBegin c = let a = c.args in ap Begins c.part_of.ensures ∙ todo-is a.tables a.state a.i (ToBegin _) (sym c.in-ToBegin.is ∙ c.closing.ensures)

pub returns-in-ToCommit : goal.returns-in-ToCommit
returns-in-ToCommit c = let a = c.args in ap Commits c.part_of-in-ToCommit.ensures ∙ todo-is a.tables a.state a.i (ToCommit _) (sym c.in-ToCommit.is ∙ c.closing.ensures)

pub returns-in-ToAbort : goal.returns-in-ToAbort
returns-in-ToAbort c = let a = c.args in ap Aborts c.part_of-in-ToAbort.ensures ∙ todo-is a.tables a.state a.i (ToAbort _) (sym c.in-ToAbort.is ∙ c.closing.ensures)
