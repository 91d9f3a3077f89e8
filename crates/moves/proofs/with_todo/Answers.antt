use mathlib.Core.Path.{◌∙◌, ap, sym}
use Rattle.listing.specs.Texts.{text_of, with_all}
use Rattle.moves.proofs.SaidLaws.{then}
use Rattle.moves.specs.Lines.{todo_letters}
use Rattle.moves.specs.declared.Todo.{Todo}
use Rattle.moves.proofs.with_todo.Goals as goal

pub returns-in-Begins : goal.returns-in-Begins
returns-in-Begins c = let a = c.args in then _ _ _ c.word-in-Begins.ensures c.with_part.ensures ∙ ap (λ (x : Todo). with_all (text_of a.text) (todo_letters a.plan.names.now a.plan.ends.now a.plan.steps.now a.i x)) (sym c.in-Begins.is)

pub returns-in-Commits : goal.returns-in-Commits
returns-in-Commits c = let a = c.args in then _ _ _ c.word-in-Commits.ensures c.with_part-in-Commits.ensures ∙ ap (λ (x : Todo). with_all (text_of a.text) (todo_letters a.plan.names.now a.plan.ends.now a.plan.steps.now a.i x)) (sym c.in-Commits.is)

pub returns-in-Aborts : goal.returns-in-Aborts
returns-in-Aborts c = let a = c.args in then _ _ _ c.word-in-Aborts.ensures c.with_part-in-Aborts.ensures ∙ ap (λ (x : Todo). with_all (text_of a.text) (todo_letters a.plan.names.now a.plan.ends.now a.plan.steps.now a.i x)) (sym c.in-Aborts.is)
