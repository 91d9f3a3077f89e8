use mathlib.Core.Path.{sym, ap, ◌∙◌}
use Rattle.rules.specs.Lent.{transactions_in}
use Rattle.left.specs.Left.{owed_by_sort}
use Rattle.left.proofs.owed_by_sort.Goals as goal

pub returns-in-Saga : goal.returns-in-Saga
returns-in-Saga c = c.owed_in.ensures ∙ ap (owed_by_sort (transactions_in c.args.transactions.now)) (sym c.in-Saga.is)

pub returns-in-Step : goal.returns-in-Step
returns-in-Step c = c.owed_in-in-Step.ensures ∙ ap (owed_by_sort (transactions_in c.args.transactions.now)) (sym c.in-Step.is)

pub returns-in-Undo : goal.returns-in-Undo
returns-in-Undo c = c.owed_in-in-Undo.ensures ∙ ap (owed_by_sort (transactions_in c.args.transactions.now)) (sym c.in-Undo.is)
