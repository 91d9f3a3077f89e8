use mathlib.Core.Path.{◌≡◌}
use Rattle.laws.specs.Index.{any_below}
use Rattle.rules.specs.Lent.{transactions_in}
use Rattle.rules.specs.Rules.{undo_on}
use Rattle.rules.proofs.some_undo_active.Given as goal

abbrev pub invariant-loop-t : goal.invariant-loop-t
invariant-loop-t l = l.found ≡ any_below l.t (undo_on l.sheet (transactions_in l.transactions))
