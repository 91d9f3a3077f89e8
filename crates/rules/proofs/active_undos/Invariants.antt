use Prim.Native.Nat.{min}
use mathlib.Core.Path.{◌≡◌}
use Rattle.terms.specs.Limits.{most_transactions}
use Rattle.sets.specs.Sets.{set_of}
use Rattle.sheet.specs.Sheet.{owned_on}
use Rattle.rules.specs.Lent.{transactions_in}
use Rattle.rules.specs.Rules.{undo_on}
use Rattle.rules.proofs.active_undos.Given as goal

abbrev pub invariant-loop-t : goal.invariant-loop-t
invariant-loop-t l = (l.set ≡ set_of l.t (undo_on l.sheet (transactions_in l.transactions))) × (l.owned ≡ min (owned_on l.sheet) most_transactions)
