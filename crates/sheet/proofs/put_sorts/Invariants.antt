use Prim.Native.Nat.{ℕ, ◌+◌, ◌-◌, ◌≤◌, min}
use mathlib.Core.Path.{◌≡◌}
use lib.ListN.{length}
use Rattle.terms.specs.Limits.{most_sagas, most_transactions}
use Rattle.tables.specs.Sorts.{number_of_all}
use Rattle.tables.proofs.SortLaws.{Passed}
use Rattle.sheet.proofs.HeldLaws.{SortsTo}
use Rattle.sheet.proofs.put_sorts.Given as goal

abbrev pub invariant-loop-t : goal.invariant-loop-t
invariant-loop-t l =
    (l.t ≤ most_transactions) × (l.i ≤ l.sagas) × (l.sagas ≡ min l.tables.sagas most_sagas) × (l.first ≤ l.t) × (length l.sheet ≡ 195)
    × ((u : ℕ) → l.t ≤ u → Passed l.tables u l.i l.first)
    × (number_of_all l.tables ≤ most_transactions → SortsTo l.tables l.t l.sheet)

abbrev pub decreases-loop-t : goal.decreases-loop-t
decreases-loop-t l = (most_transactions - l.t) + (l.sagas - l.i)
