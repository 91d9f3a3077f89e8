use mathlib.Core.Path.{◌≡◌}
use Prim.Native.Nat.{◌≤◌, ◌-◌}
use Rattle.terms.specs.Limits.{most_transactions}
use Rattle.tables.specs.Reading.{empty_tables, sagas_from}
use Rattle.tables.proofs.sagas_from.Given as goal

abbrev pub invariant-loop-i : goal.invariant-loop-i
invariant-loop-i l =
    (l.sum ≤ most_transactions) × (l.tables.sagas ≡ l.i)
    × (sagas_from l.most l.book l.count l.start 0 empty_tables ≡ sagas_from l.most l.book (l.count - l.i) l.at l.sum l.tables)
