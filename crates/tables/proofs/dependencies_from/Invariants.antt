use mathlib.Core.Path.{◌≡◌}
use Prim.Native.Nat.{◌-◌}
use Rattle.tables.specs.Reading.{dependencies_from}
use Rattle.tables.proofs.dependencies_from.Given as goal

abbrev pub invariant-loop-i : goal.invariant-loop-i
invariant-loop-i l =
    (l.tables.declared ≡ l.i)
    × (dependencies_from l.most l.book l.n l.count l.start l.initial.tables ≡ dependencies_from l.most l.book l.n (l.count - l.i) l.at l.tables)
