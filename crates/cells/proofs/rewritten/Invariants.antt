use Prim.Native.Nat.{◌-◌, ◌≤◌, ◌<◌}
use mathlib.Core.Path.{◌≡◌}
use mathlib.Core.Bool.{true}
use Rattle.ties.specs.declared.Operation.{Operation}
use Rattle.cells.specs.Cells.{fits, held_in}
use Rattle.cells.proofs.CellLaws.{Done}
use Rattle.cells.proofs.rewritten.Given as goal

abbrev pub invariant-loop-i : goal.invariant-loop-i
invariant-loop-i g l =
    (l.i ≤ l.all) × (l.all ≤ 256)
    × ((makes : Operation → Operation) → ((op made : Operation) → fits op ≡ true → goal.F-post g l.how op made → made ≡ makes op) → Done l.t makes l.initial.ops l.i l.ops)
    × (l.i < l.all → held_in l.ops l.t l.i ≡ true)

abbrev pub decreases-loop-i : goal.decreases-loop-i
decreases-loop-i g l = l.all - l.i
