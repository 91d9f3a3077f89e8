use Prim.Native.Nat.{◌-◌, ◌≤◌}
use mathlib.Core.Path.{◌≡◌}
use mathlib.Core.Bool.{false}
use Rattle.laws.specs.Index.{any_below}
use Rattle.ties.specs.Ties.{dirty_at}
use Rattle.cells.specs.Cells.{ops_in}
use Rattle.cells.proofs.dirty.Given as goal

abbrev pub invariant-loop-j : goal.invariant-loop-j
invariant-loop-j l = (l.j ≤ l.all) × (l.all ≤ 256) × (any_below l.j (dirty_at (ops_in l.ops l.n) l.t) ≡ false)

abbrev pub decreases-loop-j : goal.decreases-loop-j
decreases-loop-j l = l.all - l.j
