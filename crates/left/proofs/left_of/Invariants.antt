use Prim.Native.Nat.{◌*◌, ◌≤◌}
use mathlib.Core.Path.{◌≡◌}
use Rattle.tables.specs.Counts.{saga_count}
use Rattle.closing.specs.Settling.{owed_below}
use Rattle.left.proofs.left_of.Given as goal

abbrev pub invariant-loop-i : goal.invariant-loop-i
invariant-loop-i l = (l.sagas ≡ saga_count l.tables) × (l.sum ≤ l.i * 600) × (l.sum ≡ owed_below l.tables l.state l.i)
