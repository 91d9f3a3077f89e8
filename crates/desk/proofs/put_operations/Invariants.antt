use Prim.Native.Nat.{ℕ}
use mathlib.Core.Path.{◌≡◌}
use mathlib.Core.Bool.{true}
use Rattle.ties.specs.Operations.{op_at, size}
use Rattle.cells.specs.Cells.{fits}
use Rattle.desk.proofs.PutLaws.{Put}
use Rattle.desk.proofs.put_operations.Given as goal

abbrev pub invariant-loop-i : goal.invariant-loop-i
invariant-loop-i l = (l.total ≡ size l.made) × (((q : ℕ) → fits (op_at l.made q) ≡ true) → Put l.made l.i l.ops l.n)
