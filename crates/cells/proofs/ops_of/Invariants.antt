use Prim.Native.Nat.{min}
use mathlib.Core.Path.{◌≡◌}
use Rattle.ties.specs.Operations.{most_operations}
use Rattle.cells.proofs.CellLaws.{Copied}
use Rattle.cells.proofs.ops_of.Given as goal

abbrev pub invariant-loop-i : goal.invariant-loop-i
invariant-loop-i l = (l.accepted ≡ min l.n most_operations) × Copied l.ops l.i l.all
