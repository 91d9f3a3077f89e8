use mathlib.Core.Path.{◌≡◌}
use mathlib.Core.Bool.{false}
use Rattle.laws.specs.Index.{any_below}
use Rattle.cells.proofs.DirtyLaws.{dirties-in}
use Rattle.cells.proofs.dirty_at.Given as goal

abbrev pub invariant-loop-i : goal.invariant-loop-i
invariant-loop-i l = any_below l.i (dirties-in l.ops l.t l.j) ≡ false
