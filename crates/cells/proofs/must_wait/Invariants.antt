use Prim.Native.Nat.{ℕ}
use mathlib.Core.Path.{◌≡◌}
use mathlib.Core.List.{List}
use mathlib.Core.Bool.{Bool, false}
use Rattle.laws.specs.Index.{any_below}
use Rattle.terms.specs.declared.Mark.{Mark}
use Rattle.ties.specs.Operations.{op_at}
use Rattle.ties.specs.Ties.{waits_for}
use Rattle.cells.specs.Cells.{ops_in}
use Rattle.cells.proofs.must_wait.Given as goal

-- operation i is one that t has to wait for
abbrev pub waits : List ℕ → ℕ → ℕ → ℕ → Mark → ℕ → Bool
waits l n t object mark i = waits_for t object mark (op_at (ops_in l n) i)

-- none of the first i is
abbrev pub invariant-loop-i : goal.invariant-loop-i
invariant-loop-i l = any_below l.i (waits l.ops l.n l.t l.object l.mark) ≡ false
