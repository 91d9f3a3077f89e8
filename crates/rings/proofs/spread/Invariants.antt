use Prim.Native.Nat.{ℕ, ◌<◌, ◌-◌, ◌^◌}
use mathlib.Core.Bool.{Bool}
use mathlib.Core.List.{List}
use Rattle.ties.specs.Ties.{ties_of}
use Rattle.rings.specs.Passes.{read_at}
use Rattle.rings.proofs.SpreadLaws.{Known}
use Rattle.rings.proofs.spread.Given as goal

-- who stands before whom
abbrev pub Order : List ℕ → ℕ → ℕ → ℕ → Bool
Order l total = ties_of total (read_at l)

abbrev pub invariant-loop-total : goal.invariant-loop-total
invariant-loop-total l = (l.reached < 2 ^ 64) × Known (Order l.ops l.total) l.start 0 l.reached

abbrev pub decreases-loop-total : goal.decreases-loop-total
decreases-loop-total l = 2 ^ 64 - l.reached
