use mathlib.Core.Path.{◌≡◌}
use mathlib.Core.Bool.{Bool, not, ◌&&◌}
use Prim.Native.Nat.{ℕ}
use Rattle.laws.specs.Index.{highest}
use Rattle.rules.specs.States.{is_committed, own}
use Rattle.rules.specs.Rules.{undone}
use Rattle.rules.specs.declared.Phase.{Phase}
use Rattle.closing.proofs.all_undone.Given as goal

-- step i is committed and not undone
abbrev pub due : ℕ → (ℕ → Phase) → ℕ → Bool
due n P i = is_committed (P i) && not (undone n P i)

abbrev pub invariant-loop-i : goal.invariant-loop-i
invariant-loop-i g l = highest l.n (due l.n (own (g.S.Standing.transactions l.stand) l.first)) ≡ highest l.i (due l.n (own (g.S.Standing.transactions l.stand) l.first))
