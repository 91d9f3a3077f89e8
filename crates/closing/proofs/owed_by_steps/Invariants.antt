use mathlib.Core.Path.{◌≡◌}
use Prim.Native.Nat.{◌-◌, ◌≤◌}
use Rattle.laws.specs.Index.{sum_to}
use Rattle.rules.specs.States.{own}
use Rattle.closing.specs.Closing.{owed}
use Rattle.closing.proofs.owed_by_steps.Given as goal

abbrev pub invariant-loop-i : goal.invariant-loop-i
invariant-loop-i g l = (l.i - 1 ≤ l.n - 1) × (l.sum ≡ sum_to (l.i - 1) (owed l.n (own (g.S.Standing.transactions l.stand) l.first)))
