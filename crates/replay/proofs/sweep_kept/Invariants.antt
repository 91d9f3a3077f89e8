use Prim.Native.Nat.{◌≤◌, ℕ}
use Rattle.ties.specs.Operations.{size, op_at}
use Rattle.ties.specs.declared.Operation.{Operation}
use Rattle.ties.specs.declared.Ops.{Ops}
use Rattle.rows.specs.Rows.{NothingMet, Swept}
use Rattle.replay.specs.Replay.{kept}
use Rattle.replay.proofs.sweep_kept.Given as goal

abbrev pub kept_at : Ops → ℕ → Operation
kept_at ops q = kept (op_at ops q)

abbrev pub invariant-loop-i : goal.invariant-loop-i
invariant-loop-i l = (l.i ≤ size l.ops) × (NothingMet l.initial.met → Swept (size l.ops) (kept_at l.ops) l.i l.met)
