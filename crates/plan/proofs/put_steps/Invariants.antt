use mathlib.Core.Path.{◌≡◌}
use Prim.Native.Nat.{◌+◌, ◌-◌, ◌≤◌}
use lib.ListN.{length, drop}
use Rattle.plan.specs.Lines.{entries_of}
use Rattle.plan.specs.Reading.{steps_of}
use Rattle.plan.specs.Passes.{laid}
use Rattle.plan.proofs.put_steps.Given as goal

abbrev pub invariant-loop-at : goal.invariant-loop-at
invariant-loop-at l = (l.at ≤ length l.text + 1) × (length l.steps ≡ length l.initial.steps) × (l.m + length (steps_of (entries_of (drop l.at l.text))) ≤ length l.initial.steps) × (laid l.initial.steps 0 (steps_of (entries_of l.text)) ≡ laid l.steps l.m (steps_of (entries_of (drop l.at l.text))))

abbrev pub decreases-loop-at : goal.decreases-loop-at
decreases-loop-at l = length l.text + 1 - l.at
