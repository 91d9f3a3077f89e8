use mathlib.Core.Path.{◌≡◌}
use Prim.Native.Nat.{◌+◌, ◌-◌, ◌≤◌}
use lib.ListN.{length, drop}
use Rattle.plan.specs.Lines.{entries_of}
use Rattle.plan.specs.Reading.{lists_of}
use Rattle.plan.specs.Passes.{laid}
use Rattle.plan.proofs.put_lists.Given as goal

abbrev pub invariant-loop-at : goal.invariant-loop-at
invariant-loop-at l = (l.at ≤ length l.text + 1) × (l.moves ≤ l.at) × (length l.lists ≡ length l.initial.lists) × (l.j + length (lists_of l.moves (entries_of (drop l.at l.text))) ≤ length l.initial.lists) × (laid l.initial.lists 0 (lists_of 0 (entries_of l.text)) ≡ laid l.lists l.j (lists_of l.moves (entries_of (drop l.at l.text))))

abbrev pub decreases-loop-at : goal.decreases-loop-at
decreases-loop-at l = length l.text + 1 - l.at
