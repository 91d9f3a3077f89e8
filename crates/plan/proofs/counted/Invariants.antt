use mathlib.Core.Path.{◌≡◌}
use Prim.Native.Nat.{◌+◌, ◌-◌, ◌≤◌}
use lib.ListN.{length, drop}
use Rattle.plan.specs.Lines.{entries_of}
use Rattle.plan.specs.Reading.{first_unclear}
use Rattle.plan.specs.Passes.{no_counts}
use Rattle.plan.proofs.CountLaws.{Sum}
use Rattle.plan.proofs.counted.Given as goal

abbrev pub invariant-loop-at : goal.invariant-loop-at
invariant-loop-at l = (l.at ≤ length l.text + 1) × (1 ≤ l.number) × (l.number ≤ l.at + 1) × (l.counts.names ≤ l.at) × (l.counts.ends ≤ l.at) × (l.counts.moves ≤ l.at) × (l.counts.lists ≤ l.at) × (first_unclear 1 0 (entries_of l.text) ≡ first_unclear l.number l.counts.moves (entries_of (drop l.at l.text))) × (Sum no_counts (entries_of l.text) ≡ Sum l.counts (entries_of (drop l.at l.text)))

abbrev pub decreases-loop-at : goal.decreases-loop-at
decreases-loop-at l = length l.text + 1 - l.at
