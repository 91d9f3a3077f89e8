use mathlib.Core.Path.{◌≡◌}
use Prim.Native.Nat.{◌+◌, ◌-◌, ◌≤◌}
use lib.ListN.{length, drop}
use Rattle.plan.specs.Lines.{entries_of}
use Rattle.plan.specs.Reading.{names_in, joined, ends_from}
use Rattle.plan.specs.Passes.{laid}
use Rattle.plan.proofs.put_names.Given as goal

abbrev pub invariant-loop-at : goal.invariant-loop-at
invariant-loop-at l =
    (l.at ≤ length l.text + 1) × (length l.names ≡ length l.initial.names) × (length l.ends ≡ length l.initial.ends)
    × (l.n + length (joined (names_in l.lists (entries_of (drop l.at l.text)))) ≡ l.initial.n + length (joined (names_in l.lists (entries_of l.text))))
    × (l.k + length (names_in l.lists (entries_of (drop l.at l.text))) ≡ l.initial.k + length (names_in l.lists (entries_of l.text)))
    × (laid l.initial.names l.initial.n (joined (names_in l.lists (entries_of l.text))) ≡ laid l.names l.n (joined (names_in l.lists (entries_of (drop l.at l.text)))))
    × (laid l.initial.ends l.initial.k (ends_from l.initial.n (names_in l.lists (entries_of l.text))) ≡ laid l.ends l.k (ends_from l.n (names_in l.lists (entries_of (drop l.at l.text)))))

abbrev pub decreases-loop-at : goal.decreases-loop-at
decreases-loop-at l = length l.text + 1 - l.at
