use mathlib.Core.Path.{◌≡◌}
use mathlib.Core.Bool.{true}
use Prim.Native.Nat.{◌+◌, ◌-◌, ◌≤◌}
use lib.ListN.{length, take, drop}
use Rattle.plan.specs.Lines.{lines_of}
use Rattle.script.specs.Forms.{forms, most_fields}
use Rattle.script.specs.Scripts.{first_says}
use Rattle.script.proofs.RowLaws.{few, every}
use Rattle.script.proofs.first_said.Given as goal

abbrev pub invariant-loop-at : goal.invariant-loop-at
invariant-loop-at l = (length l.room ≡ length l.initial.room) × (take l.from l.room ≡ take l.from l.initial.room) × (l.from + most_fields ≤ length l.room) × (every few (lines_of (drop l.at l.rows)) ≡ true) × (first_says forms l.letter l.line (take l.from l.initial.room) ≡ first_says (lines_of (drop l.at l.rows)) l.letter l.line (take l.from l.initial.room))

abbrev pub decreases-loop-at : goal.decreases-loop-at
decreases-loop-at l = length l.rows - l.at
