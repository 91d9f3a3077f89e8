use mathlib.Core.Path.{◌≡◌}
use Prim.Native.Nat.{◌-◌, ◌<◌}
use lib.ListN.{length, drop}
use Rattle.plan.specs.Lines.{lines_of}
use Rattle.script.specs.Forms.{forms, form_for}
use Rattle.script.proofs.line_for.Given as goal

abbrev pub invariant-loop-form : goal.invariant-loop-form
invariant-loop-form l = (l.at < length l.rows) × (form_for forms l.letter l.fields ≡ form_for (lines_of (drop l.at l.rows)) l.letter l.fields)

abbrev pub decreases-loop-form : goal.decreases-loop-form
decreases-loop-form l = length l.rows - l.at
