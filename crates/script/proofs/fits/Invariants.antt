use mathlib.Core.Path.{◌≡◌}
use Prim.Native.Nat.{◌≤◌}
use lib.ListN.{drop}
use Rattle.script.specs.Forms.{fits}
use Rattle.script.proofs.fits.Given as goal

abbrev pub invariant-loop-b : goal.invariant-loop-b
invariant-loop-b l = (l.n ≤ l.b-index) × (fits l.form l.fields ≡ fits (drop l.b-index l.form) (drop l.n l.fields))
