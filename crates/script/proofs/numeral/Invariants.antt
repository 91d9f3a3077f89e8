use Rattle.script.specs.Forms.{numeral_of, figures_from, largest}
use lib.ListN.{drop}
use Prim.Native.Nat.{◌≤◌}
use mathlib.Core.Path.{◌≡◌}
use Rattle.script.proofs.numeral.Given as goal

abbrev pub invariant-loop-i : goal.invariant-loop-i
invariant-loop-i l = (l.v ≤ largest) × (numeral_of l.line ≡ figures_from l.v (drop l.i l.line))
