use mathlib.Core.Path.{◌≡◌}
use Rattle.rings.specs.Passes.{pass_to, read_at}
use Rattle.rings.proofs.one_pass.Given as goal

abbrev pub invariant-loop-i : goal.invariant-loop-i
invariant-loop-i l = l.p ≡ pass_to l.i (read_at l.ops) l.start l.from
