use mathlib.Core.Path.{◌≡◌}
use mathlib.Core.Bool.{false}
use lib.ListN.{get_or}
use Rattle.sets.specs.Sets.{set_of}
use Rattle.report.proofs.set_in.Given as goal

abbrev pub invariant-loop-b : goal.invariant-loop-b
invariant-loop-b l = l.set ≡ set_of l.b (λ k. get_or l.row k false)
