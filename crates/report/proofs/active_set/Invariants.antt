use mathlib.Core.Path.{◌≡◌}
use Rattle.sets.specs.Sets.{set_of}
use Rattle.report.specs.Report.{active_in}
use Rattle.report.proofs.active_set.Given as goal

abbrev pub invariant-loop-t : goal.invariant-loop-t
invariant-loop-t l = l.set ≡ set_of l.t (active_in l.transaction-items)
