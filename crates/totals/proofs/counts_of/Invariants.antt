use mathlib.Core.Path.{◌≡◌}
use Rattle.laws.specs.Index.{count_below}
use Rattle.tables.specs.Counts.{saga_count}
use Rattle.totals.specs.Figures.{is_open, was_backed_out, was_begun, was_committed}
use Rattle.totals.proofs.counts_of.Given as goal

abbrev pub invariant-loop-i : goal.invariant-loop-i
invariant-loop-i l =
    (l.sagas ≡ saga_count l.tables)
    × (l.begun ≡ count_below l.i (was_begun l.tables l.state))
    × (l.committed ≡ count_below l.i (was_committed l.tables l.state))
    × (l.backed ≡ count_below l.i (was_backed_out l.tables l.state))
    × (l.unsettled ≡ count_below l.i (is_open l.tables l.state))
