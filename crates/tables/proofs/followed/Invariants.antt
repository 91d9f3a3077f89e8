use mathlib.Core.Path.{◌≡◌}
use lib.ListN.{length}
use Rattle.terms.specs.Limits.{most_transactions}
use Rattle.sets.specs.Reach.{at, closed}
use Rattle.sets.proofs.RowLaws.{Holds, table_of, partly}
use Rattle.tables.proofs.followed.Given as goal

-- the rows gone through have taken in row k
abbrev pub invariant-loop-row : goal.invariant-loop-row
invariant-loop-row l = (length l.row-items ≡ most_transactions) × Holds l.row-items (partly l.k (table_of l.initial.row-items) l.row-index)

-- the links followed through those before k
abbrev pub invariant-loop-k : goal.invariant-loop-k
invariant-loop-k l = (length l.rows ≡ most_transactions) × Holds l.rows (at (closed l.k (table_of l.initial.rows)))
