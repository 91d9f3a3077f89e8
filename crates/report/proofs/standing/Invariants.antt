use mathlib.Core.Path.{◌≡◌}
use Rattle.laws.specs.Index.{tabulate}
use Rattle.terms.specs.Limits.{most_transactions}
use Rattle.report.proofs.RowLaws.{filled}
use Rattle.report.proofs.standing.Given as goal

abbrev pub invariant-loop-a : goal.invariant-loop-a
invariant-loop-a l = l.rows ≡ tabulate most_transactions (filled l.row-items l.a)
