use mathlib.Core.Path.{◌≡◌}
use Rattle.laws.specs.Index.{grid}
use Rattle.terms.specs.Limits.{most_transactions}
use Rattle.ties.proofs.TableLaws.{before_by, into}
use Rattle.ties.proofs.Ops.pairs.Given as goal

-- the ties among the first j operations, and of the first i to operation j, are marked
abbrev pub invariant-loop-i : goal.invariant-loop-i
invariant-loop-i l = l.table ≡ grid most_transactions (into l.self l.j l.i)

-- the ties among the first j operations are marked
abbrev pub invariant-loop-j : goal.invariant-loop-j
invariant-loop-j l = l.table ≡ grid most_transactions (before_by l.self l.j)
