use Prim.Native.Nat.{min}
use mathlib.Core.Path.{◌≡◌}
use lib.ListN.{length}
use Rattle.terms.specs.Limits.{most_transactions, most_dependencies}
use Rattle.sets.proofs.RowLaws.{Holds}
use Rattle.tables.proofs.CircleLaws.{linked_by}
use Rattle.tables.proofs.begin_links.Given as goal

-- the entries gone through are in the sets
abbrev pub invariant-loop-x : goal.invariant-loop-x
invariant-loop-x l = (l.n ≡ min l.fn.tables.declared most_dependencies) × (length l.links ≡ most_transactions) × Holds l.links (linked_by l.fn.tables l.x-index)
