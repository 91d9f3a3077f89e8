use mathlib.Core.Path.{◌≡◌}
use mathlib.Core.Bool.{false}
use Rattle.laws.specs.Index.{any_below}
use Rattle.sets.proofs.RowLaws.{in_row}
use Rattle.tables.proofs.has_circle.Given as goal

-- none of the first t leads back to itself
abbrev pub invariant-loop-t : goal.invariant-loop-t
invariant-loop-t l = any_below l.t (λ k. in_row l.row-items k k) ≡ false
