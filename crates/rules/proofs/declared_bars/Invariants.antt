use Prim.Native.Nat.{min}
use mathlib.Core.Path.{◌≡◌}
use mathlib.Core.Bool.{false}
use Rattle.laws.specs.Index.{any_below}
use Rattle.terms.specs.Limits.{most_dependencies}
use Rattle.sheet.specs.Sheet.{declared_on}
use Rattle.rules.specs.Lent.{transactions_in}
use Rattle.rules.proofs.RuleLaws.{bars_on}
use Rattle.rules.proofs.declared_bars.Given as goal

abbrev pub invariant-loop-i : goal.invariant-loop-i
invariant-loop-i l = (l.n ≡ min (declared_on l.sheet) most_dependencies) × (any_below l.i (bars_on l.begins l.sheet (transactions_in l.transactions) l.t) ≡ false)
