use mathlib.Core.Path.{◌≡◌}
use Prim.Native.Nat.{◌*◌, ◌≤◌, min}
use Rattle.terms.specs.Limits.{most_sagas}
use Rattle.tables.proofs.SortLaws.{Passed}
use Rattle.tables.proofs.sort_of.Given as goal

abbrev pub invariant-loop-steps : goal.invariant-loop-steps
invariant-loop-steps l = (l.g ≡ min l.fn.tables.sagas most_sagas) × (l.first ≤ l.t) × (l.first ≤ 510 * l.steps-index) × Passed l.fn.tables l.t l.steps-index l.first
