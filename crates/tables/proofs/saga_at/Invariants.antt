use mathlib.Core.Path.{◌≡◌}
use Prim.Native.Nat.{◌*◌, ◌≤◌, min}
use Rattle.terms.specs.Limits.{most_sagas}
use Rattle.tables.specs.Sorts.{first_of}
use Rattle.tables.proofs.saga_at.Given as goal

abbrev pub invariant-loop-i : goal.invariant-loop-i
invariant-loop-i l = (l.g ≡ min l.fn.tables.sagas most_sagas) × (l.i ≤ l.index) × (l.first ≤ 510 * l.i) × (l.first ≡ first_of l.fn.tables l.i)
