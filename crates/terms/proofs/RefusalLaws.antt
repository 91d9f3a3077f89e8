-- The table of refusals has 22 numbers, and each of them names its refusal.
use Prim.Native.Nat.{◌≤◌}
use native.Mathlib.Omega.{arith}
use mathlib.Core.Path.{◌≡◌, refl}
use Rattle.std.specs.Prelude.{Ok}
use Rattle.terms.specs.Refusals.{number_of, refusal_in}
use Rattle.terms.specs.declared.Refusal.{Refusal}
use Rattle.terms.specs.declared.Refusal.TheVariants.{TooLong, Torn, BadNumber, BadEdition, BadCount, BadDependency, BadCode, NotInTables, NeverDoes, NotIdle, NotActive, NotResponsible, SagaRule, DependencyRule, DirtyRead, OnRing, MustWait, Full, NoRoom, AlreadyEnded, NeverMoves, UndoOnRing}

pub number-most : (r : Refusal) → (1 ≤ number_of r) × (number_of r ≤ 22)
number-most TooLong = (omega arith, omega arith)
number-most Torn = (omega arith, omega arith)
number-most BadNumber = (omega arith, omega arith)
number-most BadEdition = (omega arith, omega arith)
number-most BadCount = (omega arith, omega arith)
number-most BadDependency = (omega arith, omega arith)
number-most BadCode = (omega arith, omega arith)
number-most NotInTables = (omega arith, omega arith)
number-most NeverDoes = (omega arith, omega arith)
number-most NotIdle = (omega arith, omega arith)
number-most NotActive = (omega arith, omega arith)
number-most NotResponsible = (omega arith, omega arith)
number-most SagaRule = (omega arith, omega arith)
number-most DependencyRule = (omega arith, omega arith)
number-most DirtyRead = (omega arith, omega arith)
number-most OnRing = (omega arith, omega arith)
number-most MustWait = (omega arith, omega arith)
number-most Full = (omega arith, omega arith)
number-most NoRoom = (omega arith, omega arith)
number-most AlreadyEnded = (omega arith, omega arith)
number-most NeverMoves = (omega arith, omega arith)
number-most UndoOnRing = (omega arith, omega arith)

-- The number of a refusal names that refusal.
pub number-names : (r : Refusal) → refusal_in (number_of r) ≡ Ok r
unfolding refusal_in
number-names TooLong = refl
number-names Torn = refl
number-names BadNumber = refl
number-names BadEdition = refl
number-names BadCount = refl
number-names BadDependency = refl
number-names BadCode = refl
number-names NotInTables = refl
number-names NeverDoes = refl
number-names NotIdle = refl
number-names NotActive = refl
number-names NotResponsible = refl
number-names SagaRule = refl
number-names DependencyRule = refl
number-names DirtyRead = refl
number-names OnRing = refl
number-names MustWait = refl
number-names Full = refl
number-names NoRoom = refl
number-names AlreadyEnded = refl
number-names NeverMoves = refl
number-names UndoOnRing = refl
