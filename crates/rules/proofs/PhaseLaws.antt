-- Phases by a number: 0 idle, 1 active, 2 committed, 3 aborted; so that facts about phases are facts about numbers.
use Prim.Native.Nat.{ℕ, ◌≤◌}
use native.Mathlib.Omega.{arith}
use mathlib.Core.Path.{◌≡◌, refl}
use mathlib.Core.Bool.{true, false, true≢false, false≢true}
use mathlib.Core.Logic.{◌≢◌}
use Rattle.rules.specs.Lent.{phase_code}
use Rattle.rules.specs.States.{is_aborted, is_active, is_committed, is_idle}
use Rattle.rules.specs.declared.Phase.{Phase}
use Rattle.rules.specs.declared.Phase.TheVariants.{Aborted, Active, Committed, Idle}

-- the number that a lent number has for it
abbrev pub code : Phase → ℕ
code p = phase_code p

pub code-le : (p : Phase) → code p ≤ 3
code-le Idle = omega arith
code-le Active = omega arith
code-le Committed = omega arith
code-le Aborted = omega arith

pub code-inj : (p q : Phase) → code p ≡ code q → p ≡ q
code-inj Idle Idle e = refl
code-inj Idle Active e = absurd (omega arith)
code-inj Idle Committed e = absurd (omega arith)
code-inj Idle Aborted e = absurd (omega arith)
code-inj Active Idle e = absurd (omega arith)
code-inj Active Active e = refl
code-inj Active Committed e = absurd (omega arith)
code-inj Active Aborted e = absurd (omega arith)
code-inj Committed Idle e = absurd (omega arith)
code-inj Committed Active e = absurd (omega arith)
code-inj Committed Committed e = refl
code-inj Committed Aborted e = absurd (omega arith)
code-inj Aborted Idle e = absurd (omega arith)
code-inj Aborted Active e = absurd (omega arith)
code-inj Aborted Committed e = absurd (omega arith)
code-inj Aborted Aborted e = refl

-- each test, both ways
pub idle-is : (p : Phase) → is_idle p ≡ true → code p ≡ 0
idle-is Idle e = refl
idle-is Active e = absurd (false≢true e)
idle-is Committed e = absurd (false≢true e)
idle-is Aborted e = absurd (false≢true e)

pub active-is : (p : Phase) → is_active p ≡ true → code p ≡ 1
active-is Idle e = absurd (false≢true e)
active-is Active e = refl
active-is Committed e = absurd (false≢true e)
active-is Aborted e = absurd (false≢true e)

pub active-not : (p : Phase) → is_active p ≡ false → code p ≢ 1
active-not Idle e = omega arith
active-not Active e = absurd (true≢false e)
active-not Committed e = omega arith
active-not Aborted e = omega arith

pub committed_is : (p : Phase) → is_committed p ≡ true → code p ≡ 2
committed_is Idle e = absurd (false≢true e)
committed_is Active e = absurd (false≢true e)
committed_is Committed e = refl
committed_is Aborted e = absurd (false≢true e)

pub committed-not : (p : Phase) → is_committed p ≡ false → code p ≢ 2
committed-not Idle e = omega arith
committed-not Active e = omega arith
committed-not Committed e = absurd (true≢false e)
committed-not Aborted e = omega arith

pub aborted_is : (p : Phase) → is_aborted p ≡ true → code p ≡ 3
aborted_is Idle e = absurd (false≢true e)
aborted_is Active e = absurd (false≢true e)
aborted_is Committed e = absurd (false≢true e)
aborted_is Aborted e = refl

-- the tests' values from the code
pub of-idle : (p : Phase) → code p ≡ 0 → p ≡ Idle
of-idle p e = code-inj p Idle e

pub of-active : (p : Phase) → code p ≡ 1 → p ≡ Active
of-active p e = code-inj p Active e

pub of-committed : (p : Phase) → code p ≡ 2 → p ≡ Committed
of-committed p e = code-inj p Committed e

pub of-aborted : (p : Phase) → code p ≡ 3 → p ≡ Aborted
of-aborted p e = code-inj p Aborted e

pub not-active : (p : Phase) → code p ≢ 1 → is_active p ≡ false
not-active Idle h = refl
not-active Active h = absurd (h refl)
not-active Committed h = refl
not-active Aborted h = refl

pub not_committed : (p : Phase) → code p ≢ 2 → is_committed p ≡ false
not_committed Idle h = refl
not_committed Active h = refl
not_committed Committed h = absurd (h refl)
not_committed Aborted h = refl
