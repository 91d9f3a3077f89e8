-- One saga: each of the four exactly when its sentence holds, and a begun one is exactly one of three.
use Prim.Native.Nat.{ℕ, ◌+◌, ◌<◌}
use native.Mathlib.Omega.{arith}
use mathlib.Core.Path.{◌≡◌, refl, sym, ap}
use mathlib.Core.Bool.{Bool, true, false, not, ◌&&◌}
use mathlib.Core.Logic.{◌↔◌, ◌≢◌}
use borrow.Author.Tests.{lt-ltb}
use Rattle.laws.specs.Index.{one}
use Rattle.laws.proofs.Bools.{and_on, clash, is-not, not_on, on_and, on-not}
use Rattle.tables.specs.Counts.{saga_count}
use Rattle.tables.specs.declared.Tables.{Tables}
use Rattle.rules.specs.States.{is_committed, is_idle}
use Rattle.rules.specs.declared.Phase.{Phase}
use Rattle.rules.specs.declared.Phase.TheVariants.{Aborted, Active, Committed, Idle}
use Rattle.rules.specs.declared.State.{State}
use Rattle.closing.specs.Closing.{own_of, settled}
use Rattle.totals.specs.Figures.{is_open, was_backed_out, was_begun, was_committed}
use Rattle.totals.specs.Promises.{SagaStands}

-- ---- a phase by its name

active-not-idle : Active ≢ Idle
active-not-idle e = let f : ◌≡◌ {A = ℕ} 0 1 = cc in absurd (omega arith)

committed-not-idle : Committed ≢ Idle
committed-not-idle e = let f : ◌≡◌ {A = ℕ} 0 1 = cc in absurd (omega arith)

aborted-not-idle : Aborted ≢ Idle
aborted-not-idle e = let f : ◌≡◌ {A = ℕ} 0 1 = cc in absurd (omega arith)

begun-is : (p : Phase) → (not (is_idle p) ≡ true) ↔ (p ≢ Idle)
begun-is Idle = (λ e. clash refl (sym e), λ n. absurd (n refl))
begun-is Active = (λ e. active-not-idle, λ n. refl)
begun-is Committed = (λ e. committed-not-idle, λ n. refl)
begun-is Aborted = (λ e. aborted-not-idle, λ n. refl)

committed_is : (p : Phase) → (is_committed p ≡ true) ↔ (p ≡ Committed)
committed_is Idle = (λ e. clash refl (sym e), λ e. absurd (committed-not-idle (sym e)))
committed_is Active = (λ e. clash refl (sym e), λ e. ap is_committed e)
committed_is Committed = (λ e. refl, λ e. refl)
committed_is Aborted = (λ e. clash refl (sym e), λ e. ap is_committed e)

not-committed-is : (p : Phase) → (not (is_committed p) ≡ true) ↔ (p ≢ Committed)
not-committed-is p =
    (λ e c. clash ((committed_is p).1 c) (on-not (is_committed p) e), λ n. not_on (is_committed p) (is-not (is_committed p) (λ e. n ((committed_is p).0 e))))

pub saga-stands : (tables : Tables) (s : State) (i : ℕ) → SagaStands tables s i
saga-stands tables s i =
    let p = own_of tables s i 0 in
    let back = settled tables s i && not (is_committed p) in
    record {
      begun = begun-is p;
      committed = committed_is p;
      backed_out = (
        λ e.
            let both = on_and (not (is_idle p)) back e in
            let rest = on_and (settled tables s i) (not (is_committed p)) both.1 in
            ((begun-is p).0 both.0, rest.0, (not-committed-is p).0 rest.1),
        λ h. and_on (not (is_idle p)) back ((begun-is p).1 h.0) (and_on (settled tables s i) (not (is_committed p)) h.1 ((not-committed-is p).1 h.2)),
      );
      still_open = (
        λ e. let both = on_and (not (is_idle p)) (not (settled tables s i)) e in ((begun-is p).0 both.0, on-not (settled tables s i) both.1),
        λ h. and_on (not (is_idle p)) (not (settled tables s i)) ((begun-is p).1 h.0) (not_on (settled tables s i) h.1),
      );
    }

-- ---- a begun saga is committed, backed out or open, and never two of them

one_of_three : (p : Phase) (b : Bool) → (is_committed p ≡ true → b ≡ true)
    → one (is_committed p) + one (not (is_idle p) && (b && not (is_committed p))) + one (not (is_idle p) && not b) ≡ one (not (is_idle p))
one_of_three Idle b h = refl
one_of_three Active true h = refl
one_of_three Active false h = refl
one_of_three Committed true h = refl
one_of_three Committed false h = clash (h refl) refl
one_of_three Aborted true h = refl
one_of_three Aborted false h = refl

committed-settled : (tables : Tables) (s : State) (i : ℕ) → i < saga_count tables → is_committed (own_of tables s i 0) ≡ true → settled tables s i ≡ true
unfolding settled
committed-settled tables s i l e = rw (lt-ltb i (saga_count tables) l, e)

pub saga-apart : (tables : Tables) (s : State) (i : ℕ) → i < saga_count tables
    → one (was_committed tables s i) + one (was_backed_out tables s i) + one (is_open tables s i) ≡ one (was_begun tables s i)
saga-apart tables s i l = one_of_three (own_of tables s i 0) (settled tables s i) (committed-settled tables s i l)
