-- The saga rules and the kinds of dependency forbid what the documents say, and nothing else.
use Prim.Native.Nat.{ℕ, ◌+◌, ◌-◌, ◌≤◌}
use mathlib.Core.Path.{◌≡◌, refl, ap}
use mathlib.Core.Bool.{Bool, true, false, not, ◌&&◌, ◌||◌}
use mathlib.Core.Logic.{◌≢◌, ◌⊎◌, inl, inr, ⊎_elim}
use lib.Dec.{leb, ltb}
use borrow.Author.Tests.{le-leb, leb-true, lt-ltb, ltb-true}
use Rattle.laws.proofs.Bools.{and_on, bool_cases, clash, is-not, not-off, not_on, off-not, on_and, on-not, or_cases, or_left, or-rest, or_right}
use Rattle.tables.specs.Dependencies.{kind_of}
use Rattle.rules.specs.Promises.{KindTable, RulesLeaveAlone, UndoTurn}
use Rattle.rules.specs.Rules.{undone}
use Rattle.rules.specs.States.{is_aborted, is_active, is_committed, own}
use Rattle.rules.specs.declared.Phase.{Phase}
use Rattle.rules.specs.declared.Phase.TheVariants.{Aborted, Active, Committed, Idle}

-- ---- a test is true of its own phase alone

is-active : (p : Phase) → is_active p ≡ true → p ≡ Active
is-active Idle e = clash e refl
is-active Active e = refl
is-active Committed e = clash e refl
is-active Aborted e = clash e refl

is-committed : (p : Phase) → is_committed p ≡ true → p ≡ Committed
is-committed Idle e = clash e refl
is-committed Active e = clash e refl
is-committed Committed e = refl
is-committed Aborted e = clash e refl

is-aborted : (p : Phase) → is_aborted p ≡ true → p ≡ Aborted
is-aborted Idle e = clash e refl
is-aborted Active e = clash e refl
is-aborted Committed e = clash e refl
is-aborted Aborted e = refl

-- ---- a step

module _ (P : ℕ → Phase) (i : ℕ) where
  abbrev turn : Bool
  turn = leb i 1 || is_committed (P (i - 1))

  turn_is : turn ≡ true → (i ≤ 1) ⊎ (P (i - 1) ≡ Committed)
  turn_is e = ⊎_elim (λ l. inl (leb-true i 1 l)) (λ c. inr (is-committed (P (i - 1)) c)) (or_cases (leb i 1) (is_committed (P (i - 1))) e)

  is-turn : (i ≤ 1) ⊎ (P (i - 1) ≡ Committed) → turn ≡ true
  is-turn h = ⊎_elim (λ l. or_left (leb i 1) (is_committed (P (i - 1))) (le-leb i 1 l)) (λ c. or_right (leb i 1) (is_committed (P (i - 1))) (ap is_committed c)) h

  step-may : not (is_active (P 0) && turn) ≡ false → (P 0 ≡ Active) × ((i ≤ 1) ⊎ (P (i - 1) ≡ Committed))
  step-may e = let b = on_and (is_active (P 0)) turn (off-not (is_active (P 0) && turn) e) in (is-active (P 0) b.0, turn_is b.1)

  may-step : (P 0 ≡ Active) × ((i ≤ 1) ⊎ (P (i - 1) ≡ Committed)) → not (is_active (P 0) && turn) ≡ false
  may-step h = not-off (is_active (P 0) && turn) (and_on (is_active (P 0)) turn (ap is_active h.0) (is-turn h.1))

-- ---- an undo

module _ (P : ℕ → Phase) (n i : ℕ) where
  abbrev rests : Bool
  rests = not (is_active (P (i + 1)))

  abbrev done : Bool
  done = not (is_committed (P (i + 1))) || undone n P (i + 1)

  abbrev all : Bool
  all = is_aborted (P 0) && (is_committed (P i) && (rests && done))

  undo-may : not all ≡ false → UndoTurn P n i
  undo-may e =
      let a = on_and (is_aborted (P 0)) (is_committed (P i) && (rests && done)) (off-not all e) in
      let b = on_and (is_committed (P i)) (rests && done) a.1 in
      let c = on_and rests done b.1 in
      record {
        saga = is-aborted (P 0) a.0;
        step = is-committed (P i) b.0;
        next_rests = λ h. clash (ap is_active h) (on-not (is_active (P (i + 1))) c.0);
        next_undone = λ h.
            let u = or-rest (not (is_committed (P (i + 1)))) (undone n P (i + 1)) c.1 (not-off (is_committed (P (i + 1))) (ap is_committed h)) in
            let d = on_and (ltb (i + 1) n) (is_committed (P (n + (i + 1)))) u in
            (ltb-true (i + 1) n d.0, is-committed (P (n + (i + 1))) d.1);
      }

  may-done : UndoTurn P n i → done ≡ true
  may-done h =
      bool_cases (is_committed (P (i + 1)))
      (λ t.
      let u = h.next_undone (is-committed (P (i + 1)) t) in
      or_right (not (is_committed (P (i + 1)))) (undone n P (i + 1))
      (and_on (ltb (i + 1) n) (is_committed (P (n + (i + 1)))) (lt-ltb (i + 1) n u.0) (ap is_committed u.1)))
      (λ t. or_left (not (is_committed (P (i + 1)))) (undone n P (i + 1)) (not_on (is_committed (P (i + 1))) t))

  may-undo : UndoTurn P n i → not all ≡ false
  may-undo h =
      not-off all
      (and_on (is_aborted (P 0)) (is_committed (P i) && (rests && done)) (ap is_aborted h.saga)
      (and_on (is_committed (P i)) (rests && done) (ap is_committed h.step)
      (and_on rests done (not_on (is_active (P (i + 1))) (is-not (is_active (P (i + 1))) (λ t. h.next_rests (is-active (P (i + 1)) t)))) (may-done h))))

-- ---- commits and aborts

module _ (p : Phase) where
  active-may : not (is_active p) ≡ false → p ≡ Active
  active-may e = is-active p (off-not (is_active p) e)

  committed-may : not (is_committed p) ≡ false → p ≡ Committed
  committed-may e = is-committed p (off-not (is_committed p) e)

  not_committed : is_committed p ≡ false → p ≢ Committed
  not_committed e h = clash (ap is_committed h) e

  committed-not : p ≢ Committed → is_committed p ≡ false
  committed-not h = is-not (is_committed p) (λ t. h (is-committed p t))

pub leaves-alone : RulesLeaveAlone
leaves-alone ts =
    record {
      plain_begins = refl;
      plain_commits = refl;
      plain_aborts = refl;
      saga_begins = λ f n. refl;
      step_begins = λ f n i. (step-may (own ts f) i, may-step (own ts f) i);
      undo_begins = λ f n i. (undo-may (own ts f) n i, may-undo (own ts f) n i);
      step_commits = λ f n i. (active-may (own ts f 0), λ h. not-off (is_active (own ts f 0)) (ap is_active h));
      saga_commits = λ f n. (committed-may (own ts f n), λ h. not-off (is_committed (own ts f n)) (ap is_committed h));
      undo_commits = λ f n i. refl;
      saga_aborts = λ f n. (not_committed (own ts f n), committed-not (own ts f n));
      step_aborts = λ f n i. refl;
    }

pub kind-table : KindTable
unfolding kind_of
kind-table = record { commits = refl; begins = refl }
