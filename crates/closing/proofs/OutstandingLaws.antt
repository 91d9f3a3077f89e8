-- Closing, for one saga by itself: the bound, 0 exactly when settled, no closing step at 0, and above 0 a closing move that lowers the number by one.
use Prim.Native.Nat.{ℕ, zero, suc, ◌+◌, ◌-◌, ◌*◌, ◌≤◌, ◌<◌}
use native.Mathlib.Omega.{arith}
use mathlib.Core.Path.{◌≡◌, refl, sym, ap, ◌∙◌}
use mathlib.Core.Logic.{◌≢◌}
use mathlib.Core.Bool.{Bool, true, false, cond, not, ◌&&◌}
use mathlib.Core.Option.{some}
use borrow.Author.Tests.{eqb-true, eq-eqb, ne_eqb, lt-ltb}
use lib.Dec.{ltb, eqb}
use Rattle.laws.specs.Index.{highest, one, sum_to}
use Rattle.laws.proofs.Bools.{and-off, and_on, and-rest, bool_cases, clash, not-off, off-not, on_and}
use Rattle.laws.proofs.Decisions.{lt-or, same_or}
use Rattle.laws.proofs.HighestLaws.{Highest, highest-none, highest-same, highest-some, none-highest, sum-le, sum_less, sum_same, sum-zero, zero-sum}
use Rattle.rules.specs.Rules.{undone}
use Rattle.rules.specs.States.{is_active, is_committed}
use Rattle.terms.specs.declared.Event.{Event}
use Rattle.terms.specs.declared.Event.TheVariants.{Abort, Begin, Commit}
use Rattle.rules.specs.declared.Phase.{Phase}
use Rattle.rules.specs.declared.Phase.TheVariants.{Aborted, Active, Committed, Idle}
use Rattle.rules.proofs.PhaseLaws.{active-is, active-not, code, code-inj, committed_is, committed-not, not-active, not_committed, of-aborted, of-active, of-committed}
use Rattle.closing.specs.Closing.{active_step, back_step, closing_by, event_of, next_undo, outstanding_by, owed, owed_by, settled_by, to_undo, undo_step}
use Rattle.closing.specs.declared.NextStep.{NextStep}
use Rattle.closing.specs.declared.NextStep.TheVariants.{NoStep, ToAbort, ToCommit}
use Rattle.closing.proofs.Moves.{At, Inv, Move, Moved, Next, abort-saga, abort_step, begin-saga, begin-step, begin_undo, commit-saga, commit-step, commit_undo}

-- the definitions of 'Closing', at the phase of S
abbrev pub outstanding_of : ℕ → (ℕ → Phase) → ℕ
outstanding_of n P = outstanding_by (P 0) n P

abbrev pub closing_of : ℕ → ℕ → (ℕ → Phase) → NextStep
closing_of f n P = closing_by (P 0) f n P

abbrev pub settled_of : ℕ → (ℕ → Phase) → Bool
settled_of n P = settled_by (P 0) n P

-- ---- the bound

pub owed_by-le : (p : Phase) → owed_by p ≤ 2
owed_by-le Idle = omega arith
owed_by-le Active = omega arith
owed_by-le Committed = omega arith
owed_by-le Aborted = omega arith

cond-le : (b : Bool) (x : ℕ) → x ≤ 2 → cond b x 0 ≤ 2
cond-le true x h = h
cond-le false x h = omega arith

pub owed-le : (n : ℕ) (P : ℕ → Phase) (i : ℕ) → owed n P i ≤ 2
owed-le n P i = cond-le (is_committed (P i)) (owed_by (P (n + i))) (owed_by-le (P (n + i)))

one-le : (b : Bool) → one b ≤ 1
one-le true = omega arith
one-le false = omega arith

pub to_undo-le : (n : ℕ) (P : ℕ → Phase) → to_undo n P ≤ 1 + 2 * (n - 1)
unfolding to_undo
to_undo-le n P = omega (arith, one-le (not (eqb (active_step n P) 0)), sum-le (n - 1) 2 (owed n P) (owed-le n P))

cond-bound : (b : Bool) (x n : ℕ) → 1 ≤ n → x + 1 ≤ 2 * n → cond b 1 (1 + x) ≤ 2 * n
cond-bound true x n h l = omega arith
cond-bound false x n h l = omega arith

bound_by : (p : Phase) (n : ℕ) (P : ℕ → Phase) → 1 ≤ n → outstanding_by p n P ≤ 2 * n
bound_by Idle n P h = omega arith
bound_by Active n P h = cond-bound (is_committed (P n)) (to_undo n P) n h (omega (arith, to_undo-le n P))
bound_by Committed n P h = omega arith
bound_by Aborted n P h = omega (arith, to_undo-le n P)

pub bound : (n : ℕ) (P : ℕ → Phase) → 1 ≤ n → outstanding_of n P ≤ 2 * n
bound n P h = bound_by (P 0) n P h

-- ---- 0 exactly when settled

one-zero : (b : Bool) → one (not b) ≡ 0 → b ≡ true
one-zero true e = refl
one-zero false e = absurd (omega arith)

owed-zero : (p q : Phase) → cond (is_committed p) (owed_by q) 0 ≡ 0 → is_committed p ≡ true → is_committed q ≡ true
owed-zero Idle q e h = clash h refl
owed-zero Active q e h = clash h refl
owed-zero Aborted q e h = clash h refl
owed-zero Committed Idle e h = absurd (omega arith)
owed-zero Committed Active e h = absurd (omega arith)
owed-zero Committed Committed e h = refl
owed-zero Committed Aborted e h = absurd (omega arith)

zero-owed : (p q : Phase) → (is_committed p && not (is_committed q)) ≡ false → cond (is_committed p) (owed_by q) 0 ≡ 0
zero-owed Idle q e = refl
zero-owed Active q e = refl
zero-owed Aborted q e = refl
zero-owed Committed Idle e = clash refl e
zero-owed Committed Active e = clash refl e
zero-owed Committed Committed e = refl
zero-owed Committed Aborted e = clash refl e

module _ (n : ℕ) (P : ℕ → Phase) (1≤n : 1 ≤ n) (inv : Inv n P) where
  -- nothing to undo: no step active, every committed step undone
  back-settled : At P 0 3 → to_undo n P ≡ 0 →
      (eqb (active_step n P) 0 && eqb (highest n (λ i. is_committed (P i) && not (undone n P i))) 0) ≡ true
  unfolding to_undo
  back-settled a e =
      and_on
      (eqb (active_step n P) 0)
      (eqb (highest n (λ i. is_committed (P i) && not (undone n P i))) 0)
      (one-zero (eqb (active_step n P) 0) (omega arith))
      (eq-eqb _ 0 (none-highest n (λ i. is_committed (P i) && not (undone n P i)) each))
    where
      each : (i : ℕ) → 1 ≤ i → i ≤ n → (is_committed (P i) && not (undone n P i)) ≡ false
      each i l h =
          and-off
          (is_committed (P i))
          (not (undone n P i))
          (λ t.
          not-off
          (undone n P i)
          (same_or
          i
          n
          (λ q. absurd (inv.whole (ap (λ (x : ℕ). code (P x)) (sym q) ∙ committed_is (P i) t) a))
          (λ q.
          and_on
          (ltb i n)
          (is_committed (P (n + i)))
          (lt-ltb i n (omega arith))
          (owed-zero (P i) (P (n + i)) (sum-zero (n - 1) (owed n P) (omega arith) i l (omega arith)) t))))

  settled_back : (eqb (active_step n P) 0 && eqb (highest n (λ i. is_committed (P i) && not (undone n P i))) 0) ≡ true →
      to_undo n P ≡ 0
  unfolding to_undo
  settled_back h =
      let t =
      on_and (eqb (active_step n P) 0) (eqb (highest n (λ i. is_committed (P i) && not (undone n P i))) 0) h
      in
      let u : sum_to (n - 1) (owed n P) ≡ 0 =
      zero-sum
      (n - 1)
      (owed n P)
      (λ i l r.
      zero-owed
      (P i)
      (P (n + i))
      (and-off
      (is_committed (P i))
      (not (is_committed (P (n + i))))
      (λ c.
      not-off
      (is_committed (P (n + i)))
      (on_and
      (ltb i n)
      (is_committed (P (n + i)))
      (off-not
      (undone n P i)
      (and-rest
      (is_committed (P i))
      (not (undone n P i))
      (highest-none n (λ i. is_committed (P i) && not (undone n P i)) (eqb-true _ 0 t.1) i l (omega arith))
      c))
      ).1)))
      in
      rw (t.0, u)

  -- for a begun saga
  pub zero_settled : code (P 0) ≢ 0 → outstanding_of n P ≡ 0 → settled_of n P ≡ true
  zero_settled b = go (P 0) refl
    where
      go : (p : Phase) → P 0 ≡ p → outstanding_by p n P ≡ 0 → settled_of n P ≡ true
      go Idle e z = absurd (b (ap code e))
      go Active e z =
          bool_cases
          (is_committed (P n))
          (λ t. absurd (omega (arith, rw t at z)))
          (λ t. absurd (omega (arith, rw t at z)))
      go Committed e z = rw e
      go Aborted e z = rw e (back-settled (ap code e) z)

  pub settled-zero : settled_of n P ≡ true → outstanding_of n P ≡ 0
  settled-zero = go (P 0) refl
    where
      go : (p : Phase) → P 0 ≡ p → settled_of n P ≡ true → outstanding_by p n P ≡ 0
      go Idle e z = clash (rw e at z) refl
      go Active e z = clash (rw e at z) refl
      go Committed e z = refl
      go Aborted e z = settled_back (rw e at z)

-- ---- the closing move

-- the event of a move, for a saga that starts at f
abbrev pub move_event : {n : ℕ} {P : ℕ → Phase} → ℕ → Move n P → Event
move_event f (begin-saga a) = Begin f
move_event f (begin-step i a b c d e) = Begin (f + i)
move_event {n} f (begin_undo i a b c d e w g) = Begin (f + (n + i))
move_event f (commit-saga a b) = Commit f
move_event f (commit-step i a b c d) = Commit (f + i)
move_event {n} f (commit_undo i a b c) = Commit (f + (n + i))
move_event f (abort-saga a b) = Abort f
move_event f (abort_step i a b c) = Abort (f + i)

-- the moves that nothing outside the saga can bar
abbrev pub Safe : {n : ℕ} {P : ℕ → Phase} → Move n P → Type 0
Safe (begin-saga a) = ⊥
Safe (begin-step i a b c d e) = ⊥
Safe (begin_undo i a b c d e w g) = Unit {0}
Safe (commit-saga a b) = Unit {0}
Safe (commit-step i a b c d) = ⊥
Safe (commit_undo i a b c) = Unit {0}
Safe (abort-saga a b) = Unit {0}
Safe (abort_step i a b c) = Unit {0}

-- x is the step of a move that nothing outside the saga can bar, and that lowers the number by one
pub record ClosingMove (f n : ℕ) (P : ℕ → Phase) (x : NextStep) : Type 0 where
  pub move : Move n P
  pub event : event_of x ≡ some (move_event f move)
  pub safe : Safe move
  pub falls : (P' : ℕ → Phase) → Moved n P P' move → outstanding_of n P' + 1 ≡ outstanding_of n P

-- what is to undo depends only on the phases of steps and undos
to_undo-same : (n : ℕ) (P P' : ℕ → Phase) → ((k : ℕ) → 1 ≤ k → code (P' k) ≡ code (P k)) → to_undo n P' ≡ to_undo n P
unfolding to_undo active_step
to_undo-same n P P' h =
    let q : (k : ℕ) → 1 ≤ k → P' k ≡ P k = λ k l. code-inj (P' k) (P k) (h k l) in
    let a : highest n (λ i. is_active (P' i)) ≡ highest n (λ i. is_active (P i)) =
    highest-same n (λ i. is_active (P' i)) (λ i. is_active (P i)) (λ i l r. ap is_active (q i l))
    in
    let b : sum_to (n - 1) (owed n P') ≡ sum_to (n - 1) (owed n P) =
    sum_same (n - 1) (owed n P') (owed n P) (λ i l r. rw (q i l, q (n + i) (omega arith)))
    in
    rw (a, b)

owed-as : (p q r : Phase) (x : ℕ) → p ≡ Committed → q ≡ r → owed_by r ≡ x → cond (is_committed p) (owed_by q) 0 ≡ x
owed-as p q r x e g h = rw (e, g) h

owed-not : (p q : Phase) → is_committed p ≡ false → cond (is_committed p) (owed_by q) 0 ≡ 0
owed-not p q e = rw e

-- an undo goes on: what its step owes falls by one
undo-falls : (n : ℕ) (P P' : ℕ → Phase) (i : ℕ) → 1 ≤ i → i < n → At P i 2 →
    ((k : ℕ) → k ≢ n + i → code (P' k) ≡ code (P k)) →
    owed_by (P' (n + i)) + 1 ≡ owed_by (P (n + i)) →
    to_undo n P' + 1 ≡ to_undo n P
unfolding to_undo active_step
undo-falls n P P' i l r c h o =
    let q : (k : ℕ) → k ≢ n + i → P' k ≡ P k = λ k d. code-inj (P' k) (P k) (h k d) in
    let a : highest n (λ i. is_active (P' i)) ≡ highest n (λ i. is_active (P i)) =
    highest-same n (λ i. is_active (P' i)) (λ i. is_active (P i)) (λ j u v. ap is_active (q j (omega arith)))
    in
    let here : P i ≡ Committed = of-committed (P i) c in
    let b : sum_to (n - 1) (owed n P') + 1 ≡ sum_to (n - 1) (owed n P) =
    sum_less
    (n - 1)
    (owed n P)
    (owed n P')
    i
    l
    (omega arith)
    (rw (q i (omega arith), here) o)
    (λ j u v w. rw (q j (omega arith), q (n + j) (omega arith)))
    in
    rw a (omega arith)

-- by the phase of S
out-active : (n : ℕ) (P : ℕ → Phase) → At P 0 1 → is_committed (P n) ≡ false → outstanding_of n P ≡ 1 + to_undo n P
out-active n P a c = rw (of-active (P 0) a, c)

out-whole : (n : ℕ) (P : ℕ → Phase) → At P 0 1 → is_committed (P n) ≡ true → outstanding_of n P ≡ 1
out-whole n P a c = rw (of-active (P 0) a, c)

out-committed : (n : ℕ) (P : ℕ → Phase) → At P 0 2 → outstanding_of n P ≡ 0
out-committed n P a = rw (of-committed (P 0) a)

out-aborted : (n : ℕ) (P : ℕ → Phase) → At P 0 3 → outstanding_of n P ≡ to_undo n P
out-aborted n P a = rw (of-aborted (P 0) a)

-- the active step aborts
step_falls : (n : ℕ) (P P' : ℕ → Phase) (a : ℕ) → Inv n P → 1 ≤ a → a ≤ n → At P a 1 → At P' a 3 →
    ((k : ℕ) → k ≢ a → code (P' k) ≡ code (P k)) →
    active_step n P ≢ 0 →
    to_undo n P' + 1 ≡ to_undo n P
unfolding to_undo active_step
step_falls n P P' a inv l r c c' h z =
    let q : (k : ℕ) → k ≢ a → P' k ≡ P k = λ k d. code-inj (P' k) (P k) (h k d) in
    let quiet : highest n (λ i. is_active (P' i)) ≡ 0 =
    none-highest
    n
    (λ i. is_active (P' i))
    (λ i u v.
    not-active
    (P' i)
    (λ w.
    same_or
    i
    a
    (λ e. let x : code (P' i) ≡ 3 = rw e c' in omega arith)
    (λ e.
    let x : code (P i) ≡ 1 = sym (h i e) ∙ w in
    lt-or
    a
    i
    (λ y. let k = inv.chain a i l y v (omega arith) in omega arith)
    (λ y. let k = inv.chain i a u (omega arith) r (omega arith) in omega arith))))
    in
    let b : sum_to (n - 1) (owed n P') ≡ sum_to (n - 1) (owed n P) =
    sum_same
    (n - 1)
    (owed n P')
    (owed n P)
    (λ i u v.
    same_or
    i
    a
    (λ e.
    owed-not (P' i) (P' (n + i)) (not_committed (P' i) (λ w. let x : code (P' i) ≡ 3 = rw e c' in omega arith))
    ∙ sym (owed-not (P i) (P (n + i)) (not_committed (P i) (λ w. let x : code (P i) ≡ 1 = rw e c in omega arith))))
    (λ e. rw (q i e, q (n + i) (omega arith))))
    in
    let d : eqb (highest n (λ i. is_active (P i))) 0 ≡ false = ne_eqb _ 0 z in
    rw (quiet, b, d) (omega arith)

module _ (f n : ℕ) (P : ℕ → Phase) (1≤n : 1 ≤ n) (inv : Inv n P) where
  -- nothing active, no undo due: nothing is owed
  nothing : active_step n P ≡ 0 → next_undo n P ≡ 0 → to_undo n P ≡ 0
  unfolding to_undo next_undo
  nothing e g =
      let u : sum_to (n - 1) (owed n P) ≡ 0 =
      zero-sum
      (n - 1)
      (owed n P)
      (λ i l r.
      zero-owed
      (P i)
      (P (n + i))
      (highest-none (n - 1) (λ i. is_committed (P i) && not (is_committed (P (n + i)))) g i l r))
      in
      rw (e, u)

  closes-step : At P 0 3 → (a : ℕ) → active_step n P ≡ suc a → ClosingMove f n P (ToAbort (f + suc a))
  unfolding active_step
  closes-step s a e =
      let h = highest-some n (λ i. is_active (P i)) a e in
      let c : At P (suc a) 1 = active-is (P (suc a)) h.here in
      record {
        move = abort_step (suc a) h.low h.high c;
        event = refl;
        safe = tt;
        falls =
            λ P' d.
            let s' : At P' 0 3 = d.other 0 (omega arith) ∙ s in
            let w = step_falls n P P' (suc a) inv h.low h.high c d.here d.other (λ z. omega arith) in
            omega (arith, out-aborted n P s, out-aborted n P' s', w);
      }

  closes-undo : At P 0 3 → active_step n P ≡ 0 → (i : ℕ) → next_undo n P ≡ suc i → ClosingMove f n P (undo_step (P (n + suc i)) (f + (n + suc i)))
  unfolding next_undo active_step
  closes-undo s z i e = go (P (n + suc i)) refl
    where
      h : Highest (n - 1) (λ i. is_committed (P i) && not (is_committed (P (n + i)))) (suc i)
      h = highest-some (n - 1) (λ i. is_committed (P i) && not (is_committed (P (n + i)))) i e

      low : suc i < n
      low = omega (arith, h.high)

      both : (is_committed (P (suc i)) ≡ true) × (not (is_committed (P (n + suc i))) ≡ true)
      both = on_and (is_committed (P (suc i))) (not (is_committed (P (n + suc i)))) h.here

      c : At P (suc i) 2
      c = committed_is (P (suc i)) both.0

      rest : code (P (suc i + 1)) ≢ 1
      rest =
          active-not
          (P (suc i + 1))
          (highest-none n (λ i. is_active (P i)) z (suc i + 1) (omega arith) (omega (arith, low)))

      next : Next n P (suc i)
      next t =
          same_or
          (suc i + 1)
          n
          (λ q. absurd (inv.whole (rw q at t) s))
          (λ q. (
            omega (arith, low),
            committed_is
                (P (n + (suc i + 1)))
                (off-not
                (is_committed (P (n + (suc i + 1))))
                (and-rest
                (is_committed (P (suc i + 1)))
                (not (is_committed (P (n + (suc i + 1)))))
                (h.above (suc i + 1) (omega arith) (omega (arith, low)))
                (ap is_committed (of-committed (P (suc i + 1)) t)))),
          ))

      go : (p : Phase) → P (n + suc i) ≡ p → ClosingMove f n P (undo_step p (f + (n + suc i)))
      go Idle g =
          record {
            move = begin_undo (suc i) h.low low (ap code g) s c rest next;
            event = refl;
            safe = tt;
            falls =
                λ P' d.
                let s' : At P' 0 3 = d.other 0 (omega arith) ∙ s in
                let w =
                undo-falls n P P' (suc i) h.low low c d.other (rw (of-active (P' (n + suc i)) d.here, g))
                in
                omega (arith, out-aborted n P s, out-aborted n P' s', w);
          }
      go Active g =
          record {
            move = commit_undo (suc i) h.low low (ap code g);
            event = refl;
            safe = tt;
            falls =
                λ P' d.
                let s' : At P' 0 3 = d.other 0 (omega arith) ∙ s in
                let w =
                undo-falls n P P' (suc i) h.low low c d.other (rw (of-committed (P' (n + suc i)) d.here, g))
                in
                omega (arith, out-aborted n P s, out-aborted n P' s', w);
          }
      go Committed g = clash both.1 (rw g)
      go Aborted g = absurd (inv.sound (suc i) h.low low (ap code g))

  closes-back : At P 0 3 → (a u : ℕ) → active_step n P ≡ a → next_undo n P ≡ u → 0 < to_undo n P → ClosingMove f n P (back_step f n P a u)
  closes-back s zero zero e g z = absurd (omega (arith, nothing e g))
  closes-back s zero (suc i) e g z = closes-undo s e i g
  closes-back s (suc a) u e g z = closes-step s a e

  closes-front : At P 0 1 → (b : Bool) → is_committed (P n) ≡ b → ClosingMove f n P (cond b (ToCommit f) (ToAbort f))
  closes-front s true c =
      record {
        move = commit-saga s (committed_is (P n) c);
        event = refl;
        safe = tt;
        falls = λ P' d. omega (arith, out-whole n P s c, out-committed n P' d.here);
      }
  closes-front s false c =
      record {
        move = abort-saga s (committed-not (P n) c);
        event = refl;
        safe = tt;
        falls =
            λ P' d.
            omega (
              arith,
              out-active n P s c,
              out-aborted n P' d.here,
              to_undo-same n P P' (λ k l. d.other k (omega arith)),
            );
      }

  -- above 0 there is a closing step
  pub closes : 0 < outstanding_of n P → ClosingMove f n P (closing_of f n P)
  closes = go (P 0) refl
    where
      go : (p : Phase) → P 0 ≡ p → 0 < outstanding_by p n P → ClosingMove f n P (closing_by p f n P)
      go Idle e z = absurd (omega arith)
      go Active e z = closes-front (ap code e) (is_committed (P n)) refl
      go Committed e z = absurd (omega arith)
      go Aborted e z = closes-back (ap code e) (active_step n P) (next_undo n P) refl refl z

  -- nothing owed: no step active, no undo due
  none-due : to_undo n P ≡ 0 → (active_step n P ≡ 0) × (next_undo n P ≡ 0)
  unfolding to_undo next_undo
  none-due e = (
    eqb-true (active_step n P) 0 (one-zero (eqb (active_step n P) 0) (omega arith)),
    none-highest (n - 1) (λ i. is_committed (P i) && not (is_committed (P (n + i))))
        (λ i l r.
        and-off (is_committed (P i)) (not (is_committed (P (n + i))))
        (λ t.
        not-off (is_committed (P (n + i)))
        (owed-zero (P i) (P (n + i)) (sum-zero (n - 1) (owed n P) (omega arith) i l r) t))),
  )

  -- and at 0 there is none
  pub none_left : outstanding_of n P ≡ 0 → closing_of f n P ≡ NoStep
  none_left = go (P 0) refl
    where
      go : (p : Phase) → P 0 ≡ p → outstanding_by p n P ≡ 0 → closing_by p f n P ≡ NoStep
      go Idle e z = refl
      go Active e z =
          bool_cases (is_committed (P n)) (λ t. absurd (omega (arith, rw t at z))) (λ t. absurd (omega (arith, rw t at z)))
      go Committed e z = refl
      go Aborted e z = let d = none-due z in rw (d.0, d.1)
