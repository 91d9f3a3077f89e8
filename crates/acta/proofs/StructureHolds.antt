-- The dependencies that a saga's structure adds (★6): each is read off the precondition of the event.
use Prim.Native.Nat.{ℕ, suc, ◌+◌, ◌*◌, ◌-◌, ◌≤◌, ◌<◌}
use native.Mathlib.Omega.{arith}
use mathlib.Core.Path.{◌≡◌, refl, sym, ap, subst, ◌∙◌}
use mathlib.Core.Bool.{true, false, not, ◌&&◌, ◌||◌}
use mathlib.Core.Logic.{◌≢◌}
use mathlib.Core.List.{List}
use lib.Dec.{leb, ltb}
use borrow.Author.Tests.{lt-leb}
use Rattle.laws.proofs.Bools.{clash, on_and, on-not, or-rest}
use Rattle.laws.proofs.Decisions.{by_place}
use Rattle.terms.specs.declared.Event.{Event}
use Rattle.terms.specs.declared.Event.TheVariants.{Abort, Begin, Commit}
use Rattle.tables.specs.Accepted.{Well}
use Rattle.tables.specs.Sorts.{first_of, is_plain, sort_of, steps_of}
use Rattle.tables.specs.declared.Sort.{Sort}
use Rattle.tables.specs.declared.Sort.TheVariants.{Saga, Step, Undo}
use Rattle.tables.specs.declared.Tables.{Tables}
use Rattle.rules.specs.States.{Parent}
use Rattle.std.specs.Prelude.{None, Some}
use Rattle.rules.specs.States.{own, phase_of}
use Rattle.rules.specs.declared.Phase.{Phase}
use Rattle.rules.proofs.PhaseLaws.{active-is, code}
use Rattle.histories.specs.Histories.{history, reached}
use Rattle.acta.specs.Accepting.{Accepting, order_lets_begin, order_lets_commit, order_lets_abort}
use Rattle.acta.specs.Completing.{Takes}
use Rattle.acta.specs.SagaWords.{own_word}
use Rattle.acta.specs.Structure.{Structure}
use Rattle.acta.specs.Told.{IsTold}
use Rattle.acta.specs.Words.{Happens, aborted, committed, in_progress, parent}
use Rattle.acta.proofs.AcceptingHolds.{accepting}
use Rattle.acta.proofs.Runs.{accepted-there, before-it, is_history}
use Rattle.acta.proofs.SagaRunsHold.{staged}
use Rattle.acta.proofs.SagaStages.{Stage, at_rest, closed, failed, in_step, in-undo, not-begun, torn, undoing}
use Rattle.acta.proofs.SortsHold.{child_plain}
use Rattle.acta.proofs.Stages.{Form, no-undo-active, none-active, the-active, the-undo}
use Rattle.acta.proofs.StuckNever.{takes}
use Rattle.acta.proofs.ToldHolds.{is_told}

module _ (tables : Tables) (well : Well tables) (es : List Event) where
  abbrev h : List Event
  h = history tables es

  -- what was accepted behind u, its precondition held of u
  module _ (u : List Event) (e : Event) (at : Happens h u e) where
    pub taken-there : Takes tables u e
    taken-there = (takes tables u (before-it tables es u e at) e).1 (accepted-there tables es u e at)

    pub by-preconditions : Accepting tables u
    by-preconditions = subst (Accepting tables) (before-it tables es u e at) (accepting tables well u)

  begins : (u : List Event) (t : ℕ) → Happens h u (Begin t) → (x : Sort) → sort_of tables t ≡ x → order_lets_begin u x ≡ true
  begins u t at x q = subst (λ (y : Sort). order_lets_begin u y ≡ true) q (((by-preconditions u (Begin t) at).begin t).0 (taken-there u (Begin t) at)).order

  -- one that is not plain is nobody's child
  commits : (u : List Event) (t : ℕ) → Happens h u (Commit t) → (x : Sort) → sort_of tables t ≡ x → is_plain x ≡ false → order_lets_commit u x ≡ true
  commits u t at x q n = by (parent u t) refl
    where
      by : (p : Parent) → parent u t ≡ p → order_lets_commit u x ≡ true
      by None e = subst (λ (y : Sort). order_lets_commit u y ≡ true) q (((by-preconditions u (Commit t) at).commit t e).0 (taken-there u (Commit t) at)).order
      by (Some m) e = clash (ap is_plain (sym q) ∙ (child_plain tables well es u (Commit t) at t m e).0) n

  undo-parts : (u : List Event) (t f n i : ℕ) → sort_of tables t ≡ Undo f n i → Happens h u (Begin t)
      → ((aborted u f ≡ true) × (committed u (f + i) ≡ true)) × ((in_progress u (f + (i + 1)) ≡ false) × (committed u (f + (i + 1)) ≡ true → committed u (f + (n + (i + 1))) ≡ true))
  undo-parts u t f n i q at =
      let done = committed u (f + (i + 1)) in
      let undone = ltb (i + 1) n && committed u (f + (n + (i + 1))) in
      let last = not done || undone in
      let a = on_and (aborted u f) (committed u (f + i) && (not (in_progress u (f + (i + 1))) && last)) (begins u t at (Undo f n i) q) in
      let b = on_and (committed u (f + i)) (not (in_progress u (f + (i + 1))) && last) a.1 in
      let c = on_and (not (in_progress u (f + (i + 1)))) last b.1 in
      ((a.0, b.0), (on-not (in_progress u (f + (i + 1))) c.0, λ d. (on_and (ltb (i + 1) n) (committed u (f + (n + (i + 1)))) (or-rest (not done) undone c.1 (rw d))).1))

  -- ---- one at a time

  module _ (i : ℕ) (listed : i < tables.sagas) where
    abbrev P : ℕ → Phase
    P = own (reached tables h).transactions (first_of tables i)

    abbrev n : ℕ
    n = steps_of tables i

    -- nobody of a form in which no step and no undo is active
    form-none : (s j x k y : ℕ) → x ≢ 1 → y ≢ 1 → Form n P s j x k y → (a : ℕ) → 1 ≤ a → a < 2 * n → code (P a) ≢ 1
    form-none s j x k y nx ny F a l r =
        by_place (λ z. 1 ≤ z → code (P z) ≢ 1) n
        (λ b q. absurd (omega arith))
        (λ z b c q d. none-active n P s j x k y F nx z b c d)
        (λ z b c q d. no-undo-active n P s j x k y F ny z b c d)
        a r l

    -- the one step, and the one undo
    form-step : (s j k : ℕ) → Form n P s j 1 k 0 → (a : ℕ) → 1 ≤ a → a < 2 * n → code (P a) ≡ 1 → a ≡ suc j
    form-step s j k F a l r =
        by_place (λ z. 1 ≤ z → code (P z) ≡ 1 → z ≡ suc j) n
        (λ b q. absurd (omega arith))
        (λ z b c q d. the-active n P s j 1 k 0 F z b c d)
        (λ z b c q d. absurd (no-undo-active n P s j 1 k 0 F (λ e. absurd (omega arith)) z b c d))
        a r l

    form-undo : (s j x k : ℕ) → x ≢ 1 → Form n P s j x k 1 → (a : ℕ) → 1 ≤ a → a < 2 * n → code (P a) ≡ 1 → a ≡ n + k
    form-undo s j x k nx F a l r =
        by_place (λ z. 1 ≤ z → code (P z) ≡ 1 → z ≡ n + k) n
        (λ b q. absurd (omega arith))
        (λ z b c q d. absurd (none-active n P s j x k 1 F nx z b c d))
        (λ z b c q d. ap (λ (w : ℕ). n + w) (the-undo n P s j x k 1 F z b c d))
        a r l

    only_one : Stage (first_of tables i) n P (own_word (first_of tables i) n h) → (a b : ℕ) → 1 ≤ a → a < 2 * n → 1 ≤ b → b < 2 * n → code (P a) ≡ 1 → code (P b) ≡ 1 → a ≡ b
    only_one (not-begun F q) a b l r m s x y = absurd (form-none 0 0 0 0 0 (λ e. absurd (omega arith)) (λ e. absurd (omega arith)) F a l r x)
    only_one (at_rest j c F q) a b l r m s x y = absurd (form-none 1 j 0 j 0 (λ e. absurd (omega arith)) (λ e. absurd (omega arith)) F a l r x)
    only_one (in_step j c F q) a b l r m s x y = form-step 1 j j F a l r x ∙ sym (form-step 1 j j F b m s y)
    only_one (failed j c F q) a b l r m s x y = absurd (form-none 1 j 3 j 0 (λ e. absurd (omega arith)) (λ e. absurd (omega arith)) F a l r x)
    only_one (closed F q) a b l r m s x y = absurd (form-none 2 n 0 n 0 (λ e. absurd (omega arith)) (λ e. absurd (omega arith)) F a l r x)
    only_one (torn j c F q) a b l r m s x y = form-step 3 j j F a l r x ∙ sym (form-step 3 j j F b m s y)
    only_one (undoing j k z w kj jn nx ny F is q) a b l r m s x y = absurd (form-none 3 j z k 0 nx (λ e. absurd (omega arith)) F a l r x)
    only_one (in-undo j k z w kj jn nx ny F is q) a b l r m s x y = form-undo 3 j z (suc k) nx F a l r x ∙ sym (form-undo 3 j z (suc k) nx F b m s y)

  one-open : (i j k : ℕ) → i < tables.sagas → 1 ≤ j → j < 2 * steps_of tables i → 1 ≤ k → k < 2 * steps_of tables i
      → in_progress h (first_of tables i + j) ≡ true → in_progress h (first_of tables i + k) ≡ true → j ≡ k
  one-open i j k listed l r m s x y =
      let told = subst (IsTold tables h) (is_history tables es).again (is_told tables h well) in
      let f = first_of tables i in
      only_one i listed (staged tables well es i listed) j k l r m s
      (active-is (phase_of (reached tables h).transactions (f + j)) (told.active (f + j) ∙ x))
      (active-is (phase_of (reached tables h).transactions (f + k)) (told.active (f + k) ∙ y))

  pub structure : Structure tables h
  structure =
      record {
        one_at_a_time = one-open;
        step_begins = λ u t f n i q at.
            let both = on_and (in_progress u f) (leb i 1 || committed u (f + (i - 1))) (begins u t at (Step f n i) q) in
            (both.0, λ l. or-rest (leb i 1) (committed u (f + (i - 1))) both.1 (lt-leb i 1 l));
        step_commits = λ u t f n i q at. commits u t at (Step f n i) q refl;
        undo_begins = λ u t f n i q at. (undo-parts u t f n i q at).0;
        undo_waits = λ u t f n i q at. (undo-parts u t f n i q at).1;
        saga_commits = λ u f n q at. commits u f at (Saga f n) q refl;
        saga_aborts = λ u f n q at.
            on-not (committed u (f + n))
            (subst (λ (y : Sort). order_lets_abort u y ≡ true) q (((by-preconditions u (Abort f) at).abort f).0 (taken-there u (Abort f) at)).order);
      }
