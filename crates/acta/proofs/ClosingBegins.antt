-- The closing steps of sagas begin none but undos.
use Prim.Native.Nat.{ℕ, zero, suc, ◌+◌, ◌-◌, ◌≤◌, ◌<◌}
use native.Mathlib.Omega.{arith}
use mathlib.Core.Path.{◌≡◌, refl, sym, ap, subst, ◌∙◌}
use mathlib.Core.Bool.{Bool, true, false, cond, not, ◌&&◌}
use mathlib.Core.List.{◌∷◌}
use mathlib.Core.Option.{Option, none, some}
use lib.Dec.{eqb}
use borrow.Author.Tests.{eqb-true}
use Rattle.laws.proofs.Bools.{bool_cases, clash, is-not, or_off}
use Rattle.laws.proofs.HighestLaws.{highest-le}
use Rattle.terms.specs.declared.Event.{Event}
use Rattle.terms.specs.declared.Event.TheVariants.{Abort, Begin, Commit}
use Rattle.tables.specs.Accepted.{Well}
use Rattle.tables.specs.Sorts.{first_of, is_undo, sort_of, steps_of}
use Rattle.tables.specs.declared.Tables.{Tables}
use Rattle.tables.proofs.SagaLaws.{sort-undo, well-steps}
use Rattle.rules.specs.States.{is_committed}
use Rattle.rules.specs.declared.Phase.{Phase}
use Rattle.rules.specs.declared.Phase.TheVariants.{Aborted, Active, Committed, Idle}
use Rattle.rules.specs.declared.State.{State}
use Rattle.judge.specs.Judge.{judged}
use Rattle.histories.specs.Histories.{run}
use Rattle.closing.specs.Closing.{active_step, back_step, closing, closing_by, event_of, is_listed, next_undo, outstanding, own_of, undo_step}
use Rattle.closing.specs.Settling.{and_on, close_all, close_one, closing_steps}
use Rattle.closing.specs.declared.NextStep.{NextStep}
use Rattle.closing.specs.declared.NextStep.TheVariants.{NoStep, ToAbort, ToBegin, ToCommit}
use Rattle.acta.specs.Words.{began, begins, occurs}
use Rattle.acta.proofs.Places.{occurs-append}

-- the step begins t
abbrev starts : NextStep → ℕ → Bool
starts NoStep t = false
starts (ToBegin x) t = eqb x t
starts (ToCommit x) t = false
starts (ToAbort x) t = false

module _ (tables : Tables) (well : Well tables) (t : ℕ) where
  abbrev OfUndo : NextStep → Type 0
  OfUndo x = starts x t ≡ true → is_undo (sort_of tables t) ≡ true

  of-undo-step : (p : Phase) (x : ℕ) → is_undo (sort_of tables x) ≡ true → OfUndo (undo_step p x)
  of-undo-step Idle x u s = subst (λ (z : ℕ). is_undo (sort_of tables z) ≡ true) (eqb-true x t s) u
  of-undo-step Active x u s = clash s refl
  of-undo-step Committed x u s = clash s refl
  of-undo-step Aborted x u s = subst (λ (z : ℕ). is_undo (sort_of tables z) ≡ true) (eqb-true x t s) u

  module _ (i : ℕ) (listed : i < tables.sagas) where
    abbrev f : ℕ
    f = first_of tables i

    abbrev n : ℕ
    n = steps_of tables i

    of-back : (P : ℕ → Phase) (a k : ℕ) → k ≤ n - 1 → OfUndo (back_step f n P a k)
    of-back P zero zero l s = clash s refl
    of-back P zero (suc k) l s = of-undo-step (P (n + suc k)) (f + (n + suc k)) (ap is_undo (sort-undo tables i (suc k) (omega arith) (omega (arith, (well-steps tables well i listed).0)))) s
    of-back P (suc a) k l s = clash s refl

    of-closing : (p : Phase) (P : ℕ → Phase) → OfUndo (closing_by p f n P)
    unfolding next_undo
    of-closing Idle P s = clash s refl
    of-closing Active P s = bool_cases (is_committed (P n)) (λ b. clash (rw b at s) refl) (λ b. clash (rw b at s) refl)
    of-closing Committed P s = clash s refl
    of-closing Aborted P s = of-back P (active_step n P) (next_undo n P) (highest-le (n - 1) (λ k. is_committed (P k) && not (is_committed (P (n + k))))) s

    of-step : (s : State) → OfUndo (closing tables s i)
    unfolding closing
    of-step s = by (is_listed tables i)
      where
        by : (b : Bool) → OfUndo (cond b (closing_by (own_of tables s i 0) f n (own_of tables s i)) NoStep)
        by true = of-closing (own_of tables s i 0) (own_of tables s i)
        by false = λ s. clash s refl

    event-starts : (x : NextStep) (e : Event) → event_of x ≡ some e → begins t e ≡ starts x t
    event-starts NoStep e q = let z : ◌≡◌ {A = ℕ} 0 1 = cc in absurd (omega arith)
    event-starts (ToBegin y) e q = let z : Begin y ≡ e = cc in sym (ap (begins t) z)
    event-starts (ToCommit y) e q = let z : Commit y ≡ e = cc in sym (ap (begins t) z)
    event-starts (ToAbort y) e q = let z : Abort y ≡ e = cc in sym (ap (begins t) z)

    steps-begin : (other : is_undo (sort_of tables t) ≡ false) (k : ℕ) (s : State) → began (closing_steps tables i s k) t ≡ false
    unfolding closing_steps occurs
    steps-begin other zero s = refl
    steps-begin other (suc k) s = by (λ x. steps-begin other k x) (event_of (closing tables s i)) refl
      where
        by : ((x : State) → began (closing_steps tables i x k) t ≡ false) → (o : Option Event) → event_of (closing tables s i) ≡ o
            → began (and_on o (λ e. e ∷ closing_steps tables i (judged tables s e).state k)) t ≡ false
        by on none q = refl
        by on (some e) q =
            or_off (begins t e) (began (closing_steps tables i (judged tables s e).state k) t)
            (is-not (begins t e) (λ b. clash (of-step s (sym (event-starts (closing tables s i) e q) ∙ b)) other)) (on (judged tables s e).state)

  pub closing-begins : is_undo (sort_of tables t) ≡ false → (s : State) (k : ℕ) → k ≤ tables.sagas → began (close_all tables s k) t ≡ false
  unfolding close_all occurs
  closing-begins other s zero l = refl
  closing-begins other s (suc k) l =
      occurs-append (begins t) (close_all tables s k) (close_one tables k (run tables s (close_all tables s k)))
      ∙ or_off (began (close_all tables s k) t) (began (close_one tables k (run tables s (close_all tables s k))) t) (closing-begins other s k (omega arith))
      (steps-begin k l other (outstanding tables (run tables s (close_all tables s k)) k) (run tables s (close_all tables s k)))
