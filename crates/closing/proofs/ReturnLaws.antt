-- What the code returns, in the code's own terms: by the steps found active and owed, and by the phase of S.
use Prim.Native.Nat.{ℕ, zero, suc, ◌+◌, ◌-◌}
use native.Mathlib.Omega.{arith}
use mathlib.Core.Path.{◌≡◌, refl, sym, ap, ◌∙◌}
use mathlib.Core.Bool.{Bool, true, false}
use borrow.Author.Tests.{eq-eqb, ne_eqb}
use Rattle.laws.specs.Index.{sum_to}
use Rattle.tables.specs.Sorts.{saga_of}
use Rattle.terms.specs.declared.Saga.{Saga}
use Rattle.tables.specs.declared.Tables.{Tables}
use Rattle.rules.specs.States.{is_committed, own}
use Rattle.rules.specs.declared.Phase.{Phase}
use Rattle.rules.specs.declared.Phase.TheVariants.{Active}
use Rattle.rules.specs.declared.State.{State}
use Rattle.closing.specs.Closing.{active_step, back_step, closing, closing_by, is_listed, next_undo, outstanding, outstanding_by, owed, settled, settled_by, to_undo, undo_step}
use Rattle.closing.specs.declared.NextStep.TheVariants.{NoStep, ToAbort}

-- ---- what is left to undo

module _ (n : ℕ) (P : ℕ → Phase) (a : ℕ) (e : a ≡ active_step n P) where
  pub undo-no-active : a ≡ 0 → sum_to (n - 1) (owed n P) ≡ to_undo n P
  unfolding to_undo
  undo-no-active h = rw (← e, eq-eqb a 0 h) (omega arith)

  pub undo-active : (a ≡ 0 → ⊥) → 1 + sum_to (n - 1) (owed n P) ≡ to_undo n P
  unfolding to_undo
  undo-active h = rw (← e, ne_eqb a 0 h)

-- ---- what an active saga owes: 1 if its last step is committed, otherwise 1 and what its steps owe

module _ (n : ℕ) (P : ℕ → Phase) (a : P 0 ≡ Active) where
  pub owed-ready : is_committed (P n) ≡ true → 1 ≡ outstanding_by (P 0) n P
  owed-ready e = rw (a, e)

  pub owed-active : is_committed (P n) ≡ false → 1 + to_undo n P ≡ outstanding_by (P 0) n P
  owed-active e = rw (a, e)

-- ---- the closing step of an aborted saga

module _ (f n : ℕ) (P : ℕ → Phase) where
  abort-by : (a i : ℕ) → (a ≡ 0 → ⊥) → ToAbort (f + a) ≡ back_step f n P a i
  abort-by zero i h = absurd (h refl)
  abort-by (suc a) i h = refl

  undo-by : (i : ℕ) → (i ≡ 0 → ⊥) → undo_step (P (n + i)) (f + (n + i)) ≡ back_step f n P 0 i
  undo-by zero h = absurd (h refl)
  undo-by (suc i) h = refl

  module _ (a : ℕ) (e : a ≡ active_step n P) where
    pub back-abort : (a ≡ 0 → ⊥) → ToAbort (f + a) ≡ back_step f n P (active_step n P) (next_undo n P)
    back-abort h = rw (← e) (abort-by a (next_undo n P) h)

    module _ (z : a ≡ 0) (i : ℕ) (q : i ≡ next_undo n P) where
      pub back_none : i ≡ 0 → NoStep ≡ back_step f n P (active_step n P) (next_undo n P)
      back_none h = rw (sym e ∙ z, sym q ∙ h)

      pub back-undo : (i ≡ 0 → ⊥) → undo_step (P (n + i)) (f + (n + i)) ≡ back_step f n P (active_step n P) (next_undo n P)
      back-undo h = rw (sym e ∙ z, ← q) (undo-by i h)

-- ---- the saga of any index; b is the code's test whether there is one

module _ (tables : Tables) (st : State) (i : ℕ) {b : Bool} (o : b ≡ is_listed tables i) where
  module _ (h : b ≡ false) where
    pub outstanding-unlisted : 0 ≡ outstanding tables st i
    unfolding outstanding
    outstanding-unlisted = rw (sym o ∙ h)

    pub closing-unlisted : NoStep ≡ closing tables st i
    unfolding closing
    closing-unlisted = rw (sym o ∙ h)

    pub settled-unlisted : false ≡ settled tables st i
    unfolding settled
    settled-unlisted = rw (sym o ∙ h)

  -- the saga, and the phase p of S
  module _ (h : b ≡ true) (s : Saga) (q : s ≡ saga_of tables i) (p : Phase) (e : p ≡ own st.transactions s.first 0) where
    pub outstanding-at : outstanding_by p s.steps (own st.transactions s.first) ≡ outstanding tables st i
    unfolding outstanding
    outstanding-at =
        rw (sym o ∙ h, e)
        (ap (λ (x : Saga). outstanding_by (own st.transactions x.first 0) x.steps (own st.transactions x.first)) q)

    pub closing_at : closing_by p s.first s.steps (own st.transactions s.first) ≡ closing tables st i
    unfolding closing
    closing_at =
        rw (sym o ∙ h, e)
        (ap (λ (x : Saga). closing_by (own st.transactions x.first 0) x.first x.steps (own st.transactions x.first)) q)

    pub settled_at : settled_by p s.steps (own st.transactions s.first) ≡ settled tables st i
    unfolding settled
    settled_at =
        rw (sym o ∙ h, e)
        (ap (λ (x : Saga). settled_by (own st.transactions x.first 0) x.steps (own st.transactions x.first)) q)
