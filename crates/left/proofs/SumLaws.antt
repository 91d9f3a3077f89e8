-- The sum over all sagas: how it is built up, and how one saga moves it.
use Prim.Native.Nat.{ℕ, zero, suc, ◌+◌, ◌*◌, ◌≤◌, ◌<◌}
use native.Mathlib.Numerals.{add-one}
use native.Mathlib.Omega.{arith}
use mathlib.Core.Path.{◌≡◌, refl, sym, ap, ap₂}
use mathlib.Core.Logic.{◌≢◌}
use lib.ListN.{get_or}
use lib.Seq.{get_or-take}
use borrow.Author.Tests.{lt-ltb}
use Rattle.laws.proofs.Bools.{bool_cases}
use Rattle.laws.proofs.Decisions.{same_or}
use Rattle.tables.specs.Accepted.{Well}
use Rattle.tables.specs.Counts.{saga_count}
use Rattle.tables.specs.Sorts.{first_of, steps_of}
use Rattle.tables.specs.declared.Tables.{Tables}
use Rattle.tables.proofs.SagaLaws.{owned-apart}
use Rattle.rules.specs.States.{is_committed}
use Rattle.rules.specs.declared.Phase.{Phase}
use Rattle.rules.specs.declared.Phase.TheVariants.{Idle, Active, Committed, Aborted}
use Rattle.rules.specs.declared.State.{State}
use Rattle.closing.specs.Closing.{outstanding, outstanding_by, own_of}
use Rattle.closing.specs.Settling.{owed_below}
use Rattle.closing.proofs.Demand3Holds.{has-step, out-is}
use Rattle.closing.proofs.OutstandingLaws.{bound, to_undo-le}

module _ (tables : Tables) (s : State) where
  pub below_none : 0 ≡ owed_below tables s 0
  unfolding owed_below
  below_none = refl

  pub below_more : (k : ℕ) → owed_below tables s k + outstanding tables s k ≡ owed_below tables s (k + 1)
  unfolding owed_below
  below_more k = sym (ap (owed_below tables s) (add-one k))

  -- one saga owes no more than all
  pub one_below : (i k : ℕ) → i < k → outstanding tables s i ≤ owed_below tables s k
  unfolding owed_below
  one_below i zero l = absurd (omega arith)
  one_below i (suc k) l = same_or i k (λ q. rw q (omega arith)) (λ q. omega (arith, one_below i k (omega arith)))

  -- where none owes anything
  pub nothing-below : ((i : ℕ) → outstanding tables s i ≡ 0) → (k : ℕ) → owed_below tables s k ≡ 0
  unfolding owed_below
  nothing-below h zero = refl
  nothing-below h (suc k) = ap₂ ◌+◌ (nothing-below h k) (h k)

  -- a saga owes no more than it owns, and so do all together
  pub owned_below : Well tables → (k : ℕ) → k ≤ tables.sagas → owed_below tables s k ≤ first_of tables k
  unfolding owed_below
  owned_below well zero l = omega arith
  owned_below well (suc k) l =
      omega (
        arith,
        owned_below well k (omega arith),
        out-is tables well k l s,
        bound (steps_of tables k) (own_of tables s k) (has-step tables well k l),
        owned-apart tables k (suc k) (omega arith),
      )

-- what one saga owes at most, by its steps: also in tables that are not well formed
pub by-steps : (p : Phase) (n : ℕ) (P : ℕ → Phase) → outstanding_by p n P ≤ 2 + 2 * n
by-steps Idle n P = omega arith
by-steps Active n P = bool_cases (is_committed (P n)) (λ t. rw t (omega arith)) (λ t. rw t (omega (arith, to_undo-le n P)))
by-steps Committed n P = omega arith
by-steps Aborted n P = omega (arith, to_undo-le n P)

pub outstanding-le : (tables : Tables) (s : State) (i : ℕ) → i < saga_count tables → outstanding tables s i ≤ 2 + 2 * get_or tables.steps i 0
unfolding outstanding
outstanding-le tables s i l =
    rw (lt-ltb i (saga_count tables) l)
    (omega (arith, by-steps (own_of tables s i 0) (steps_of tables i) (own_of tables s i), get_or-take tables.sagas tables.steps i 0 (omega arith)))

-- from one state to another
module _ (tables : Tables) (s t : State) where
  -- where every saga owes what it owed
  pub same-below : ((j : ℕ) → outstanding tables t j ≡ outstanding tables s j) → (k : ℕ) → owed_below tables t k ≡ owed_below tables s k
  unfolding owed_below
  same-below h zero = refl
  same-below h (suc k) = ap₂ ◌+◌ (same-below h k) (h k)

  -- where every saga does but one
  module _ (i : ℕ) (others : (j : ℕ) → j ≢ i → outstanding tables t j ≡ outstanding tables s j) where
    before-it : (k : ℕ) → k ≤ i → owed_below tables t k ≡ owed_below tables s k
    unfolding owed_below
    before-it zero l = refl
    before-it (suc k) l = ap₂ ◌+◌ (before-it k (omega arith)) (others k (λ q. omega arith))

    pub one-moved : (k : ℕ) → i < k → owed_below tables t k + outstanding tables s i ≡ owed_below tables s k + outstanding tables t i
    unfolding owed_below
    one-moved zero l = absurd (omega arith)
    one-moved (suc k) l =
        same_or i k
        (λ q. rw q (omega (arith, before-it k (omega arith))))
        (λ q. omega (arith, one-moved k (omega arith), others k (λ e. q (sym e))))
