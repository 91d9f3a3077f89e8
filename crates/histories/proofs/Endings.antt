-- An operation ends with its responsible transaction, or alone. So one that has ended and was spared by no single end belongs to a
-- transaction that has ended.
use Prim.Native.Nat.{ℕ, ◌<◌, ◌≤◌}
use native.Mathlib.Omega.{arith}
use mathlib.Core.Path.{◌≡◌, refl, ap, ◌∙◌}
use mathlib.Core.Bool.{Bool, true, false}
use mathlib.Core.Logic.{⊎_elim}
use Rattle.laws.proofs.Bools.{clash}
use Rattle.ties.specs.Operations.{is_active as is_active_op, op_at}
use Rattle.ties.specs.declared.Operation.{Operation}
use Rattle.tables.specs.Sorts.{is_plain, sort_of}
use Rattle.tables.specs.declared.Tables.{Tables}
use Rattle.judge.specs.Judge.{state_after}
use Rattle.rules.specs.States.{empty_state, phase_of}
use Rattle.judge.specs.declared.Change.{Change}
use Rattle.rules.specs.declared.State.{State}
use Rattle.histories.proofs.Invariants.{lasting-kept, lasting-start}
use Rattle.histories.proofs.Lasts.{Lasting}
use Rattle.rules.proofs.PhaseLaws.{code}
use Rattle.histories.proofs.Steps.{Step}
use Rattle.histories.proofs.Touches.{alone-may, ends_alone, every, phased, stays-over}

-- what has ended, but for the spared, by number and responsible transaction, belongs to a transaction that has ended
abbrev pub Over : (ℕ → ℕ → Bool) → State → Type 0
Over spared s =
    (p : ℕ) → p < s.ops.count → is_active_op (op_at s.ops p).fate ≡ false → spared p (op_at s.ops p).responsible ≡ false
    → 2 ≤ code (phase_of s.transactions (op_at s.ops p).responsible)

-- more are spared after the event than before it, and whatever it ends alone is
module _ (tables : Tables) (s : State) (lasts : Lasting s) (old new-spared : ℕ → ℕ → Bool)
    (more : (p r : ℕ) → new-spared p r ≡ false → old p r ≡ false) (over : Over old s) (c : Change) (w : Step tables s c)
    (alone : (p : ℕ) → ends_alone c p ≡ true → new-spared p (op_at s.ops p).responsible ≡ true) where
  pub over-kept : Over new-spared (state_after c s)
  over-kept p l =
      every tables s c w lasts
      (λ (op : Operation). is_active_op op.fate ≡ false → new-spared p op.responsible ≡ false → 2 ≤ code (phase_of (state_after c s).transactions op.responsible)) p
      (λ f a x. stays f.low a x)
      (λ fate f a x. ⊎_elim (λ z. z) (λ z. clash (alone p z) x) f.how)
      (λ r f a x. clash f.active a)
      (λ n a x. clash refl a)
      (λ u a x. absurd (omega (arith, l)))
    where
      stays : p < s.ops.count → is_active_op (op_at s.ops p).fate ≡ false → new-spared p (op_at s.ops p).responsible ≡ false
          → 2 ≤ code (phase_of (state_after c s).transactions (op_at s.ops p).responsible)
      stays low a x = stays-over tables s c (over p low a (more p (op_at s.ops p).responsible x)) (phased tables s c w (op_at s.ops p).responsible)

-- ---- what has ended, and is not a plain transaction's, belongs to a transaction that has ended: only plain ones end an operation alone

abbrev plain_held : Tables → ℕ → ℕ → Bool
plain_held tables p r = is_plain (sort_of tables r)

pub record Together (tables : Tables) (s : State) : Type 0 where
  pub lasts : Lasting s
  pub over : Over (plain_held tables) s

pub together-kept : (tables : Tables) (s : State) (c : Change) → Together tables s → Step tables s c → Together tables (state_after c s)
together-kept tables s c h w =
    record {
      lasts = lasting-kept tables s c h.lasts w;
      over =
          over-kept tables s h.lasts (plain_held tables) (plain_held tables) (λ p r x. x) h.over c w
          (λ p x. let m = alone-may tables s c w p x in ap (λ (r : ℕ). is_plain (sort_of tables r)) m.1.mine ∙ m.1.plain);
    }

pub together-start : (tables : Tables) → Together tables empty_state
together-start tables = record { lasts = lasting-start; over = λ p l a. absurd (omega arith) }
