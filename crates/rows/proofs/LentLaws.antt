-- Operations in lent numbers, one of them read as another: who stands before whom.
use Prim.Native.Nat.{ℕ, ◌+◌, ◌<◌, min}
use native.Mathlib.Omega.{arith}
use mathlib.Core.Path.{◌≡◌, refl, sym, ap, ◌∙◌, fun_ext}
use mathlib.Core.Bool.{false, cond, and-true, and-false}
use mathlib.Core.List.{List}
use lib.Dec.{eqb}
use lib.ListN.{get_or}
use borrow.Author.Tests.{lt-ltb, eq-eqb, ne_eqb}
use Rattle.laws.proofs.Decisions.{same_or}
use Rattle.terms.specs.Limits.{most_transactions}
use Rattle.ties.specs.Operations.{all_held_by, most_operations, is_active, op_at, size, passed_to, given_to, given, handed, only_active, rewritten}
use Rattle.ties.specs.Ties.{ties_of, op_with, before_made, before_given, before_handed}
use Rattle.ties.specs.declared.Operation.{Operation}
use Rattle.ties.specs.declared.Ops.{Ops}
use Rattle.ties.proofs.OpsLaws.{rewritten-at, count-rewritten}
use Rattle.ties.proofs.TieLaws.{ties-same}
use Rattle.cells.specs.Cells.{ops_in}
use Rattle.cells.proofs.CellLaws.{op-at, op-numbers, size_in}
use Rattle.rows.specs.Rows.{read_at, read_handed, read_with}

-- operation q read as it is once it is given
ties-given : (ops : Ops) (q receiver : ℕ) (x : Operation) → (q < size ops → x ≡ given_to receiver (op_at ops q))
    → ties_of (size ops) (op_with ops q x) ≡ before_given ops q receiver
ties-given ops q receiver x e =
    ties-same (size ops) (op_with ops q x) (op_at after) same
    ∙ ap (λ (k : ℕ). ties_of (min k most_operations) (op_at after)) (sym (count-rewritten (only_active q) (passed_to receiver) (λ p. refl) ops))
  where
    after : Ops
    after = given q receiver ops

    same : (i : ℕ) → i < size ops → op_with ops q x i ≡ op_at after i
    same i l =
        rw (rewritten-at (only_active q) (passed_to receiver) (λ p. refl) ops i, lt-ltb i (size ops) l)
        (same_or i q
        (λ g. rw (eq-eqb i q g, and-true (is_active (op_at ops i).fate)) (e (omega arith) ∙ ap (λ (k : ℕ). given_to receiver (op_at ops k)) (sym g)))
        (λ g. rw (ne_eqb i q g, and-false (is_active (op_at ops i).fate))))

module _ (l : List ℕ) (n all : ℕ) (s : all ≡ min n most_operations) where
  whole : all ≡ size (ops_in l n)
  whole = s ∙ sym (size_in l n)

  -- nobody has the number 64
  none-handed : (i : ℕ) → read_handed l most_transactions 0 i ≡ read_at l i
  none-handed i =
      let free : eqb (read_at l i).responsible most_transactions ≡ false = ne_eqb (read_at l i).responsible most_transactions (λ e. omega (arith, (op-numbers (get_or l i 0)).1)) in
      rw (free, and-false (is_active (read_at l i).fate))

  read-with : (at : ℕ) (x : Operation) → read_with l most_transactions 0 at x ≡ op_with (ops_in l n) at x
  read-with at x = fun_ext (λ i. ap (λ (op : Operation). cond (eqb i at) x op) (none-handed i ∙ sym (op-at l n i)))

  pub order-handed : (t receiver : ℕ) (x : Operation) → ties_of all (read_with l t receiver all x) ≡ before_handed (ops_in l n) t receiver
  unfolding rewritten
  order-handed t receiver x =
      ties-same all (read_with l t receiver all x) (op_at (handed t receiver (ops_in l n))) same
      ∙ ap (λ (k : ℕ). ties_of k (op_at (handed t receiver (ops_in l n)))) whole
    where
      same : (i : ℕ) → i < all → read_with l t receiver all x i ≡ op_at (handed t receiver (ops_in l n)) i
      same i h =
          rw (ne_eqb i all (λ e. omega arith), rewritten-at (all_held_by t) (passed_to receiver) (λ k. refl) (ops_in l n) i, lt-ltb i (size (ops_in l n)) (omega (arith, whole)), op-at l n i)

  pub order_made : (x : Operation) → ties_of (all + 1) (read_with l most_transactions 0 all x) ≡ before_made (ops_in l n) x
  order_made x =
      ap (λ (f : ℕ → Operation). ties_of (all + 1) f) (read-with all x)
      ∙ ap (λ (k : ℕ). ties_of (k + 1) (op_with (ops_in l n) k x)) whole

  pub order-given : (q receiver : ℕ) (x : Operation) → (q < most_operations → x ≡ given_to receiver (read_at l q))
      → ties_of all (read_with l most_transactions 0 q x) ≡ before_given (ops_in l n) q receiver
  order-given q receiver x e =
      ap (λ (f : ℕ → Operation). ties_of all f) (read-with q x)
      ∙ ap (λ (k : ℕ). ties_of k (op_with (ops_in l n) q x)) whole
      ∙ ties-given (ops_in l n) q receiver x (λ h. e (omega (arith, whole)) ∙ ap (given_to receiver) (sym (op-at l n q)))
