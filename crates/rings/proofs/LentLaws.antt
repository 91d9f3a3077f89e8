-- Operations in lent numbers: the pass over them, and who stands before whom.
use Prim.Native.Nat.{ℕ, ◌+◌, min}
use native.Mathlib.Numerals.{add-one}
use mathlib.Core.Path.{◌≡◌, sym, ap, ap₂, ◌∙◌, fun_ext}
use mathlib.Core.Bool.{Bool, true, false, not}
use mathlib.Core.List.{List}
use Rattle.laws.specs.Index.{any_below}
use Rattle.laws.proofs.Bools.{on-not, is-not, clash}
use Rattle.laws.proofs.IndexLaws.{off-any}
use Rattle.terms.specs.Limits.{most_transactions}
use Rattle.ties.specs.Operations.{most_operations, op_at, size}
use Rattle.ties.specs.Ties.{ties_of, before, on_ring}
use Rattle.ties.specs.declared.Operation.{Operation}
use Rattle.ties.proofs.TieLaws.{ties-small}
use Rattle.ties.proofs.RingLaws.{ring-free}
use Rattle.cells.specs.Cells.{ops_in}
use Rattle.cells.proofs.CellLaws.{op-at, size_in}
use Rattle.rings.specs.Passes.{passed, pass_to, read_at, preceded_by}
use Rattle.rings.specs.declared.Pass.{Pass}

-- one operation more is passed
pub pass-more : (op : ℕ → Operation) (start from i : ℕ) (q : Operation) (p : Pass) → q ≡ op i → p ≡ pass_to i op start from → passed start q p ≡ pass_to (i + 1) op start from
unfolding pass_to
pass-more op start from i q p e g = rw (add-one i) (ap₂ (passed start) e g)

module _ (l : List ℕ) (n all : ℕ) (s : all ≡ min n most_operations) where
  whole : all ≡ size (ops_in l n)
  whole = s ∙ sym (size_in l n)

  pub order-read : ties_of all (read_at l) ≡ before (ops_in l n)
  order-read = ap₂ (λ (k : ℕ) (f : ℕ → Operation). ties_of k f) whole (fun_ext (λ i. sym (op-at l n i)))

  -- nothing stands before t
  pub free-of-rings : (t : ℕ) (found : Bool) → found ≡ preceded_by (ties_of all (read_at l)) t → not found ≡ true → on_ring (ops_in l n) t ≡ false
  unfolding preceded_by
  free-of-rings t found e h =
      let off : any_below most_transactions (λ a. before (ops_in l n) a t) ≡ false = ap (λ (R : ℕ → ℕ → Bool). any_below most_transactions (λ a. R a t)) (sym order-read) ∙ sym e ∙ on-not found h in
      ring-free (ops_in l n) t
      (λ a. is-not (before (ops_in l n) a t)
      (λ b. clash b (off-any most_transactions (λ k. before (ops_in l n) k t) off a (ties-small (size (ops_in l n)) (op_at (ops_in l n)) a t b).0)))
