-- Dirty reads among operations that numbers stand for, as a search finds them.
use Prim.Native.Nat.{ℕ, ◌+◌, ◌<◌}
use mathlib.Core.Path.{◌≡◌, sym, ap, ap₂, ◌∙◌, fun_ext}
use mathlib.Core.Bool.{Bool, true, false, ◌&&◌, and-false}
use mathlib.Core.List.{List}
use lib.ListN.{get_or}
use Rattle.laws.specs.Index.{any_below}
use Rattle.laws.proofs.Bools.{and_on, told}
use Rattle.laws.proofs.IndexLaws.{any-intro, search-miss}
use Rattle.ties.specs.declared.Operation.{Operation}
use Rattle.ties.specs.Ties.{read_by, dirties, dirty_at}
use Rattle.cells.specs.Cells.{op_in, ops_in, read_in}
use Rattle.cells.proofs.CellLaws.{op-at}

module _ (l : List ℕ) (t j : ℕ) where
  abbrev op : ℕ → Operation
  op i = op_in (get_or l i 0)

  -- operation i dirties operation j
  abbrev pub dirties-in : ℕ → Bool
  dirties-in i = dirties t (op_in (get_or l j 0)) j (op_in (get_or l i 0))

  dirty-in : (n : ℕ) → dirty_at (ops_in l n) t j ≡ (read_by t (op j) && any_below j dirties-in)
  unfolding dirty_at
  dirty-in n = ap (λ (f : ℕ → Operation). read_by t (f j) && any_below j (λ i. dirties t (f j) j (f i))) (fun_ext (op-at l n))

  pub not-read : (n : ℕ) → read_in l t j ≡ false → dirty_at (ops_in l n) t j ≡ false
  not-read n h = dirty-in n ∙ ap (λ (b : Bool). b && any_below j dirties-in) h

  -- one and two are the tests that the code made of q, which is operation j, and of p, which is operation i
  module _ (q : Operation) (e : q ≡ op j) {one : Bool} (o : one ≡ read_by t q) where
    pub none_read : one ≡ false → (n : ℕ) → false ≡ dirty_at (ops_in l n) t j
    none_read h n = sym (not-read n (told (read_by t) o e h))

    module _ (i : ℕ) (p : Operation) (d : p ≡ op i) {two : Bool} (w : two ≡ dirties t q j p) where
      met : two ≡ dirties-in i
      met = w ∙ ap₂ (λ (x y : Operation). dirties t x j y) e d

      pub found-dirty : one ≡ true → two ≡ true → i < j → (n : ℕ) → true ≡ dirty_at (ops_in l n) t j
      found-dirty h k b n =
          sym (dirty-in n ∙ and_on (read_by t (op j)) (any_below j dirties-in) (told (read_by t) o e h) (any-intro j dirties-in i b (sym met ∙ k)))

      pub not-dirty : any_below i dirties-in ≡ false → two ≡ false → any_below (i + 1) dirties-in ≡ false
      not-dirty h k = search-miss dirties-in i h met k

  pub none-dirty : (i : ℕ) → any_below i dirties-in ≡ false → i ≡ j → (n : ℕ) → false ≡ dirty_at (ops_in l n) t j
  none-dirty i h s n =
      sym (dirty-in n ∙ ap (λ (b : Bool). read_by t (op j) && b) (ap (λ (k : ℕ). any_below k dirties-in) (sym s) ∙ h) ∙ and-false (read_by t (op j)))
