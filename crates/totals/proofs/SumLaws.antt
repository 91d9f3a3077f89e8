-- The totals of many books are sums of counts on each.
use Prim.Native.Nat.{ℕ, zero, suc, ◌+◌, ◌*◌, ◌≤◌, ◌<◌}
use native.Mathlib.Omega.{arith}
use mathlib.Core.Path.{◌≡◌, refl, sym, ap, ◌∙◌}
use mathlib.Core.List.{List, [], ◌∷◌}
use lib.ListN.{length, take}
use borrow.Author.Tests.{lt-ltb}
use Rattle.terms.specs.Limits.{most_sagas}
use Rattle.book.specs.Reading.{reading_of}
use Rattle.totals.specs.Figures.{added_all, added_to, most_books, with_book}
use Rattle.totals.specs.Promises.{sum_over}
use Rattle.totals.specs.declared.Totals.{Totals}
use Rattle.totals.proofs.FiguresLaws.{one-too-many}

pub sum_ones : (books : List (List ℕ)) → sum_over (λ s. 1) books ≡ length books
unfolding sum_over
sum_ones [] = refl
sum_ones (s ∷ books) = omega (arith, sum_ones books)

-- three counts that add up to a fourth of each book add up over all
pub sum-apart : (f a b c : List ℕ → ℕ) → ((s : List ℕ) → a s + b s + c s ≡ f s) → (books : List (List ℕ))
    → sum_over a books + sum_over b books + sum_over c books ≡ sum_over f books
unfolding sum_over
sum-apart f a b c h [] = refl
sum-apart f a b c h (s ∷ books) = omega (arith, h s, sum-apart f a b c h books)

-- one of the first 1,000 books is read
pub is_read : (t : Totals) (s : List ℕ) → t.books < most_books → added_to t s ≡ with_book t (reading_of s)
unfolding added_to
is_read t s l = rw (lt-ltb t.books most_books l)

pub books-more : (t : Totals) (s : List ℕ) → t.books < most_books → (added_to t s).books ≡ t.books + 1
unfolding with_book
books-more t s l = ap (λ (n : Totals). n.books) (is_read t s l)

-- a total that grows by f of each book that is read, by no more than a book may have sagas
module _ (total : Totals → ℕ) (f : List ℕ → ℕ) (small : (s : List ℕ) → f s ≤ most_sagas)
    (more : (t : Totals) (s : List ℕ) → t.books < most_books → total t ≤ most_books * most_sagas → total (added_to t s) ≡ total t + f s) where
  pub total-after : (left : ℕ) (books : List (List ℕ)) (t : Totals) → t.books + left ≡ most_books → total t ≤ t.books * most_sagas
      → total (added_all t books) ≡ total t + sum_over f (take left books)
  unfolding added_all sum_over
  total-after zero [] t e b = omega arith
  total-after zero (s ∷ books) t e b =
      ap (λ (n : Totals). total (added_all n books)) (sym (one-too-many t s (omega arith)).1) ∙ total-after zero books t e b
  total-after (suc left) [] t e b = omega arith
  total-after (suc left) (s ∷ books) t e b =
      let here = more t s (omega arith) (omega arith) in
      let rest = total-after left books (added_to t s) (omega (arith, books-more t s (omega arith))) (omega (arith, books-more t s (omega arith), here, small s)) in
      omega (arith, here, rest)
