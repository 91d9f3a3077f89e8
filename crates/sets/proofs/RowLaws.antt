-- A relation among the numbers below 64 held as 64 sets, and closed in place: for each k, each row that has k takes in row k.
use Prim.Native.Nat.{ℕ, ◌+◌, ◌<◌}
use native.Mathlib.Omega.{arith}
use native.Mathlib.Numerals.{add-one}
use mathlib.Core.Path.{◌≡◌, sym, ap, ap₂, ◌∙◌}
use mathlib.Core.Bool.{Bool, true, false, cond, ◌&&◌, ◌||◌, or-false}
use mathlib.Core.List.{List}
use lib.Bits.{bit_or}
use lib.Dec.{ltb}
use lib.ListN.{length, get_or, set}
use lib.Seq.{get_or-set_same, get_or-set_other}
use borrow.Author.Tests.{lt-ltb, le-ltb}
use Rattle.laws.specs.Index.{grid}
use Rattle.laws.proofs.Decisions.{same_or, lt-or}
use Rattle.laws.proofs.IndexLaws.{grid-at}
use Rattle.terms.specs.Limits.{most_transactions}
use Rattle.sets.specs.Reach.{at, pivot, closed, leads_to}
use Rattle.sets.specs.Sets.{mem}
use Rattle.sets.proofs.ReachLaws.{pivot-at}
use Rattle.sets.proofs.SetLaws.{mem-union}

-- b is in row a
abbrev pub in_row : List ℕ → ℕ → ℕ → Bool
in_row rows a b = mem (get_or rows a 0) b

-- the rows are this relation
abbrev pub Holds : List ℕ → (ℕ → ℕ → Bool) → Type 0
Holds rows R = (a b : ℕ) → a < most_transactions → b < most_transactions → in_row rows a b ≡ R a b

-- the table of the rows
abbrev pub table_of : List ℕ → List (List Bool)
table_of rows = grid most_transactions (in_row rows)

-- the first n rows of the table T have taken in row k
abbrev pub partly : ℕ → List (List Bool) → ℕ → ℕ → ℕ → Bool
partly k T n a b = cond (ltb a n) (at (pivot k T) a b) (at T a b)

pub rows-first : (rows : List ℕ) → Holds rows (at (table_of rows))
rows-first rows a b l m = sym (grid-at most_transactions (in_row rows) a b ∙ rw (lt-ltb a most_transactions l, lt-ltb b most_transactions m))

pub rows_none : (rows : List ℕ) → Holds rows (at (closed 0 (table_of rows)))
unfolding closed
rows_none rows = rows-first rows

pub rows_last : (rows out : List ℕ) (k : ℕ) → k ≡ most_transactions → Holds out (at (closed k (table_of rows))) → Holds out (leads_to most_transactions (in_row rows))
unfolding leads_to
rows_last rows out k e h a b l m = h a b l m ∙ ap (λ (n : ℕ). at (closed n (table_of rows)) a b) e

module _ (k : ℕ) (T : List (List Bool)) (rows : List ℕ) where
  pub partly_none : Holds rows (at T) → Holds rows (partly k T 0)
  partly_none h a b l m = rw (le-ltb a 0 (omega arith)) (h a b l m)

  pub partly-all : (n : ℕ) → n ≡ most_transactions → Holds rows (partly k T n) → Holds rows (at (pivot k T))
  partly-all n e h a b l m = h a b l m ∙ rw (lt-ltb a n (omega arith))

  module _ (n : ℕ) (small : n < most_transactions) (h : Holds rows (partly k T n)) where
    here : (b : ℕ) → b < most_transactions → in_row rows n b ≡ at T n b
    here b m = h n b small m ∙ rw (le-ltb n n (omega arith))

    other : (a : ℕ) → (a ≡ n → ⊥) → ltb a n ≡ ltb a (n + 1)
    other a e = lt-or a n (λ l. rw (lt-ltb a n l, lt-ltb a (n + 1) (omega arith))) (λ l. rw (le-ltb a n l, le-ltb a (n + 1) (omega arith)))

    module _ (low : k < most_transactions) where
      taken : {v : Bool} → in_row rows n k ≡ v → (b : ℕ) → (at T n b || (v && at T k b)) ≡ at (pivot k T) n b
      taken e b = ap (λ (v : Bool). at T n b || (v && at T k b)) (sym e ∙ here k low) ∙ sym (pivot-at k T n b)

      -- row n has k, and takes in row k
      pub partly-in : length rows ≡ most_transactions → in_row rows n k ≡ true → (row : ℕ) → ((b : ℕ) → b < most_transactions → mem row b ≡ at T k b)
          → Holds (set rows n (bit_or (get_or rows n 0) row)) (partly k T (n + 1))
      partly-in full e row r a b l m =
          same_or a n
          (λ q.
          rw (q, get_or-set_same rows n (bit_or (get_or rows n 0) row) 0 (omega arith), lt-ltb n (n + 1) (omega arith))
          (mem-union (get_or rows n 0) row b ∙ ap₂ (λ (u v : Bool). u || v) (here b m) (r b m) ∙ taken e b))
          (λ q.
          rw (get_or-set_other rows n a (bit_or (get_or rows n 0) row) 0 q, ← other a q) (h a b l m))

      -- it has not, and stays
      pub partly-out : in_row rows n k ≡ false → Holds rows (partly k T (n + 1))
      partly-out e a b l m =
          same_or a n
          (λ q. rw (q, lt-ltb n (n + 1) (omega arith)) (here b m ∙ sym (or-false (at T n b)) ∙ taken e b))
          (λ q. rw (← other a q) (h a b l m))

-- the rows were those of a table, and each has taken in row k
pub rows_more : (k : ℕ) → k < most_transactions → (T : List (List Bool)) (rows out : List ℕ) → Holds rows (at (closed k T))
    → Holds out (at (pivot k (table_of rows))) → Holds out (at (closed (k + 1) T))
unfolding closed
rows_more k low T rows out h g a b l m =
    g a b l m
    ∙ pivot-at k (table_of rows) a b
    ∙ ap₂ (λ (u v : Bool). u || v) (same a b l m) (ap₂ (λ (u v : Bool). u && v) (same a k l low) (same k b low m))
    ∙ sym (pivot-at k (closed k T) a b)
    ∙ rw (add-one k)
  where
    same : (x y : ℕ) → x < most_transactions → y < most_transactions → at (table_of rows) x y ≡ at (closed k T) x y
    same x y p q = sym (rows-first rows x y p q) ∙ h x y p q
