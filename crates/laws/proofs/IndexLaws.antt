-- Laws of `any_below`, `tabulate` and `grid`.
use Prim.Native.Nat.{ℕ, zero, suc, ◌+◌, ◌≤◌, ◌<◌}
use native.Mathlib.Nat.{le_of_suc-le-suc, not-suc-le-zero, lt-suc_self, le_step}
use native.Mathlib.Numerals.{add-one}
use native.Mathlib.Omega.{arith}
use mathlib.Core.Path.{◌≡◌, refl, sym, ap, ap₂, ◌∙◌, fun_ext}
use mathlib.Core.Bool.{Bool, true, false, ◌&&◌, ◌||◌, false≢true, cond, or-false}
use mathlib.Core.Logic.{◌⊎◌, inl, inr}
use mathlib.Core.List.{List, [], ◌∷◌}
use lib.Dec.{eqb, ltb, eqb-suc-zero, eqb-zero-suc, eqb-suc-suc}
use lib.ListN.{length, get_or, set}
use borrow.Author.Tests.{eqb-true, lt-ltb, le-ltb}
use Rattle.laws.specs.Index.{any_below, tabulate, grid}
use Rattle.laws.proofs.Bools.{or_left, or_right, or_cases, or_off, off-or, together}
use Rattle.laws.proofs.Decisions.{same_or, lt-or}

-- ---- is there one

pub any_none : (f : ℕ → Bool) → any_below 0 f ≡ false
unfolding any_below
any_none f = refl

pub any-suc : (n : ℕ) (f : ℕ → Bool) → any_below (suc n) f ≡ (any_below n f || f n)
unfolding any_below
any-suc n f = refl

pub any-more : (n : ℕ) (f : ℕ → Bool) → any_below (n + 1) f ≡ (any_below n f || f n)
any-more n f = rw add-one (any-suc n f)

pub any-intro : (n : ℕ) (f : ℕ → Bool) (i : ℕ) → i < n → f i ≡ true → any_below n f ≡ true
unfolding any_below
any-intro zero f i l h = absurd (not-suc-le-zero l)
any-intro (suc n) f i l h =
    same_or i n (λ e. or_right (any_below n f) (f n) (rw (← e) h)) (λ e. or_left (any_below n f) (f n) (any-intro n f i (omega arith) h))

pub any-elim : (n : ℕ) (f : ℕ → Bool) → any_below n f ≡ true → (i : ℕ) × (i < n) × (f i ≡ true)
unfolding any_below
any-elim zero f h = absurd (false≢true h)
any-elim (suc n) f h = go (any-elim n f) (or_cases (any_below n f) (f n) h)
  where
    go : (any_below n f ≡ true → (i : ℕ) × (i < n) × (f i ≡ true)) → (any_below n f ≡ true) ⊎ (f n ≡ true) → (i : ℕ) × (i < suc n) × (f i ≡ true)
    go rest (inl e) = let r = rest e in (r.0, le_step r.1, r.2)
    go rest (inr e) = (n, lt-suc_self n, e)

pub any-off : (n : ℕ) (f : ℕ → Bool) → ((i : ℕ) → i < n → f i ≡ false) → any_below n f ≡ false
unfolding any_below
any-off zero f h = refl
any-off (suc n) f h = or_off (any_below n f) (f n) (any-off n f (λ i l. h i (omega arith))) (h n (omega arith))

pub off-any : (n : ℕ) (f : ℕ → Bool) → any_below n f ≡ false → (i : ℕ) → i < n → f i ≡ false
unfolding any_below
off-any zero f e i l = absurd (not-suc-le-zero l)
off-any (suc n) f e i l =
    same_or i n (λ q. rw q (off-or (any_below n f) (f n) e).1) (λ q. off-any n f (off-or (any_below n f) (f n) e).0 i (omega arith))

-- the same search over two tests that agree below the bound
pub any_same : (n : ℕ) (f g : ℕ → Bool) → ((i : ℕ) → i < n → f i ≡ g i) → any_below n f ≡ any_below n g
any_same n f g h =
    together (any_below n f) (any_below n g)
    (λ e. let r = any-elim n f e in any-intro n g r.0 r.1 (sym (h r.0 r.1) ∙ r.2))
    (λ e. let r = any-elim n g e in any-intro n f r.0 r.1 (h r.0 r.1 ∙ r.2))

-- ---- a search with an early return: b is the test that the code made at i

pub search-hit : (f : ℕ → Bool) (n i : ℕ) {b : Bool} → b ≡ f i → b ≡ true → i < n → true ≡ any_below n f
search-hit f n i o h l = sym (any-intro n f i l (sym o ∙ h))

pub search-miss : (f : ℕ → Bool) (i : ℕ) {b : Bool} → any_below i f ≡ false → b ≡ f i → b ≡ false → any_below (i + 1) f ≡ false
search-miss f i e o h = rw (any-more i f, e, sym o ∙ h)

pub search-end : (f : ℕ → Bool) (n i : ℕ) → any_below i f ≡ false → i ≡ n → false ≡ any_below n f
search-end f n i h e = sym (ap (λ (k : ℕ). any_below k f) (sym e) ∙ h)

-- ---- lists by their indices

module _ {A : Type 0} where
  pub length-tabulate : (n : ℕ) (f : ℕ → A) → length (tabulate n f) ≡ n
  unfolding tabulate
  length-tabulate zero f = refl
  length-tabulate (suc n) f = ap suc (length-tabulate n (λ i. f (suc i)))

  pub get_d_tabulate : (n : ℕ) (f : ℕ → A) (i : ℕ) (d : A) → i < n → get_or (tabulate n f) i d ≡ f i
  unfolding tabulate
  get_d_tabulate zero f i d l = absurd (not-suc-le-zero l)
  get_d_tabulate (suc n) f zero d l = refl
  get_d_tabulate (suc n) f (suc i) d l = get_d_tabulate n (λ j. f (suc j)) i d (le_of_suc-le-suc l)

  pub get_d_past : (n : ℕ) (f : ℕ → A) (i : ℕ) (d : A) → n ≤ i → get_or (tabulate n f) i d ≡ d
  unfolding tabulate
  get_d_past zero f i d l = refl
  get_d_past (suc n) f zero d l = absurd (not-suc-le-zero l)
  get_d_past (suc n) f (suc i) d l = get_d_past n (λ j. f (suc j)) i d (le_of_suc-le-suc l)

  -- a store at k
  pub set-tabulate : (n : ℕ) (f : ℕ → A) (k : ℕ) (v : A) → set (tabulate n f) k v ≡ tabulate n (λ i. cond (eqb i k) v (f i))
  unfolding tabulate
  set-tabulate zero f k v = refl
  set-tabulate (suc n) f zero v = ap (λ (l : List A). v ∷ l) (ap (tabulate n) (fun_ext (λ i. rw eqb-suc-zero)))
  set-tabulate (suc n) f (suc k) v =
      ap₂ (λ (x : A) (l : List A). x ∷ l) (rw eqb-zero-suc) (set-tabulate n (λ i. f (suc i)) k v ∙ ap (tabulate n) (fun_ext (λ i. rw eqb-suc-suc)))

-- ---- tables of n rows of n entries

pub grid-same : (n : ℕ) (f g : ℕ → ℕ → Bool) → ((a b : ℕ) → f a b ≡ g a b) → grid n f ≡ grid n g
grid-same n f g h = ap (λ (x : ℕ → ℕ → Bool). grid n x) (fun_ext (λ a. fun_ext (λ b. h a b)))

pick-or : (t x : Bool) → cond t true x ≡ (x || t)
pick-or true true = refl
pick-or true false = refl
pick-or false true = refl
pick-or false false = refl

-- entry (k, l) is set to true
pub grid-set : (n : ℕ) (f : ℕ → ℕ → Bool) (k l : ℕ) → k < n
    → set (grid n f) k (set (get_or (grid n f) k []) l true) ≡ grid n (λ a b. f a b || (eqb a k && eqb b l))
grid-set n f k l h =
    ap (λ (r : List Bool). set (grid n f) k (set r l true)) (get_d_tabulate n (λ a. tabulate n (f a)) k [] h)
    ∙ ap (λ (r : List Bool). set (grid n f) k r) (set-tabulate n (f k) l true)
    ∙ set-tabulate n (λ a. tabulate n (f a)) k (tabulate n (λ b. cond (eqb b l) true (f k b)))
    ∙ ap (tabulate n) (fun_ext (λ a. row a (eqb a k) refl))
  where
    row : (a : ℕ) (t : Bool) → eqb a k ≡ t
        → cond t (tabulate n (λ b. cond (eqb b l) true (f k b))) (tabulate n (f a)) ≡ tabulate n (λ b. f a b || (t && eqb b l))
    row a true e = ap (tabulate n) (fun_ext (λ b. rw (eqb-true a k e) (pick-or (eqb b l) (f k b))))
    row a false e = ap (tabulate n) (fun_ext (λ b. sym (or-false (f a b))))

-- an entry read back: f inside the table, false outside
pub grid-at : (n : ℕ) (f : ℕ → ℕ → Bool) (a b : ℕ) → get_or (get_or (grid n f) a []) b false ≡ (ltb a n && (ltb b n && f a b))
grid-at n f a b =
    lt-or a n
    (λ la. rw (lt-ltb a n la, get_d_tabulate n (λ x. tabulate n (f x)) a [] la)
    (lt-or b n (λ lb. rw (lt-ltb b n lb) (get_d_tabulate n (f a) b false lb)) (λ lb. rw (le-ltb b n lb) (get_d_past n (f a) b false lb))))
    (λ la. rw (le-ltb a n la, get_d_past n (λ x. tabulate n (f x)) a [] la))
