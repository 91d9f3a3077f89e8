-- How many pass a test and which is the lowest; who stands in a list.
use Prim.Native.Nat.{ℕ, zero, suc, ◌+◌, ◌≤◌, ◌<◌}
use native.Mathlib.Omega.{arith}
use mathlib.Core.Path.{◌≡◌, refl, sym, ap, ◌∙◌}
use mathlib.Core.Bool.{Bool, true, false, ◌||◌, or_assoc, or-false}
use mathlib.Core.Logic.{◌≢◌}
use mathlib.Core.List.{List, [], ◌∷◌, ◌++◌}
use lib.Dec.{eqb}
use borrow.Author.Tests.{eq-eqb, eqb-true}
use Rattle.laws.specs.Index.{one, count_below, first_below}
use Rattle.laws.proofs.Bools.{bool_cases, clash, or_left, or_right}
use Rattle.laws.proofs.SameLaws.{count_same}
use Rattle.replay.specs.Replay.{listed}

-- ---- the lowest that passes

-- one that is found passes
pub first_passes : (n : ℕ) (f : ℕ → Bool) → first_below n f < n → f (first_below n f) ≡ true
unfolding first_below
first_passes zero f l = absurd (omega arith)
first_passes (suc n) f l = bool_cases (f zero) (λ e. rw e e) (λ e. rw e (first_passes n (λ i. f (suc i)) (omega (arith, rw e at l))))

-- none below it does
pub below-first : (n : ℕ) (f : ℕ → Bool) (c : ℕ) → c < first_below n f → f c ≡ false
unfolding first_below
below-first zero f c l = absurd (omega arith)
below-first (suc n) f zero l = bool_cases (f zero) (λ e. absurd (omega (arith, rw e at l))) (λ e. e)
below-first (suc n) f (suc c) l =
    bool_cases (f zero) (λ e. absurd (omega (arith, rw e at l))) (λ e. below-first n (λ i. f (suc i)) c (omega (arith, rw e at l)))

-- ---- how many pass

one-most : (b : Bool) → one b ≤ 1
one-most true = omega arith
one-most false = omega arith

pub count_most : (n : ℕ) (f : ℕ → Bool) → count_below n f ≤ n
unfolding count_below
count_most zero f = omega arith
count_most (suc n) f = omega (arith, one-most (f zero), count_most n (λ i. f (suc i)))

pub count_none : (n : ℕ) (f : ℕ → Bool) → count_below n f ≡ 0 → (i : ℕ) → i < n → f i ≡ false
unfolding count_below
count_none zero f e i l = absurd (omega arith)
count_none (suc n) f e zero l = bool_cases (f zero) (λ h. absurd (omega (arith, rw h at e))) (λ h. h)
count_none (suc n) f e (suc i) l = count_none n (λ k. f (suc k)) (omega (arith, e)) i (omega arith)

-- one passes no longer, and the others do as before
pub count_less : (n : ℕ) (f g : ℕ → Bool) (j : ℕ) → j < n → f j ≡ true → g j ≡ false → ((i : ℕ) → i ≢ j → g i ≡ f i)
    → count_below n g + 1 ≡ count_below n f
unfolding count_below
count_less zero f g j l x y same = absurd (omega arith)
count_less (suc n) f g zero l x y same =
    rw (x, y) (omega (arith, count_same n (λ i. g (suc i)) (λ i. f (suc i)) (λ i h. same (suc i) (λ e. omega arith))))
count_less (suc n) f g (suc j) l x y same =
    rw (same zero (λ e. omega arith))
    (omega (arith, count_less n (λ i. f (suc i)) (λ i. g (suc i)) j (omega arith) x y (λ i d. same (suc i) (λ e. d (omega arith)))))

-- ---- who stands in a list

pub listed-append : (xs ys : List ℕ) (t : ℕ) → listed (xs ++ ys) t ≡ (listed xs t || listed ys t)
unfolding listed
listed-append [] ys t = refl
listed-append (x ∷ xs) ys t =
    ap (λ (b : Bool). eqb x t || b) (listed-append xs ys t) ∙ sym (or_assoc (eqb x t) (listed xs t) (listed ys t))

-- one more at the end
pub listed_more : (xs : List ℕ) (b t : ℕ) → listed (xs ++ (b ∷ [])) t ≡ (listed xs t || eqb b t)
unfolding listed
listed_more xs b t = listed-append xs (b ∷ []) t ∙ ap (λ (x : Bool). listed xs t || x) (or-false (eqb b t))

pub listed_here : (xs ys : List ℕ) (t : ℕ) → listed (xs ++ (t ∷ ys)) t ≡ true
unfolding listed
listed_here xs ys t =
    listed-append xs (t ∷ ys) t ∙ or_right (listed xs t) (eqb t t || listed ys t) (or_left (eqb t t) (listed ys t) (eq-eqb t t refl))

-- whoever is listed has a place in the list
pub record Place (l : List ℕ) (t : ℕ) : Type 0 where
  pub earlier : List ℕ
  pub later : List ℕ
  pub split : l ≡ earlier ++ (t ∷ later)

pub place_of : (l : List ℕ) (t : ℕ) → listed l t ≡ true → Place l t
unfolding listed
place_of [] t h = clash h refl
place_of (x ∷ l) t h =
    bool_cases (eqb x t)
    (λ e. record { earlier = []; later = l; split = ap (λ (y : ℕ). y ∷ l) (eqb-true x t e) })
    (λ e.
    let w = place_of l t (rw e at h) in
    record { earlier = x ∷ w.earlier; later = w.later; split = ap (λ (k : List ℕ). x ∷ k) w.split })
