-- Laws of numbers in decimal.
use Prim.Native.Nat.{ℕ, zero, suc, ◌+◌, ◌*◌, ◌/◌, ◌%◌, ◌^◌, ◌≤◌, ◌<◌}
use mathlib.Core.Path.{◌≡◌, sym, ap, ◌∙◌}
use mathlib.Core.Bool.{cond}
use mathlib.Core.List.{List, [], ◌∷◌, ◌++◌}
use native.Mathlib.Nat.{pow-suc}
use native.Mathlib.Omega.{arith}
use borrow.Author.Tests.{lt-ltb, le-ltb}
use lib.Dec.{ltb}
use lib.ListN.{length, length-append}
use Rattle.laws.proofs.Bools.{bool_cases}
use Rattle.listing.specs.Texts.{with_byte, with_all}
use Rattle.listing.proofs.TextLaws.{all_one, all_append}
use Rattle.listing.specs.Words.{digits_from, decimal}

-- ---- how many digits

digits_le : (k n : ℕ) → length (digits_from k n) ≤ k
unfolding digits_from
digits_le zero n = omega arith
digits_le (suc k) n =
    bool_cases (ltb n 10) (λ t. rw t (omega arith)) (λ f. rw f (simp length-append (omega (arith, digits_le k (n / 10)))))

pub decimal-le : (n : ℕ) → length (decimal n) ≤ 20
unfolding decimal
decimal-le n = digits_le 20 n

tenth : (n p : ℕ) → n < p * 10 → n / 10 < p
tenth n p h = omega arith

-- no more than its size asks for
digits-few : (k m n : ℕ) → n < 10 ^ suc m → length (digits_from k n) ≤ suc m
unfolding digits_from
digits-few zero m n h = omega arith
digits-few (suc k) zero n h = rw (lt-ltb n 10 (omega arith)) (omega arith)
digits-few (suc k) (suc m) n h =
    bool_cases (ltb n 10) (λ t. rw t (omega arith))
    (λ f. rw f (simp length-append (omega (arith, digits-few k m (n / 10) (tenth n (10 ^ suc m) (rw (pow-suc 10 (suc m)) at h))))))

pub decimal-few : (m n : ℕ) → n < 10 ^ suc m → length (decimal n) ≤ suc m
unfolding decimal
decimal-few m n h = digits-few 20 m n h

-- ---- digit after digit

-- room for one digit more than needed changes nothing
digits_more : (k n : ℕ) → n < 10 ^ suc k → digits_from (suc k) n ≡ digits_from (suc (suc k)) n
unfolding digits_from
digits_more zero n h = rw (lt-ltb n 10 (omega arith))
digits_more (suc k) n h =
    ap (λ (l : List ℕ). cond (ltb n 10) ((48 + n) ∷ []) (l ++ ((48 + n % 10) ∷ [])))
    (digits_more k (n / 10) (tenth n (10 ^ suc k) (rw (pow-suc 10 (suc k)) at h)))

pub decimal-small : (n : ℕ) → n < 10 → decimal n ≡ (48 + n) ∷ []
unfolding decimal digits_from
decimal-small n h = rw (lt-ltb n 10 h)

digits_last : (k n : ℕ) → 10 ≤ n → digits_from (suc k) n ≡ digits_from k (n / 10) ++ ((48 + n % 10) ∷ [])
unfolding digits_from
digits_last k n h = rw (le-ltb n 10 h)

pub decimal-more : (n : ℕ) → 10 ≤ n → n < 2 ^ 64 → decimal n ≡ decimal (n / 10) ++ ((48 + n % 10) ∷ [])
unfolding decimal
decimal-more n l h =
    digits_last 19 n l ∙ ap (λ (d : List ℕ). d ++ ((48 + n % 10) ∷ [])) (digits_more 18 (n / 10) (omega arith))

-- the last digit after the others
pub number-last : (text front : List ℕ) (n : ℕ) → 10 ≤ n → n < 2 ^ 64 → front ≡ with_all text (decimal (n / 10))
    → with_byte front (48 + n % 10) ≡ with_all text (decimal n)
number-last text front n l h e =
    rw (e, decimal-more n l h, all_append text (decimal (n / 10)) ((48 + n % 10) ∷ []))
    (sym (all_one (with_all text (decimal (n / 10))) (48 + n % 10)))
