-- Laws of counting: one more, no more than there are, and what comes apart into three.
use Prim.Native.Nat.{ℕ, zero, suc, ◌+◌, ◌≤◌, ◌<◌}
use native.Mathlib.Omega.{arith}
use native.Mathlib.Numerals.{add-one}
use mathlib.Core.Path.{◌≡◌, refl, ap}
use mathlib.Core.Logic.{◌≢◌}
use mathlib.Core.Bool.{Bool, true, false, not}
use lib.Dec.{eqb}
use borrow.Author.Tests.{eq-eqb, ne_eqb}
use Rattle.std.specs.Int.{from_bool}
use Rattle.laws.specs.Index.{count_below, one}

one-le : (b : Bool) → one b ≤ 1
one-le true = omega arith
one-le false = omega arith

-- a test as the code counts it
pub from-one : (b : Bool) → from_bool b ≡ one b
from-one true = refl
from-one false = refl

one-both : (b : Bool) → one b + one (not b) ≡ 1
one-both true = refl
one-both false = refl

pub count-le : (n : ℕ) (f : ℕ → Bool) → count_below n f ≤ n
unfolding count_below
count-le zero f = omega arith
count-le (suc n) f = omega (arith, one-le (f zero), count-le n (λ i. f (suc i)))

count-suc : (n : ℕ) (f : ℕ → Bool) → count_below (suc n) f ≡ count_below n f + one (f n)
unfolding count_below
count-suc zero f = omega arith
count-suc (suc n) f = omega (arith, count-suc n (λ i. f (suc i)))

pub count-more : (n : ℕ) (f : ℕ → Bool) (b k : ℕ) → k ≡ count_below n f → b ≡ one (f n) → k + b ≡ count_below (n + 1) f
count-more n f b k e d = rw add-one (omega (arith, count-suc n f, e, d))

pub count_none : (f : ℕ → Bool) → 0 ≡ count_below 0 f
unfolding count_below
count_none f = refl

-- where one of three holds exactly when the whole does, their counts add up to its
pub count-apart : (n : ℕ) (f a b c : ℕ → Bool) → ((i : ℕ) → i < n → one (a i) + one (b i) + one (c i) ≡ one (f i))
    → count_below n a + count_below n b + count_below n c ≡ count_below n f
unfolding count_below
count-apart zero f a b c h = refl
count-apart (suc n) f a b c h =
    omega (arith, h zero (omega arith), count-apart n (λ i. f (suc i)) (λ i. a (suc i)) (λ i. b (suc i)) (λ i. c (suc i)) (λ i l. h (suc i) (omega arith)))

-- nothing is counted where it holds of none
count-nobody : (n : ℕ) (f : ℕ → Bool) → ((k : ℕ) → f k ≡ false) → count_below n f ≡ 0
unfolding count_below
count-nobody zero f others = refl
count-nobody (suc n) f others = omega (arith, ap one (others zero), count-nobody n (λ k. f (suc k)) (λ k. others (suc k)))

-- where it holds of one number below n alone, that is one
count-alone : (n i : ℕ) (f : ℕ → Bool) → i < n → f i ≡ true → ((k : ℕ) → k ≢ i → f k ≡ false) → count_below n f ≡ 1
unfolding count_below
count-alone zero i f l here others = absurd (omega arith)
count-alone (suc n) zero f l here others = omega (arith, ap one here, count-nobody n (λ k. f (suc k)) (λ k. others (suc k) (λ e. absurd (omega arith))))
count-alone (suc n) (suc i) f l here others =
    omega (arith, ap one (others zero (λ e. absurd (omega arith))), count-alone n i (λ k. f (suc k)) (omega arith) here (λ k d. others (suc k) (λ e. d (omega arith))))

pub count-itself : (n i : ℕ) → i < n → count_below n (λ k. eqb k i) ≡ 1
count-itself n i l = count-alone n i (λ k. eqb k i) l (eq-eqb i i refl) (λ k d. ne_eqb k i d)

-- those of which something holds and those of which it does not are all
pub count-both : (n : ℕ) (f : ℕ → Bool) → count_below n f + count_below n (λ k. not (f k)) ≡ n
unfolding count_below
count-both zero f = refl
count-both (suc n) f = omega (arith, one-both (f zero), count-both n (λ i. f (suc i)))
