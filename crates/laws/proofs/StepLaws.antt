-- The highest number that passes a test, found from the top down, and a sum, made from 1 up.
use Prim.Native.Nat.{ℕ, zero, suc, ◌+◌, ◌-◌, ◌<◌}
use native.Mathlib.Omega.{arith}
use mathlib.Core.Path.{◌≡◌, refl, sym, ◌∙◌}
use mathlib.Core.Bool.{Bool, true, false}
use Rattle.laws.specs.Index.{highest, sum_to}

module _ (p : ℕ → Bool) where
  pub highest-zero : (i : ℕ) → i ≡ 0 → highest i p ≡ 0
  unfolding highest
  highest-zero i e = rw e

  highest-hit : (i : ℕ) → 0 < i → p i ≡ true → highest i p ≡ i
  unfolding highest
  highest-hit zero l h = absurd (omega arith)
  highest-hit (suc i) l h = rw h

  highest-miss : (i : ℕ) → 0 < i → p i ≡ false → highest i p ≡ highest (i - 1) p
  unfolding highest
  highest-miss zero l h = absurd (omega arith)
  highest-miss (suc i) l h = let e : suc i - 1 ≡ i = omega arith in rw (h, e)

-- nothing from n down to i passes, i left out; b is the test that the code made at i
module _ (p : ℕ → Bool) (n i : ℕ) (above : highest n p ≡ highest i p) where
  pub down-hit : {b : Bool} → b ≡ p i → b ≡ true → 0 < i → highest n p ≡ i
  down-hit o h l = above ∙ highest-hit p i l (sym o ∙ h)

  pub down-miss : {b : Bool} → b ≡ p i → b ≡ false → 0 < i → highest n p ≡ highest (i - 1) p
  down-miss o h l = above ∙ highest-miss p i l (sym o ∙ h)

  pub down-end : i ≡ 0 → highest n p ≡ 0
  down-end e = above ∙ highest-zero p i e

module _ (v : ℕ → ℕ) where
  pub sum-none : sum_to 0 v ≡ 0
  unfolding sum_to
  sum-none = refl

  pub sum_more : (i : ℕ) → 0 < i → sum_to (i - 1) v + v i ≡ sum_to i v
  unfolding sum_to
  sum_more zero l = absurd (omega arith)
  sum_more (suc i) l = let e : suc i - 1 ≡ i = omega arith in rw e
