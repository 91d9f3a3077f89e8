-- A share is in lowest terms, and it is the share.
use Prim.Native.Nat.{ℕ, zero, suc, ◌*◌, ◌/◌, ◌<◌, ◌∣◌}
use native.Mathlib.Omega.{arith}
use native.Mathlib.Nat.{div-mul_cancel, dvd-mul_right, dvd_of_mul-dvd-mul_right, dvd-one, dvd_refl, dvd-zero, mul_assoc, mul_comm, mul-dvd-mul_right, one-mul, pos_of_dvd_of_pos, zero-div}
use mathlib.Core.Path.{◌≡◌, refl, sym, ap, ◌∙◌, subst}
use Rattle.share.specs.Promises.{GreatestCommon, InLowestTerms, Shares}
use Rattle.share.specs.Shares.{common_divisor, lowest}
use Rattle.share.specs.declared.Share.{Share}
use Rattle.share.proofs.DivisorLaws.{common-divisor}

module _ (part whole d : ℕ) (g : GreatestCommon part whole d) (h : 0 < whole) where
  divisor-positive : 0 < d
  divisor-positive = pos_of_dvd_of_pos g.right h

  -- what divides both quotients, times d, divides both numbers, and so d
  only_one : (c : ℕ) → c ∣ part / d → c ∣ whole / d → c ≡ 1
  only_one c x y =
      let a : c * d ∣ part = subst (λ (n : ℕ). c * d ∣ n) (div-mul_cancel d g.left) (mul-dvd-mul_right c x d) in
      let b : c * d ∣ whole = subst (λ (n : ℕ). c * d ∣ n) (div-mul_cancel d g.right) (mul-dvd-mul_right c y d) in
      dvd-one.0 (dvd_of_mul-dvd-mul_right c divisor-positive (subst (λ (n : ℕ). c * d ∣ n) (sym (one-mul d)) (g.greatest (c * d) a b)))

  crosses : part / d * whole ≡ part * (whole / d)
  crosses =
      ap (λ (n : ℕ). part / d * n) (sym (div-mul_cancel d g.right) ∙ mul_comm (whole / d) d)
      ∙ sym (mul_assoc (part / d) d (whole / d))
      ∙ ap (λ (n : ℕ). n * (whole / d)) (div-mul_cancel d g.left)

  below-positive : 0 < whole / d
  below-positive = pos_of_dvd_of_pos (dvd-of-quotient) h
    where
      dvd-of-quotient : whole / d ∣ whole
      dvd-of-quotient = subst (λ (n : ℕ). whole / d ∣ n) (div-mul_cancel d g.right) (dvd-mul_right (whole / d) d)

  zero-over-one : part ≡ 0 → ◌≡◌ {A = Share} (record { part = part / d; whole = whole / d }) (record { part = 0; whole = 1 })
  zero-over-one e =
      let above : part / d ≡ 0 = ap (λ (n : ℕ). n / d) e ∙ zero-div d in
      let below : whole / d ≡ 1 = only_one (whole / d) (subst (λ (n : ℕ). whole / d ∣ n) (sym above) (dvd-zero (whole / d))) (dvd_refl (whole / d)) in
      λ i. record { part = above i; whole = below i }

in-lowest-terms : (part whole : ℕ) → InLowestTerms part whole (lowest part whole)
unfolding lowest
in-lowest-terms part zero =
    record {
      lowest_terms = λ c x y. dvd-one.0 y;
      share = λ h. absurd (omega arith);
      none = λ e. refl;
      nothing = λ e. refl;
      positive = omega arith;
    }
in-lowest-terms part (suc n) =
    let d = common_divisor part (suc n) in
    let g = common-divisor part (suc n) in
    let some : 0 < suc n = omega arith in
    record {
      lowest_terms = only_one part (suc n) d g some;
      share = λ h. crosses part (suc n) d g some;
      none = λ e. absurd (omega arith);
      nothing = zero-over-one part (suc n) d g some;
      positive = below-positive part (suc n) d g some;
    }

pub shares-hold : Shares
shares-hold = record { divisor = common-divisor; terms = in-lowest-terms }
