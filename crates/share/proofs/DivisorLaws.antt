-- Laws of the greatest common divisor, and of the share by cases.
use Prim.Native.Nat.{ℕ, zero, suc, ◌/◌, ◌%◌, ◌≤◌, ◌<◌}
use native.Mathlib.Omega.{arith}
use native.Mathlib.Nat.{dvd-mod_iff, dvd_refl, dvd-zero, mod-lt, pos_of_dvd_of_pos}
use mathlib.Core.Path.{◌≡◌, refl, ap}
use Rattle.share.specs.Promises.{GreatestCommon}
use Rattle.share.specs.Shares.{common_divisor, divisor_within, lowest}
use Rattle.share.specs.declared.Share.{Share}

rest-small : (a b : ℕ) → a % suc b ≤ b
rest-small a b = omega (arith, mod-lt a {m = suc b} (omega arith))

-- more calls than the second number says change nothing
calls-enough : (k l a b : ℕ) → b ≤ k → b ≤ l → divisor_within k a b ≡ divisor_within l a b
unfolding divisor_within
calls-enough zero zero a b h g = refl
calls-enough zero (suc l) a zero h g = refl
calls-enough zero (suc l) a (suc b) h g = absurd (omega arith)
calls-enough (suc k) zero a zero h g = refl
calls-enough (suc k) zero a (suc b) h g = absurd (omega arith)
calls-enough (suc k) (suc l) a zero h g = refl
calls-enough (suc k) (suc l) a (suc b) h g =
    calls-enough k l (suc b) (a % suc b) (omega (arith, rest-small a b)) (omega (arith, rest-small a b))

-- ---- the two ways a call ends

pub divisor-none : (a b : ℕ) → b ≡ 0 → a ≡ common_divisor a b
unfolding common_divisor divisor_within
divisor-none a zero e = refl
divisor-none a (suc b) e = absurd (omega arith)

pub divisor-step : (a b : ℕ) → 0 < b → common_divisor b (a % b) ≡ common_divisor a b
unfolding common_divisor divisor_within
divisor-step a zero h = absurd (omega arith)
divisor-step a (suc b) h = calls-enough (a % suc b) b (suc b) (a % suc b) (omega arith) (rest-small a b)

-- ---- what it is

common-within : (k a b : ℕ) → b ≤ k → GreatestCommon a b (divisor_within k a b)
unfolding divisor_within
common-within zero a zero h = record { left = dvd_refl a; right = dvd-zero a; greatest = λ c x y. x }
common-within zero a (suc b) h = absurd (omega arith)
common-within (suc k) a zero h = record { left = dvd_refl a; right = dvd-zero a; greatest = λ c x y. x }
common-within (suc k) a (suc b) h =
    let more = common-within k (suc b) (a % suc b) (omega (arith, rest-small a b)) in
    record {
      left = (dvd-mod_iff _ more.left).0 more.right;
      right = more.left;
      greatest = λ c x y. more.greatest c y ((dvd-mod_iff c y).1 x);
    }

pub common-divisor : (a b : ℕ) → GreatestCommon a b (common_divisor a b)
unfolding common_divisor
common-divisor a b = common-within b a b (omega arith)

-- nothing but 0 is divided by 0
pub divisor-positive : (a b : ℕ) → 0 < b → 0 < common_divisor a b
divisor-positive a b h = pos_of_dvd_of_pos (common-divisor a b).right h

-- ---- a part of nothing, and of something

pub lowest-none : (part whole : ℕ) → whole ≡ 0 → ◌≡◌ {A = Share} (record { part = 0; whole = 1 }) (lowest part whole)
unfolding lowest
lowest-none part zero e = refl
lowest-none part (suc n) e = absurd (omega arith)

pub lowest-some : (part whole d : ℕ) → 0 < whole → d ≡ common_divisor part whole
    → ◌≡◌ {A = Share} (record { part = part / d; whole = whole / d }) (lowest part whole)
unfolding lowest
lowest-some part zero d h e = absurd (omega arith)
lowest-some part (suc n) d h e = ap (λ (k : ℕ). record { part = part / k; whole = suc n / k }) e
