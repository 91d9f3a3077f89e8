-- "two whole numbers brought to lowest terms, 0 over 1 if none were begun" (document 02, request 12).
use Rattle.std.specs.Prelude.{ℕ, zero, suc, ◌/◌, ◌%◌}
use Rattle.share.specs.declared.Share.{Share}

-- the greatest common divisor by recursion on the remainder, in at most so many calls
unfoldable pub divisor_within : ℕ → ℕ → ℕ → ℕ
divisor_within zero a b = a
divisor_within (suc calls) a zero = a
divisor_within (suc calls) a (suc b) = divisor_within calls (suc b) (a % suc b)

-- the second number falls at each call, so it says how many are enough
unfoldable pub common_divisor : ℕ → ℕ → ℕ
common_divisor a b = divisor_within b a b

-- a part of a whole
unfoldable pub lowest : ℕ → ℕ → Share
lowest part zero = record { part = 0; whole = 1 }
lowest part (suc n) = record { part = part / common_divisor part (suc n); whole = suc n / common_divisor part (suc n) }
