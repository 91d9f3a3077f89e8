-- What is promised of a share: it is in lowest terms, and it is the share.
use Rattle.std.specs.Prelude.{ℕ, ◌*◌, ◌<◌, ◌≡◌}
use Rattle.std.specs.Int.{◌∣◌}
use Rattle.share.specs.Shares.{common_divisor, lowest}
use Rattle.share.specs.declared.Share.{Share}

-- d divides both, and every number that divides both divides d
pub record GreatestCommon (a b d : ℕ) : Type 0 where
  pub left : d ∣ a
  pub right : d ∣ b
  pub greatest : (c : ℕ) → c ∣ a → c ∣ b → c ∣ d

-- of a part of a whole
pub record InLowestTerms (part whole : ℕ) (r : Share) : Type 0 where
  -- no number but 1 divides both
  pub lowest_terms : (c : ℕ) → c ∣ r.part → c ∣ r.whole → c ≡ 1
  -- it is the share: part is to whole as the one number to the other
  pub share : 0 < whole → r.part * whole ≡ part * r.whole
  -- "0 over 1 if none were begun"
  pub none : whole ≡ 0 → r ≡ record { part = 0; whole = 1 }
  -- 0 of any number is 0 over 1, too
  pub nothing : part ≡ 0 → r ≡ record { part = 0; whole = 1 }
  -- nothing is ever divided by 0
  pub positive : 0 < r.whole

pub record Shares : Type 0 where
  pub divisor : (a b : ℕ) → GreatestCommon a b (common_divisor a b)
  pub terms : (part whole : ℕ) → InLowestTerms part whole (lowest part whole)
