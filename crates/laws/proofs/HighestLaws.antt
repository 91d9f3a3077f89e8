-- Laws of `highest` and `sum_to`.
use Prim.Native.Nat.{ℕ, zero, suc, ◌+◌, ◌*◌, ◌≤◌, ◌<◌}
use native.Mathlib.Omega.{arith}
use mathlib.Core.Path.{◌≡◌, refl}
use mathlib.Core.Bool.{Bool, true, false}
use mathlib.Core.Logic.{◌≢◌}
use Rattle.laws.specs.Index.{highest, sum_to}
use Rattle.laws.proofs.Bools.{bool_cases}
use Rattle.laws.proofs.Decisions.{same_or}

-- ---- the highest

pub highest-none : (m : ℕ) (p : ℕ → Bool) → highest m p ≡ 0 → (i : ℕ) → 1 ≤ i → i ≤ m → p i ≡ false
unfolding highest
highest-none zero p e i h l = absurd (omega arith)
highest-none (suc m) p e i h l =
    bool_cases
    (p (suc m))
    (λ t. absurd (omega (arith, rw t at e)))
    (λ t. same_or i (suc m) (λ q. rw q t) (λ q. highest-none m p (rw t at e) i h (omega arith)))

pub none-highest : (m : ℕ) (p : ℕ → Bool) → ((i : ℕ) → 1 ≤ i → i ≤ m → p i ≡ false) → highest m p ≡ 0
unfolding highest
none-highest zero p h = refl
none-highest (suc m) p h = rw (h (suc m) (omega arith) (omega arith)) (none-highest m p (λ i a b. h i a (omega arith)))

-- i is the highest from m down to 1 of which p holds
pub record Highest (m : ℕ) (p : ℕ → Bool) (i : ℕ) : Type 0 where
  pub low : 1 ≤ i
  pub high : i ≤ m
  pub here : p i ≡ true
  pub above : (j : ℕ) → i < j → j ≤ m → p j ≡ false

pub highest-some : (m : ℕ) (p : ℕ → Bool) (i : ℕ) → highest m p ≡ suc i → Highest m p (suc i)
unfolding highest
highest-some zero p i e = absurd (omega arith)
highest-some (suc m) p i e =
    bool_cases
    (p (suc m))
    (λ t.
    let q : suc m ≡ suc i = rw t at e in
    record {
      low = omega arith;
      high = omega arith;
      here = rw (← q) t;
      above = λ j a b. absurd (omega arith);
    })
    (λ t.
    let r = highest-some m p i (rw t at e) in
    record {
      low = r.low;
      high = omega (arith, r.high);
      here = r.here;
      above = λ j a b. same_or j (suc m) (λ q. rw q t) (λ q. r.above j a (omega arith));
    })

pub highest-le : (m : ℕ) (p : ℕ → Bool) → highest m p ≤ m
unfolding highest
highest-le zero p = omega arith
highest-le (suc m) p =
    bool_cases (p (suc m)) (λ t. rw t (omega arith)) (λ t. rw t (omega (arith, highest-le m p)))

pub highest-same : (m : ℕ) (p q : ℕ → Bool) → ((i : ℕ) → 1 ≤ i → i ≤ m → p i ≡ q i) → highest m p ≡ highest m q
unfolding highest
highest-same zero p q h = refl
highest-same (suc m) p q h =
    rw (h (suc m) (omega arith) (omega arith), highest-same m p q (λ i a b. h i a (omega arith)))

-- ---- sums

pub sum_same : (m : ℕ) (v w : ℕ → ℕ) → ((i : ℕ) → 1 ≤ i → i ≤ m → v i ≡ w i) → sum_to m v ≡ sum_to m w
unfolding sum_to
sum_same zero v w h = refl
sum_same (suc m) v w h =
    rw (h (suc m) (omega arith) (omega arith), sum_same m v w (λ i a b. h i a (omega arith)))

pub sum-le : (m k : ℕ) (v : ℕ → ℕ) → ((i : ℕ) → v i ≤ k) → sum_to m v ≤ m * k
unfolding sum_to
sum-le zero k v h = omega arith
sum-le (suc m) k v h = omega (arith, sum-le m k v h, h (suc m))

pub sum-zero : (m : ℕ) (v : ℕ → ℕ) → sum_to m v ≡ 0 → (i : ℕ) → 1 ≤ i → i ≤ m → v i ≡ 0
unfolding sum_to
sum-zero zero v e i h l = absurd (omega arith)
sum-zero (suc m) v e i h l = same_or i (suc m) (λ q. rw q (omega arith)) (λ q. sum-zero m v (omega arith) i h (omega arith))

pub zero-sum : (m : ℕ) (v : ℕ → ℕ) → ((i : ℕ) → 1 ≤ i → i ≤ m → v i ≡ 0) → sum_to m v ≡ 0
unfolding sum_to
zero-sum zero v h = refl
zero-sum (suc m) v h = omega (arith, h (suc m) (omega arith) (omega arith), zero-sum m v (λ i a b. h i a (omega arith)))

-- one value falls by one, the others stay
pub sum_less : (m : ℕ) (v w : ℕ → ℕ) (j : ℕ) → 1 ≤ j → j ≤ m → w j + 1 ≡ v j
    → ((i : ℕ) → 1 ≤ i → i ≤ m → i ≢ j → w i ≡ v i) → sum_to m w + 1 ≡ sum_to m v
unfolding sum_to
sum_less zero v w j a b e h = absurd (omega arith)
sum_less (suc m) v w j a b e h =
    same_or
    j
    (suc m)
    (λ q.
    let s : sum_to m w ≡ sum_to m v = sum_same m w v (λ i c d. h i c (omega arith) (omega arith)) in
    let g : w (suc m) + 1 ≡ v (suc m) = rw (← q) e in
    omega arith)
    (λ q.
    omega (
      arith,
      sum_less m v w j a (omega arith) e (λ i c d g. h i c (omega arith) g),
      h (suc m) (omega arith) (omega arith) (omega arith),
    ))
