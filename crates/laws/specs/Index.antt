-- What is asked of every number below a bound: is there one, how many, the lowest, the highest, their sum.
use Rattle.std.specs.Prelude.{ℕ, zero, suc, ◌+◌, Bool, true, false, cond, ◌||◌, List, [], ◌∷◌}

-- f holds of some number below n
unfoldable pub any_below : ℕ → (ℕ → Bool) → Bool
any_below zero f = false
any_below (suc n) f = any_below n f || f n

-- 1 for what holds, 0 for what does not
abbrev pub one : Bool → ℕ
one true = 1
one false = 0

-- of how many numbers below n f holds
unfoldable pub count_below : ℕ → (ℕ → Bool) → ℕ
count_below zero f = 0
count_below (suc n) f = one (f zero) + count_below n (λ i. f (suc i))

-- the lowest number below n of which f holds, n where there is none
unfoldable pub first_below : ℕ → (ℕ → Bool) → ℕ
first_below zero f = 0
first_below (suc n) f = cond (f zero) 0 (suc (first_below n (λ i. f (suc i))))

-- the highest number from n down to 1 of which f holds, 0 where there is none
unfoldable pub highest : ℕ → (ℕ → Bool) → ℕ
highest zero f = 0
highest (suc n) f = cond (f (suc n)) (suc n) (highest n f)

-- the sum of the values at 1 to n
unfoldable pub sum_to : ℕ → (ℕ → ℕ) → ℕ
sum_to zero v = 0
sum_to (suc n) v = sum_to n v + v (suc n)

-- the list f 0, f 1, .., f (n - 1)
unfoldable pub tabulate : {A : Type 0} → ℕ → (ℕ → A) → List A
tabulate zero f = []
tabulate (suc n) f = f zero ∷ tabulate n (λ i. f (suc i))

-- n rows of n entries
abbrev pub grid : ℕ → (ℕ → ℕ → Bool) → List (List Bool)
grid n f = tabulate n (λ a. tabulate n (f a))
