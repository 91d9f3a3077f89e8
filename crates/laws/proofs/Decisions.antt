-- Deciding on numbers, with what was found in hand.
use Prim.Native.Nat.{ℕ, ◌+◌, ◌-◌, ◌*◌, ◌≤◌, ◌<◌}
use native.Mathlib.Decide.{ℕ_discrete, dec_le}
use native.Mathlib.Nat.{lt_of_not-le}
use native.Mathlib.Omega.{arith}
use mathlib.Core.Path.{◌≡◌, sym, subst}
use mathlib.Core.Logic.{◌≢◌}

pub same_or {ℓ} : {A : Type ℓ} (i m : ℕ) → (i ≡ m → A) → (i ≢ m → A) → A
same_or i m f g = elim (ℕ_discrete i m) [ yes h ↦ f h | no h ↦ g h ]

pub lt-or {ℓ} : {A : Type ℓ} (a b : ℕ) → (a < b → A) → (b ≤ a → A) → A
lt-or a b f g = elim (dec_le b a) [ yes h ↦ g h | no h ↦ f (lt_of_not-le h) ]

-- what holds at 0, at 1 to n and past n holds below 2n: a saga, its steps and its undos
pub by_place : (A : ℕ → Type 0) (n : ℕ) → (1 ≤ n → A 0) → ((k : ℕ) → 1 ≤ k → k ≤ n → A k) → ((j : ℕ) → 1 ≤ j → j < n → A (n + j))
    → (k : ℕ) → k < 2 * n → A k
by_place A n a b c k h =
    same_or k 0
    (λ q. subst A (sym q) (a (omega arith)))
    (λ q.
    lt-or n k
    (λ l. let e : n + (k - n) ≡ k = omega arith in subst A e (c (k - n) (omega arith) (omega arith)))
    (λ l. b k (omega arith) l))
