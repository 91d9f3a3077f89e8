-- Names of a plan: where they stand, and sums of how many there are.
use mathlib.Core.Path.{◌≡◌, refl, sym, ap, ap₂, ◌∙◌}
use mathlib.Core.List.{List, [], ◌∷◌, ◌++◌}
use Prim.Native.Nat.{ℕ, suc, ◌+◌, ◌-◌, ◌≤◌, ◌<◌}
use native.Mathlib.Omega.{arith}
use lib.ListN.{length, get_or, take, drop, get_or-eq_default}
use lib.Seq.{take-suc}
use Rattle.plan.specs.Names.{end_at, begin_at, name_at, names_of, index, move_name}

-- ---- how many names

pub names-append : (l m : List ℕ) → names_of (l ++ m) ≡ names_of l + names_of m
unfolding names_of
names-append [] m = omega arith
names-append (n ∷ l) m = rw (names-append l m) (omega arith)

names-one : (n : ℕ) → names_of (n ∷ []) ≡ 1 + n
unfolding names_of
names-one n = omega arith

-- one move more
pub names_more : (steps : List ℕ) (j : ℕ) → j < length steps → names_of (take (j + 1) steps) ≡ names_of (take j steps) + (get_or steps j 0 + 1)
names_more steps j h =
    let e : j + 1 ≡ suc j = omega arith in
    ap (λ (m : ℕ). names_of (take m steps)) e ∙ ap names_of (take-suc steps j 0 h) ∙ names-append (take j steps) (get_or steps j 0 ∷ [])
    ∙ rw (names-one (get_or steps j 0)) (omega arith)

-- sums of indices are indices of sums
pub index_plus : (a b : ℕ) → index (index a + b) ≡ index (a + b)
index_plus a b = omega arith

-- ---- name k

module _ (names ends : List ℕ) (k : ℕ) where
  pub name-between : {b e : ℕ} → b ≡ begin_at names ends k → e ≡ end_at names ends k → take (e - b) (drop b names) ≡ name_at names ends k
  unfolding name_at
  name-between p q = ap₂ (λ (b e : ℕ). take (e - b) (drop b names)) p q

-- ---- which name it is

pub names-none : (steps : List ℕ) → 0 ≡ move_name steps 0
unfolding names_of
names-none steps = refl

module _ (steps : List ℕ) (j : ℕ) {at : ℕ} (e : at ≡ move_name steps j) where
  -- one move more
  pub move-more : {sum : ℕ} → j < length steps → sum ≡ index (at + (get_or steps j 0 + 1)) → sum ≡ move_name steps (j + 1)
  move-more h q = q ∙ ap (λ (n : ℕ). index (n + (get_or steps j 0 + 1))) e ∙ index_plus (names_of (take j steps)) (get_or steps j 0 + 1) ∙ ap index (sym (names_more steps j h))

-- no name stands past the ends
pub name-past : (names ends : List ℕ) (k : ℕ) → length ends ≤ k → name_at names ends k ≡ []
unfolding name_at
name-past names ends k h =
    let e = get_or-eq_default ends 0 {n = k} h in
    let none : end_at names ends k - begin_at names ends k ≡ 0 = omega (arith, e) in
    ap (λ (n : ℕ). take n (drop (begin_at names ends k) names)) none
