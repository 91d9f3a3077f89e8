-- The tests of a plan, one move, name or list at a time.
use Prim.Native.Nat.{ℕ, zero, suc}
use mathlib.Core.Bool.{false≢true}
use mathlib.Core.Logic.{⊎_elim}
use mathlib.Core.List.{List}
use lib.ListN.{length, get_or}
use lib.Dec.{ltb, leb}
use Rattle.std.proofs.Common.{◌≡◌, ◌<◌, Bool, true, [], ◌∷◌, ap, ◌∙◌, arith}
use Rattle.std.specs.List.{list_any, range_with_len}
use Rattle.std.proofs.lemmas.List.FromFn.{length-range_with_len, get_or-range_with_len}
use Rattle.laws.specs.Index.{any_below}
use Rattle.laws.proofs.Bools.{together, or_left, or_right, or_cases}
use Rattle.laws.proofs.IndexLaws.{any-intro, any-elim, any_same}
use Rattle.plan.specs.Names.{name_at}
use Rattle.plan.specs.Verdict.{most_steps, most_name}

-- move i has too many steps
abbrev pub many_steps : List ℕ → ℕ → Bool
many_steps steps i = ltb most_steps (get_or steps i 0)

-- name k is too long
abbrev pub is_long : List ℕ → List ℕ → ℕ → Bool
is_long names ends k = ltb most_name (length (name_at names ends k))

-- the move of list j is not there
abbrev pub is_lost : List ℕ → List ℕ → ℕ → Bool
is_lost steps lists j = leb (length steps) (get_or lists j 0)

-- ---- a search through a list is one below its length

listed : (f : ℕ → Bool) (xs : List ℕ) (i : ℕ) → i < length xs → f (get_or xs i 0) ≡ true → list_any f xs ≡ true
listed f [] i h e = absurd (omega arith)
listed f (x ∷ xs) zero h e = or_left (f x) (list_any f xs) e
listed f (x ∷ xs) (suc i) h e = or_right (f x) (list_any f xs) (listed f xs i (omega arith) e)

found : (f : ℕ → Bool) (xs : List ℕ) → list_any f xs ≡ true → (i : ℕ) × (i < length xs) × (f (get_or xs i 0) ≡ true)
found f [] e = absurd (false≢true e)
found f (x ∷ xs) e =
    ⊎_elim (λ t. (0, omega arith, t)) (λ t. let r = found f xs t in (suc r.0, omega (arith, r.1), r.2)) (or_cases (f x) (list_any f xs) e)

pub any_listed : (f : ℕ → Bool) (xs : List ℕ) → list_any f xs ≡ any_below (length xs) (λ i. f (get_or xs i 0))
any_listed f xs =
    together (list_any f xs) (any_below (length xs) (λ i. f (get_or xs i 0)))
    (λ e. let r = found f xs e in any-intro (length xs) (λ i. f (get_or xs i 0)) r.0 r.1 r.2)
    (λ e. let r = any-elim (length xs) (λ i. f (get_or xs i 0)) e in listed f xs r.0 r.1 r.2)

pub any_ranged : (f : ℕ → Bool) (n : ℕ) → list_any f (range_with_len 0 n) ≡ any_below n f
any_ranged f n =
    any_listed f (range_with_len 0 n)
    ∙ ap (λ (m : ℕ). any_below m (λ i. f (get_or (range_with_len 0 n) i 0))) (length-range_with_len 0 n)
    ∙ any_same n (λ i. f (get_or (range_with_len 0 n) i 0)) f (λ i h. let e : get_or (range_with_len 0 n) i 0 ≡ i = omega (arith, get_or-range_with_len 0 n i 0 h) in ap f e)
