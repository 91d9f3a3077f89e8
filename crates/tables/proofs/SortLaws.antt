-- Sorts as the code finds them: the place in a saga, and the sagas passed one by one.
use Prim.Native.Nat.{ℕ, ◌+◌, ◌*◌, ◌-◌, ◌≤◌, ◌<◌, min}
use native.Mathlib.Numerals.{add-one}
use native.Mathlib.Omega.{arith}
use mathlib.Core.Path.{◌≡◌, refl, sym, ap, ◌∙◌}
use mathlib.Core.Bool.{cond, false}
use mathlib.Core.List.{List, [], ◌∷◌, ◌++◌}
use lib.ListN.{length, get_or, take, drop, length-take, drop_of_length-le}
use lib.Seq.{drop-cons, get_or-take, take-suc, take_all}
use lib.Dec.{ltb}
use borrow.Author.Tests.{lt-ltb, le-ltb, le-leb, lt-leb, eq-eqb, ne_eqb}
use Rattle.laws.proofs.Bools.{bool_cases}
use Rattle.terms.specs.Limits.{most_sagas}
use Rattle.tables.specs.Sorts.{first_of, is_undo, owned_by, place_of, sagas_of, sort_from, sort_of, steps_of}
use Rattle.tables.specs.declared.Sort.TheVariants.{Plain, Saga as SagaItself, Step, Undo, Unknown}
use Rattle.tables.specs.declared.Tables.{Tables}

-- ---- the place in a saga

pub place-saga : (f n k : ℕ) → k ≡ 0 → SagaItself f n ≡ place_of f n k
unfolding place_of
place-saga f n k z = rw (eq-eqb k 0 z)

pub place-step : (f n k : ℕ) → 1 ≤ k → k ≤ n → Step f n k ≡ place_of f n k
unfolding place_of
place-step f n k l h = rw (ne_eqb k 0 (λ z. omega arith), le-leb k n h)

pub place-undo : (f n k : ℕ) → n < k → Undo f n (k - n) ≡ place_of f n k
unfolding place_of
place-undo f n k h = rw (ne_eqb k 0 (λ z. omega arith), lt-leb k n h)

-- ---- past some sagas

module _ (tables : Tables) (t : ℕ) where
  -- past the first i sagas, the next number is f
  abbrev pub Passed : ℕ → ℕ → Type 0
  Passed i f = sort_from (drop i (sagas_of tables)) f tables.plain t ≡ sort_of tables t

  pub passed_none : Passed 0 0
  unfolding sort_of
  passed_none = refl

module _ (tables : Tables) (full : length tables.steps ≡ most_sagas) (i : ℕ) where
  listed : i < min tables.sagas most_sagas → i < length (sagas_of tables)
  listed h = omega (arith, length-take tables.sagas tables.steps)

  all_listed : min tables.sagas most_sagas ≤ i → length (sagas_of tables) ≤ i
  all_listed h = omega (arith, length-take tables.sagas tables.steps)

  steps-at : i < min tables.sagas most_sagas → steps_of tables i ≡ get_or tables.steps i 0
  steps-at h = get_or-take tables.sagas tables.steps i 0 (omega arith)

  module _ (t f : ℕ) (past : Passed tables t i f) where
    next-saga : i < min tables.sagas most_sagas
        → sort_from (drop i (sagas_of tables)) f tables.plain t
        ≡ cond (ltb t (f + 2 * get_or tables.steps i 0)) (place_of f (get_or tables.steps i 0) (t - f))
        (sort_from (drop (i + 1) (sagas_of tables)) (f + 2 * get_or tables.steps i 0) tables.plain t)
    unfolding sort_from
    next-saga h = rw (add-one, drop-cons (sagas_of tables) i 0 (listed h), steps-at h) refl

    pub passed_here : i < min tables.sagas most_sagas → t < f + 2 * get_or tables.steps i 0
        → place_of f (get_or tables.steps i 0) (t - f) ≡ sort_of tables t
    passed_here h l = rw (← past, next-saga h, lt-ltb t (f + 2 * get_or tables.steps i 0) l) refl

    pub passed-more : i < min tables.sagas most_sagas → f + 2 * get_or tables.steps i 0 ≤ t
        → Passed tables t (i + 1) (f + 2 * get_or tables.steps i 0)
    passed-more h l = rw (← past, next-saga h, le-ltb t (f + 2 * get_or tables.steps i 0) l) refl

    none_left : min tables.sagas most_sagas ≤ i → cond (ltb t (f + tables.plain)) Plain Unknown ≡ sort_of tables t
    unfolding sort_from
    none_left h = rw (← past, drop_of_length-le (sagas_of tables) (all_listed h)) refl

    pub passed-plain : min tables.sagas most_sagas ≤ i → t < f + tables.plain → Plain ≡ sort_of tables t
    passed-plain h l = rw (lt-ltb t (f + tables.plain) l) at (none_left h)

    pub passed-all : min tables.sagas most_sagas ≤ i → f + tables.plain ≤ t → Unknown ≡ sort_of tables t
    passed-all h l = rw (le-ltb t (f + tables.plain) l) at (none_left h)

-- ---- first numbers

pub owned-snoc : (l : List ℕ) (n : ℕ) → owned_by (l ++ (n ∷ [])) ≡ owned_by l + 2 * n
unfolding owned_by
owned-snoc [] n = omega arith
owned-snoc (x ∷ l) n = let h = owned-snoc l n in omega arith

pub first-none : (tables : Tables) → 0 ≡ first_of tables 0
unfolding owned_by
first-none tables = refl

module _ (tables : Tables) (full : length tables.steps ≡ most_sagas) (i : ℕ) where
  pub first_more : (f : ℕ) → f ≡ first_of tables i → i < min tables.sagas most_sagas → f + 2 * get_or tables.steps i 0 ≡ first_of tables (i + 1)
  first_more f e h =
      ap (λ (k : ℕ). k + 2 * get_or tables.steps i 0) e
      ∙ sym
      (ap (λ (k : ℕ). owned_by (take k (sagas_of tables))) (add-one i)
      ∙ ap owned_by (take-suc (sagas_of tables) i 0 (listed tables full i h))
      ∙ owned-snoc (take i (sagas_of tables)) (steps_of tables i)
      ∙ ap (λ (n : ℕ). first_of tables i + 2 * n) (steps-at tables full i h))

-- past the last saga stands what all sagas own
pub owned-past : (tables : Tables) → length tables.steps ≡ most_sagas → first_of tables most_sagas ≡ owned_by (sagas_of tables)
owned-past tables e = ap owned_by (take_all most_sagas (sagas_of tables) (simp length-take (omega arith)))

-- and there is no undo there
past-no-undo : (ns : List ℕ) (f p t : ℕ) → f + owned_by ns ≤ t → is_undo (sort_from ns f p t) ≡ false
unfolding sort_from owned_by
past-no-undo [] f p t h = bool_cases (ltb t (f + p)) (λ e. rw e) (λ e. rw e)
past-no-undo (n ∷ ns) f p t h = rw (le-ltb t (f + 2 * n) (omega arith)) (past-no-undo ns (f + 2 * n) p t (omega arith))

pub undo-owned : (tables : Tables) (t : ℕ) → owned_by (sagas_of tables) ≤ t → is_undo (sort_of tables t) ≡ false
unfolding sort_of
undo-owned tables t h = past-no-undo (sagas_of tables) 0 tables.plain t (omega arith)
