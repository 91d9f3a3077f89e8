-- Where a saga's own transactions stand among all, and which sort each number has. An index with a step is that of a listed saga.
use Prim.Native.Nat.{ℕ, zero, suc, ◌+◌, ◌-◌, ◌*◌, ◌≤◌, ◌<◌}
use native.Mathlib.Omega.{arith}
use mathlib.Core.Path.{◌≡◌, refl, sym, ap, ◌∙◌, subst}
use mathlib.Core.Bool.{true, false≢true}
use mathlib.Core.List.{List, [], ◌∷◌}
use lib.ListN.{length, get_or, take, get_or-eq_default}
use lib.Seq.{get_or-take}
use borrow.Author.Tests.{lt-ltb, le-ltb}
use Rattle.laws.proofs.Decisions.{by_place, lt-or}
use Rattle.terms.specs.Limits.{most_steps}
use Rattle.tables.specs.Accepted.{Well}
use Rattle.tables.specs.Sorts.{first_of, is_known, number_of_all, owned_by, place_of, sagas_of, sort_from, sort_of, steps_of}
use Rattle.tables.specs.declared.Sort.{Sort}
use Rattle.tables.specs.declared.Sort.TheVariants.{Plain, Saga as SagaItself, Step, Undo, Unknown}
use Rattle.tables.specs.declared.Tables.{Tables}
use Rattle.tables.proofs.SortLaws.{place-saga, place-step, place-undo}

-- ---- the numbers that a saga owns

owned-take : (ns : List ℕ) (j : ℕ) → owned_by (take j ns) ≤ owned_by ns
unfolding owned_by
owned-take [] zero = omega arith
owned-take [] (suc j) = omega arith
owned-take (n ∷ ns) zero = omega arith
owned-take (n ∷ ns) (suc j) = omega (arith, owned-take ns j)

apart_from : (ns : List ℕ) (i j : ℕ) → i < j → owned_by (take i ns) + 2 * get_or ns i 0 ≤ owned_by (take j ns)
unfolding owned_by
apart_from ns i zero l = absurd (omega arith)
apart_from [] zero (suc j) l = omega arith
apart_from [] (suc i) (suc j) l = omega arith
apart_from (n ∷ ns) zero (suc j) l = omega arith
apart_from (n ∷ ns) (suc i) (suc j) l = omega (arith, apart_from ns i j (omega arith))

module _ (tables : Tables) where
  -- two sagas own different numbers
  pub owned-apart : (i j : ℕ) → i < j → first_of tables i + 2 * steps_of tables i ≤ first_of tables j
  owned-apart i j l = apart_from (sagas_of tables) i j l

  pub owned-le : (i : ℕ) → first_of tables i + 2 * steps_of tables i ≤ number_of_all tables
  owned-le i = omega (arith, owned-apart i (suc i) (omega arith), owned-take (sagas_of tables) (suc i))

  pub listed-saga : (i : ℕ) → 1 ≤ steps_of tables i → i < length (sagas_of tables)
  listed-saga i h =
      lt-or i (length (sagas_of tables)) (λ l. l) (λ l. absurd (omega (arith, get_or-eq_default (sagas_of tables) 0 {n = i} l)))

-- in well formed tables each of the sagas has a step
pub well-steps : (tables : Tables) → Well tables → (i : ℕ) → i < tables.sagas → (1 ≤ steps_of tables i) × (steps_of tables i ≤ most_steps)
well-steps tables w i l = rw (get_or-take tables.sagas tables.steps i 0 l) (w.stepped i l)

-- ---- their sorts

sort-from : (ns : List ℕ) (f p i k : ℕ) → k < 2 * get_or ns i 0
    → sort_from ns f p (f + owned_by (take i ns) + k) ≡ place_of (f + owned_by (take i ns)) (get_or ns i 0) k
unfolding sort_from owned_by
sort-from [] f p zero k h = absurd (omega arith)
sort-from [] f p (suc i) k h = absurd (omega arith)
sort-from (n ∷ ns) f p zero k h =
    let a : f + 0 + k - f ≡ k = omega arith in
    let b : f + 0 ≡ f = omega arith in
    rw (lt-ltb (f + 0 + k) (f + 2 * n) (omega arith), a, b)
sort-from (n ∷ ns) f p (suc i) k h =
    let a : f + (2 * n + owned_by (take i ns)) ≡ f + 2 * n + owned_by (take i ns) = omega arith in
    rw (a, le-ltb (f + 2 * n + owned_by (take i ns) + k) (f + 2 * n) (omega arith)) (sort-from ns (f + 2 * n) p i k h)

module _ (tables : Tables) (i : ℕ) where
  pub sort-own : (k : ℕ) → k < 2 * steps_of tables i → sort_of tables (first_of tables i + k) ≡ place_of (first_of tables i) (steps_of tables i) k
  unfolding sort_of
  sort-own k h =
      let a : 0 + first_of tables i ≡ first_of tables i = omega arith in
      rw a at (sort-from (sagas_of tables) 0 tables.plain i k h)

  pub sort-saga : 1 ≤ steps_of tables i → sort_of tables (first_of tables i) ≡ SagaItself (first_of tables i) (steps_of tables i)
  sort-saga h =
      let a : first_of tables i ≡ first_of tables i + 0 = omega arith in
      ap (sort_of tables) a ∙ sort-own 0 (omega arith) ∙ sym (place-saga (first_of tables i) (steps_of tables i) 0 refl)

  pub sort-step : (j : ℕ) → 1 ≤ j → j ≤ steps_of tables i → sort_of tables (first_of tables i + j) ≡ Step (first_of tables i) (steps_of tables i) j
  sort-step j a b = sort-own j (omega arith) ∙ sym (place-step (first_of tables i) (steps_of tables i) j a b)

  pub sort-undo : (j : ℕ) → 1 ≤ j → j < steps_of tables i
      → sort_of tables (first_of tables i + (steps_of tables i + j)) ≡ Undo (first_of tables i) (steps_of tables i) j
  sort-undo j a b =
      let q : steps_of tables i + j - steps_of tables i ≡ j = omega arith in
      sort-own (steps_of tables i + j) (omega arith)
      ∙ sym (place-undo (first_of tables i) (steps_of tables i) (steps_of tables i + j) (omega arith))
      ∙ ap (Undo (first_of tables i) (steps_of tables i)) q

-- ---- and back: where a sort comes from

by-list : (ns : List ℕ) (f p t : ℕ) (Q : Sort → Type 0) → f ≤ t
    → ((i k : ℕ) → k < 2 * get_or ns i 0 → t ≡ f + owned_by (take i ns) + k → Q (place_of (f + owned_by (take i ns)) (get_or ns i 0) k))
    → (f + owned_by ns ≤ t → t < f + owned_by ns + p → Q Plain)
    → (f + owned_by ns + p ≤ t → Q Unknown)
    → Q (sort_from ns f p t)
unfolding sort_from owned_by
by-list [] f p t Q l own plain unknown =
    lt-or t (f + p) (λ h. rw (lt-ltb t (f + p) h) (plain (omega arith) (omega arith))) (λ h. rw (le-ltb t (f + p) h) (unknown (omega arith)))
by-list (n ∷ ns) f p t Q l own plain unknown =
    lt-or t (f + 2 * n)
    (λ h.
    let a : f + 0 ≡ f = omega arith in
    rw (lt-ltb t (f + 2 * n) h) (rw a at (own 0 (t - f) (omega arith) (omega arith))))
    (λ h.
    rw (le-ltb t (f + 2 * n) h)
    (by-list ns (f + 2 * n) p t Q h
    (λ i k b e.
    let a : f + (2 * n + owned_by (take i ns)) ≡ f + 2 * n + owned_by (take i ns) = omega arith in
    rw a at (own (suc i) k b (omega arith)))
    (λ b c. plain (omega arith) (omega arith))
    (λ b. unknown (omega arith))))

module _ (tables : Tables) (t : ℕ) where
  -- every number is an S, a step, an undo, a plain one or none
  pub by-sort : (Q : Sort → Type 0)
      → ((i : ℕ) → 1 ≤ steps_of tables i → t ≡ first_of tables i → Q (SagaItself (first_of tables i) (steps_of tables i)))
      → ((i j : ℕ) → 1 ≤ j → j ≤ steps_of tables i → t ≡ first_of tables i + j → Q (Step (first_of tables i) (steps_of tables i) j))
      → ((i j : ℕ) → 1 ≤ j → j < steps_of tables i → t ≡ first_of tables i + (steps_of tables i + j) → Q (Undo (first_of tables i) (steps_of tables i) j))
      → (owned_by (sagas_of tables) ≤ t → t < number_of_all tables → Q Plain)
      → (number_of_all tables ≤ t → Q Unknown)
      → Q (sort_of tables t)
  unfolding sort_of
  by-sort Q saga step undo plain unknown =
      by-list (sagas_of tables) 0 tables.plain t Q (omega arith)
      (λ i k h e.
      let a : first_of tables i ≡ 0 + first_of tables i = omega arith in
      subst (λ (f : ℕ). Q (place_of f (steps_of tables i) k)) a
      (by_place (λ (k : ℕ). t ≡ first_of tables i + k → Q (place_of (first_of tables i) (steps_of tables i) k)) (steps_of tables i)
      (λ b d. subst Q (place-saga (first_of tables i) (steps_of tables i) 0 refl) (saga i b (omega arith)))
      (λ j b c d. subst Q (place-step (first_of tables i) (steps_of tables i) j b c) (step i j b c d))
      (λ j b c d.
      let q : j ≡ steps_of tables i + j - steps_of tables i = omega arith in
      subst Q (ap (Undo (first_of tables i) (steps_of tables i)) q ∙ place-undo (first_of tables i) (steps_of tables i) (steps_of tables i + j) (omega arith)) (undo i j b c d))
      k h (omega arith)))
      (λ b c. plain (omega arith) (omega arith))
      (λ h. unknown (omega arith))

  pub known_small : is_known (sort_of tables t) ≡ true → t < number_of_all tables
  known_small =
      by-sort (λ (x : Sort). is_known x ≡ true → t < number_of_all tables)
      (λ i l h e. omega (arith, owned-le tables i))
      (λ i j a b h e. omega (arith, owned-le tables i))
      (λ i j a b h e. omega (arith, owned-le tables i))
      (λ a b e. b)
      (λ h e. absurd (false≢true e))
