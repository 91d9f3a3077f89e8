-- The numbers of transactions are those of the documents.
use Prim.Native.Nat.{ℕ, ◌+◌, ◌*◌, ◌<◌}
use native.Mathlib.Numerals.{add-one}
use native.Mathlib.Omega.{arith}
use mathlib.Core.Path.{◌≡◌, sym, ap, subst, ◌∙◌}
use mathlib.Core.List.{List, [], ◌∷◌}
use lib.ListN.{get_or, take}
use lib.Seq.{get_or-take, take_all, take-suc}
use borrow.Author.Tests.{le-ltb, lt-ltb}
use Rattle.tables.specs.Accepted.{Well, WellNumbered}
use Rattle.tables.specs.Sorts.{first_of, owned_by, sagas_of, sort_from, sort_of, steps_of}
use Rattle.tables.specs.declared.Sort.TheVariants.{Plain, Saga, Step, Undo}
use Rattle.tables.specs.declared.Tables.{Tables}
use Rattle.tables.proofs.SagaLaws.{sort-saga, sort-step, sort-undo, well-steps}
use Rattle.tables.proofs.SortLaws.{first-none, owned-snoc}
use Rattle.tables.proofs.WrittenLaws.{steps-many}

-- behind all sagas stand the plain ones
plain-behind : (ns : List ℕ) (f p k : ℕ) → k < p → sort_from ns f p (f + owned_by ns + k) ≡ Plain
unfolding sort_from owned_by
plain-behind [] f p k h = rw (lt-ltb (f + 0 + k) (f + p) (omega arith))
plain-behind (n ∷ ns) f p k h =
    let a : f + (2 * n + owned_by ns) + k ≡ f + 2 * n + owned_by ns + k = omega arith in
    rw (a, le-ltb (f + 2 * n + owned_by ns + k) (f + 2 * n) (omega arith)) (plain-behind ns (f + 2 * n) p k h)

module _ (t : Tables) (well : Well t) where
  -- the steps of a saga are those of the table
  steps-are : (i : ℕ) → i < t.sagas → steps_of t i ≡ get_or t.steps i 0
  steps-are i h = get_or-take t.sagas t.steps i 0 h

  behind : (i : ℕ) → i < t.sagas → first_of t (i + 1) ≡ first_of t i + 2 * get_or t.steps i 0
  behind i h =
      ap (λ (k : ℕ). owned_by (take k (sagas_of t))) (add-one i)
      ∙ ap owned_by (take-suc (sagas_of t) i 0 (omega (arith, steps-many t well)))
      ∙ owned-snoc (take i (sagas_of t)) (steps_of t i)
      ∙ ap (λ (n : ℕ). first_of t i + 2 * n) (steps-are i h)

  all-before : first_of t t.sagas ≡ owned_by (sagas_of t)
  all-before = ap owned_by (take_all t.sagas (sagas_of t) (omega (arith, steps-many t well)))

  plain : (k : ℕ) → k < t.plain → sort_of t (first_of t t.sagas + k) ≡ Plain
  unfolding sort_of
  plain k h =
      let a : first_of t t.sagas + k ≡ 0 + owned_by (sagas_of t) + k = omega (arith, all-before) in
      ap (sort_from (sagas_of t) 0 t.plain) a ∙ plain-behind (sagas_of t) 0 t.plain k h

pub well-numbered : WellNumbered
well-numbered t well =
    record {
      start = sym (first-none t);
      behind = behind t well;
      saga = λ i h. subst (λ (n : ℕ). sort_of t (first_of t i) ≡ Saga (first_of t i) n) (steps-are t well i h) (sort-saga t i (well-steps t well i h).0);
      step = λ i j h a b.
          let n = steps-are t well i h in
          subst (λ (n : ℕ). sort_of t (first_of t i + j) ≡ Step (first_of t i) n j) n (sort-step t i j a (omega arith));
      undo = λ i j h a b.
          let n = steps-are t well i h in
          subst (λ (n : ℕ). sort_of t (first_of t i + (n + j)) ≡ Undo (first_of t i) n j) n (sort-undo t i j a (omega arith));
      plain = plain t well;
    }
