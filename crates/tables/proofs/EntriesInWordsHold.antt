-- What refusal 6 goes by, in words.
use Prim.Native.Nat.{ℕ, ◌≤◌}
use mathlib.Core.Path.{◌≡◌, refl, ap}
use mathlib.Core.Bool.{true, not, ◌&&◌, ◌||◌}
use mathlib.Core.Logic.{◌⊎◌, inl, inr, ⊎_elim}
use lib.Dec.{eqb, leb, ltb}
use borrow.Author.Tests.{eq-eqb, eqb-true, le-leb, leb-true, lt-ltb, ltb-true, ne_eqb}
use Rattle.laws.proofs.Bools.{and_on, clash, not_on, on_and, or_cases, or_left, or_right}
use Rattle.tables.specs.Accepted.{EntriesInWords, EntryAllowed, IsSaga, Rises}
use Rattle.tables.specs.Dependencies.{allowed, kind_number, may_base, may_depend, rises_from}
use Rattle.tables.specs.Sorts.{is_plain, is_saga, sort_of}
use Rattle.tables.specs.declared.Dependency.{Dependency}
use Rattle.tables.specs.declared.Sort.{Sort}
use Rattle.tables.specs.declared.Sort.TheVariants.{Plain, Saga, Step, Undo, Unknown}
use Rattle.tables.specs.declared.Tables.{Tables}
use Rattle.tables.proofs.DependencyLaws.{on-allowed}

-- ---- sorts

plain-is : (x : Sort) → is_plain x ≡ true → x ≡ Plain
plain-is (Saga f n) e = clash e refl
plain-is (Step f n i) e = clash e refl
plain-is (Undo f n i) e = clash e refl
plain-is Plain e = refl
plain-is Unknown e = clash e refl

saga-is : (x : Sort) → is_saga x ≡ true → IsSaga x
saga-is (Saga f n) e = (f, n, refl)
saga-is (Step f n i) e = clash e refl
saga-is (Undo f n i) e = clash e refl
saga-is Plain e = clash e refl
saga-is Unknown e = clash e refl

is-saga : (x : Sort) → IsSaga x → is_saga x ≡ true
is-saga x h = ap is_saga h.2

base-is : (x : Sort) → may_base x ≡ true → (x ≡ Plain) ⊎ IsSaga x
base-is x e = ⊎_elim (λ p. inl (plain-is x p)) (λ s. inr (saga-is x s)) (or_cases (is_plain x) (is_saga x) e)

is_base : (x : Sort) → (x ≡ Plain) ⊎ IsSaga x → may_base x ≡ true
is_base x h = ⊎_elim (λ p. or_left (is_plain x) (is_saga x) (ap is_plain p)) (λ s. or_right (is_plain x) (is_saga x) (is-saga x s)) h

module _ (x : Sort) (kind : ℕ) where
  depends-is : may_depend x kind ≡ true → (x ≡ Plain) ⊎ ((4 ≤ kind) × IsSaga x)
  depends-is e =
      ⊎_elim (λ p. inl (plain-is x p)) (λ s. let b = on_and (leb 4 kind) (is_saga x) s in inr (leb-true 4 kind b.0, saga-is x b.1))
      (or_cases (is_plain x) (leb 4 kind && is_saga x) e)

  is-dependent : (x ≡ Plain) ⊎ ((4 ≤ kind) × IsSaga x) → may_depend x kind ≡ true
  is-dependent h =
      ⊎_elim (λ p. or_left (is_plain x) (leb 4 kind && is_saga x) (ap is_plain p))
      (λ s. or_right (is_plain x) (leb 4 kind && is_saga x) (and_on (leb 4 kind) (is_saga x) (le-leb 4 kind s.0) (is-saga x s.1))) h

-- ---- an entry

module _ (t : Tables) (n d b kind : ℕ) where
  allowed_is : allowed t n d b kind ≡ true → EntryAllowed t n d b kind
  allowed_is e =
      let a = on-allowed t n d b kind e in
      record {
        dependent = a.dependent-known;
        base = a.base-known;
        differ = a.apart;
        kind_low = a.kind_low;
        kind_high = a.kind_high;
        base_sort = base-is (sort_of t b) a.base-may;
        dependent_sort = depends-is (sort_of t d) kind a.dependent-may;
      }

  is-allowed : EntryAllowed t n d b kind → allowed t n d b kind ≡ true
  is-allowed h =
      let kinds = leb 1 kind && leb kind 7 in
      let sorts = may_base (sort_of t b) && may_depend (sort_of t d) kind in
      and_on (ltb d n && ltb b n) (not (eqb d b) && (kinds && sorts)) (and_on (ltb d n) (ltb b n) (lt-ltb d n h.dependent) (lt-ltb b n h.base))
      (and_on (not (eqb d b)) (kinds && sorts) (not_on (eqb d b) (ne_eqb d b h.differ))
      (and_on kinds sorts (and_on (leb 1 kind) (leb kind 7) (le-leb 1 kind h.kind_low) (le-leb kind 7 h.kind_high))
      (and_on (may_base (sort_of t b)) (may_depend (sort_of t d) kind) (is_base (sort_of t b) h.base_sort) (is-dependent (sort_of t d) kind h.dependent_sort))))

-- ---- rising

module _ (x : Dependency) (d b kind : ℕ) where
  abbrev later : ℕ
  later = kind_number x.kind

  rises_is : rises_from x d b kind ≡ true → Rises x d b kind
  rises_is e =
      ⊎_elim (λ l. inl (ltb-true x.dependent d l))
      (λ r.
      let p = on_and (eqb x.dependent d) (ltb x.base b || (eqb x.base b && ltb later kind)) r in
      inr (
        eqb-true x.dependent d p.0,
        ⊎_elim (λ l. inl (ltb-true x.base b l))
            (λ q. let k = on_and (eqb x.base b) (ltb later kind) q in inr (eqb-true x.base b k.0, ltb-true later kind k.1))
            (or_cases (ltb x.base b) (eqb x.base b && ltb later kind) p.1),
      ))
      (or_cases (ltb x.dependent d) (eqb x.dependent d && (ltb x.base b || (eqb x.base b && ltb later kind))) e)

  is-rising : Rises x d b kind → rises_from x d b kind ≡ true
  is-rising h =
      let rest = ltb x.base b || (eqb x.base b && ltb later kind) in
      ⊎_elim (λ l. or_left (ltb x.dependent d) (eqb x.dependent d && rest) (lt-ltb x.dependent d l))
      (λ r. or_right (ltb x.dependent d) (eqb x.dependent d && rest)
      (and_on (eqb x.dependent d) rest (eq-eqb x.dependent d r.0)
      (⊎_elim (λ l. or_left (ltb x.base b) (eqb x.base b && ltb later kind) (lt-ltb x.base b l))
      (λ q. or_right (ltb x.base b) (eqb x.base b && ltb later kind) (and_on (eqb x.base b) (ltb later kind) (eq-eqb x.base b q.0) (lt-ltb later kind q.1)))
      r.1)))
      h

pub entries-in-words : EntriesInWords
entries-in-words = record { allowed_is = λ t n d b kind. (allowed_is t n d b kind, is-allowed t n d b kind); rises_is = λ x d b kind. (rises_is x d b kind, is-rising x d b kind) }
