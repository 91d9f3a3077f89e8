-- What a sheet says after each number that was written on it.
use Prim.Native.Nat.{ℕ, ◌+◌, ◌-◌, ◌≤◌, ◌<◌, min}
use native.Mathlib.Omega.{arith}
use mathlib.Core.Path.{◌≡◌, sym, ap, ◌∙◌}
use mathlib.Core.Bool.{cond}
use mathlib.Core.List.{List}
use lib.Dec.{ltb}
use lib.ListN.{length, get_or, set, length-set}
use lib.Seq.{get_or-set_same, get_or-set_other}
use borrow.Author.Tests.{lt-ltb, le-ltb}
use Rattle.laws.proofs.Decisions.{same_or, lt-or}
use Rattle.terms.specs.Limits.{most_sagas, most_transactions}
use Rattle.tables.specs.Counts.{object_count, dependency_count}
use Rattle.tables.specs.Dependencies.{dependency_at}
use Rattle.tables.specs.Sorts.{sagas_of, sort_of, owned_by, number_of_all}
use Rattle.tables.specs.declared.Sort.TheVariants.{Plain, Unknown}
use Rattle.tables.specs.declared.Tables.{Tables}
use Rattle.tables.proofs.SortLaws.{Passed, passed-plain, passed-all}
use Rattle.sheet.specs.Sheet.{sort_in, sort_at, dependency_in, dependency_on, Holds}
use Rattle.sheet.proofs.CodeLaws.{sort-past}

-- past all sagas stand the plain ones, and then none
pub passed-rest : (tables : Tables) → length tables.steps ≡ most_sagas → (i t f : ℕ) → Passed tables t i f → min tables.sagas most_sagas ≤ i → f ≤ t
    → cond (ltb (t - f) tables.plain) Plain Unknown ≡ sort_of tables t
passed-rest tables full i t f past h l =
    lt-or (t - f) tables.plain
    (λ m. rw (lt-ltb (t - f) tables.plain m) (passed-plain tables full i t f past h (omega arith)))
    (λ m. rw (le-ltb (t - f) tables.plain m) (passed-all tables full i t f past h (omega arith)))

module _ (tables : Tables) where
  -- the sorts up to t, without t, are there
  abbrev pub SortsTo : ℕ → List ℕ → Type 0
  SortsTo t sheet = (k : ℕ) → k < t → sort_in (get_or sheet k 0) ≡ sort_of tables k

  pub sorts-more : (t : ℕ) (sheet : List ℕ) (x : ℕ) → SortsTo t sheet → t < length sheet → sort_in x ≡ sort_of tables t → SortsTo (t + 1) (set sheet t x)
  sorts-more t sheet x h l e k m =
      same_or k t
      (λ q. ap (λ (j : ℕ). sort_in (get_or (set sheet t x) j 0)) q ∙ ap sort_in (get_or-set_same sheet t x 0 l) ∙ e ∙ ap (sort_of tables) (sym q))
      (λ q. ap sort_in (get_or-set_other sheet t k x 0 q) ∙ h k (omega arith))

  -- the dependencies up to i, without i, are there
  abbrev pub DependenciesTo : ℕ → List ℕ → Type 0
  DependenciesTo i sheet = (k : ℕ) → k < i → dependency_on sheet k ≡ dependency_at tables k

  pub dependencies-more : (i : ℕ) (sheet : List ℕ) (x : ℕ) → DependenciesTo i sheet → most_transactions + i < length sheet
      → dependency_in x ≡ dependency_at tables i → DependenciesTo (i + 1) (set sheet (most_transactions + i) x)
  dependencies-more i sheet x h l e k m =
      same_or k i
      (λ q. ap (dependency_on (set sheet (most_transactions + i) x)) q ∙ ap dependency_in (get_or-set_same sheet (most_transactions + i) x 0 l) ∙ e ∙ ap (dependency_at tables) (sym q))
      (λ q. ap dependency_in (get_or-set_other sheet (most_transactions + i) (most_transactions + k) x 0 (λ z. q (omega arith))) ∙ h k (omega arith))

-- the sorts are kept where what is written stands past them
abbrev pub SortsKept : List ℕ → List ℕ → Type 0
SortsKept sheet₀ sheet = (t : ℕ) → t < most_transactions → get_or sheet t 0 ≡ get_or sheet₀ t 0

pub kept_more : (sheet₀ sheet : List ℕ) (i x : ℕ) → SortsKept sheet₀ sheet → SortsKept sheet₀ (set sheet (most_transactions + i) x)
kept_more sheet₀ sheet i x h t l = get_or-set_other sheet (most_transactions + i) t x 0 (omega arith) ∙ h t l

-- with the three counts the sheet is whole
module _ (tables : Tables) (few : number_of_all tables ≤ most_transactions) (sheet : List ℕ) (long : length sheet ≡ 195) (a b c : ℕ) where
  abbrev counted : List ℕ
  counted = set (set (set sheet 192 a) 193 b) 194 c

  below : (t : ℕ) → t < 192 → get_or counted t 0 ≡ get_or sheet t 0
  below t h =
      get_or-set_other (set (set sheet 192 a) 193 b) 194 t c 0 (omega arith)
      ∙ get_or-set_other (set sheet 192 a) 193 t b 0 (omega arith)
      ∙ get_or-set_other sheet 192 t a 0 (omega arith)

  pub counted-holds : SortsTo tables most_transactions sheet → DependenciesTo tables (dependency_count tables) sheet
      → a ≡ object_count tables → b ≡ dependency_count tables → c ≡ owned_by (sagas_of tables) → Holds tables counted
  unfolding sort_at
  counted-holds s d objects declared owned = record {
    sorts = λ t.
        lt-or t most_transactions
        (λ l. rw (lt-ltb t most_transactions l) (ap sort_in (below t (omega arith)) ∙ s t l))
        (λ l. rw (le-ltb t most_transactions l) (sym (sort-past tables few t l)));
    objects =
        get_or-set_other (set (set sheet 192 a) 193 b) 194 192 c 0 (omega arith)
        ∙ get_or-set_other (set sheet 192 a) 193 192 b 0 (omega arith)
        ∙ get_or-set_same sheet 192 a 0 (omega arith)
        ∙ objects;
    declared =
        get_or-set_other (set (set sheet 192 a) 193 b) 194 193 c 0 (omega arith)
        ∙ get_or-set_same (set sheet 192 a) 193 b 0 (simp length-set (omega arith))
        ∙ declared;
    dependencies = λ i l. ap dependency_in (below (most_transactions + i) (omega arith)) ∙ d i l;
    owned = get_or-set_same (set (set sheet 192 a) 193 b) 194 c 0 (simp length-set (omega arith)) ∙ owned;
  }
