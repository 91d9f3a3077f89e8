-- What the numbers of a sheet stand for: at 0 to 63 the sorts of the transactions, at 64 to 191 the dependencies, and then three counts.
use Rattle.std.specs.Prelude.{ℕ, ◌+◌, ◌/◌, ◌%◌, ◌<◌, ◌≡◌, cond, List, eqb, ltb, get_or}
use Rattle.terms.specs.Limits.{most_transactions}
use Rattle.tables.specs.Counts.{object_count, dependency_count}
use Rattle.tables.specs.Dependencies.{kind_of, dependency_at}
use Rattle.tables.specs.Sorts.{sort_of, sagas_of, owned_by}
use Rattle.tables.specs.declared.Dependency.{Dependency}
use Rattle.tables.specs.declared.Sort.{Sort}
use Rattle.tables.specs.declared.Sort.TheVariants.{Saga, Step, Undo, Plain, Unknown}
use Rattle.tables.specs.declared.Tables.{Tables}

-- ---- sorts: from the low end which it is, the saga's first number, its steps, and which step or undo

abbrev pub sort_by : ℕ → ℕ → ℕ → ℕ → Sort
sort_by k f n i = cond (eqb k 1) Plain (cond (eqb k 2) (Saga f n) (cond (eqb k 3) (Step f n i) (cond (eqb k 4) (Undo f n i) Unknown)))

unfoldable pub sort_in : ℕ → Sort
sort_in c = sort_by (c % 8) (c / 8 % 64) (c / 512 % 64) (c / 32768 % 64)

-- the sort of any number; what is past the limit is none
unfoldable pub sort_at : List ℕ → ℕ → Sort
sort_at sheet t = cond (ltb t most_transactions) (sort_in (get_or sheet t 0)) Unknown

-- a sort that a number can stand for
abbrev pub SmallSort : Sort → Type 0
SmallSort (Saga f n) = (f < 64) × (n < 64)
SmallSort (Step f n i) = (f < 64) × ((n < 64) × (i < 64))
SmallSort (Undo f n i) = (f < 64) × ((n < 64) × (i < 64))
SmallSort Plain = Unit {0}
SmallSort Unknown = Unit {0}

-- ---- dependencies: from the low end the dependent, the base and the number of the kind

unfoldable pub dependency_in : ℕ → Dependency
dependency_in c = record { dependent = c % 256; base = c / 256 % 256; kind = kind_of (c / 65536) }

abbrev pub dependency_on : List ℕ → ℕ → Dependency
dependency_on sheet i = dependency_in (get_or sheet (most_transactions + i) 0)

-- ---- counts: how many objects, how many dependencies, how many transactions sagas own

abbrev pub objects_on : List ℕ → ℕ
objects_on sheet = get_or sheet 192 0

abbrev pub declared_on : List ℕ → ℕ
declared_on sheet = get_or sheet 193 0

abbrev pub owned_on : List ℕ → ℕ
owned_on sheet = get_or sheet 194 0

-- ---- the sheet says what these tables say

pub record Holds (tables : Tables) (sheet : List ℕ) : Type 0 where
  pub sorts : (t : ℕ) → sort_at sheet t ≡ sort_of tables t
  pub objects : objects_on sheet ≡ object_count tables
  pub declared : declared_on sheet ≡ dependency_count tables
  pub dependencies : (i : ℕ) → i < dependency_count tables → dependency_on sheet i ≡ dependency_at tables i
  pub owned : owned_on sheet ≡ owned_by (sagas_of tables)
