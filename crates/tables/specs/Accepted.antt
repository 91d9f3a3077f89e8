-- What accepted tables are: demand 3 rests on it; and which tables are refused because they can never move.
use Rattle.std.specs.Prelude.{ℕ, zero, suc, ◌+◌, ◌*◌, ◌≤◌, ◌<◌, ◌≡◌, true, ◌↔◌, ◌≢◌, ◌⊎◌, List, get_or, Ok}
use Rattle.terms.specs.Limits.{most_sagas, most_steps, most_transactions, most_objects, most_dependencies}
use Rattle.terms.specs.declared.Refusal.{Refusal}
use Rattle.terms.specs.declared.Refusal.TheVariants.{BadEdition, NeverMoves}
use Rattle.sets.specs.Reach.{Leads}
use Rattle.number.specs.Number.{and_then, ceiling_of, edition_number, number_at, fault}
use Rattle.number.specs.declared.Edition.{Edition}
use Rattle.number.specs.declared.Edition.TheVariants.{First}
use Rattle.tables.specs.Sorts.{first_of, number_of_all, sagas_of, sort_of}
use Rattle.tables.specs.Dependencies.{kind_number, dependency_at, allowed, rises_from}
use Rattle.tables.specs.Circles.{begin_link}
use Rattle.tables.specs.Reading.{edition_of, tables_by}
use Rattle.tables.specs.Written.{declared_of}
use Rattle.tables.specs.declared.Circles.{Circles}
use Rattle.tables.specs.declared.Circles.TheVariants.{Forbidden, Permitted}
use Rattle.tables.specs.declared.Dependency.{Dependency}
use Rattle.tables.specs.declared.Sort.{Sort}
use Rattle.tables.specs.declared.Sort.TheVariants.{Plain, Saga, Step, Undo}
use Rattle.tables.specs.declared.Tables.{Tables}

-- the sort of an S
abbrev pub IsSaga : Sort → Type 0
IsSaga x = (f : ℕ) × (n : ℕ) × (x ≡ Saga f n)

pub record Well (t : Tables) : Type 0 where
  -- refusal 5: at most 16 sagas, each of 1 to 16 steps; N at most 64; the other counts
  pub listed : t.sagas ≤ most_sagas
  pub stepped : (i : ℕ) → i < t.sagas → (1 ≤ get_or t.steps i 0) × (get_or t.steps i 0 ≤ most_steps)
  pub fits : number_of_all t ≤ most_transactions
  pub objects : t.objects ≤ most_objects
  pub declared : t.declared ≤ most_dependencies
  -- refusal 6: known and different transactions, the kinds, the sorts
  pub permitted : (i : ℕ) → i < t.declared
      → allowed t (number_of_all t) (dependency_at t i).dependent (dependency_at t i).base (kind_number (dependency_at t i).kind) ≡ true
  -- and strictly rising entries
  pub rising : (i : ℕ) → i + 1 < t.declared
      → rises_from (dependency_at t i) (dependency_at t (i + 1)).dependent (dependency_at t (i + 1)).base (kind_number (dependency_at t (i + 1)).kind) ≡ true

-- tables that reading accepts are well formed, circles permitted or not
abbrev pub AcceptedWell : Type 0
AcceptedWell = (circles : Circles) (ed : Edition) (s : List ℕ) (at : ℕ) → (tables_by circles ed s).answer ≡ Ok at → Well (tables_by circles ed s).tables

-- the same tables, as far as anything looks at them: what stands in their arrays behind the counts is never looked at
pub record SameTables (t u : Tables) : Type 0 where
  pub sagas : t.sagas ≡ u.sagas
  pub steps : sagas_of t ≡ sagas_of u
  pub plain : t.plain ≡ u.plain
  pub objects : t.objects ≡ u.objects
  pub declared : t.declared ≡ u.declared
  pub entries : declared_of t ≡ declared_of u

-- ---- an entry, in words

-- known and different transactions, a kind from 1 to 7, and the sorts: "b is plain or an S"; "Kinds 1 to 3 take a plain d only, kinds 4 to 7 a plain d or an S."
pub record EntryAllowed (t : Tables) (n d b kind : ℕ) : Type 0 where
  pub dependent : d < n
  pub base : b < n
  pub differ : d ≢ b
  pub kind_low : 1 ≤ kind
  pub kind_high : kind ≤ 7
  pub base_sort : (sort_of t b ≡ Plain) ⊎ IsSaga (sort_of t b)
  pub dependent_sort : (sort_of t d ≡ Plain) ⊎ ((4 ≤ kind) × IsSaga (sort_of t d))

-- "strictly rising by dependent, then base, then kind"
abbrev pub Rises : Dependency → ℕ → ℕ → ℕ → Type 0
Rises x d b kind = (x.dependent < d) ⊎ ((x.dependent ≡ d) × ((x.base < b) ⊎ ((x.base ≡ b) × (kind_number x.kind < kind))))

-- what refusal 6 goes by is that, both ways
pub record EntriesInWords : Type 0 where
  pub allowed_is : (t : Tables) (n d b kind : ℕ) → (allowed t n d b kind ≡ true) ↔ EntryAllowed t n d b kind
  pub rises_is : (x : Dependency) (d b kind : ℕ) → (rises_from x d b kind ≡ true) ↔ Rises x d b kind

-- ---- the numbers of transactions

-- "A saga whose first number is f owns 2n of them: f is the saga S, f+1 to f+n are steps T1 to Tn, f+n+1 to f+2n-1 are undos C1 to C(n-1). Tn has no undo. Plain
-- ones come last." The first saga starts at 0, and each next one behind the one before it.
pub record Numbered (t : Tables) : Type 0 where
  pub start : first_of t 0 ≡ 0
  pub behind : (i : ℕ) → i < t.sagas → first_of t (i + 1) ≡ first_of t i + 2 * get_or t.steps i 0
  pub saga : (i : ℕ) → i < t.sagas → sort_of t (first_of t i) ≡ Saga (first_of t i) (get_or t.steps i 0)
  pub step : (i j : ℕ) → i < t.sagas → 1 ≤ j → j ≤ get_or t.steps i 0 → sort_of t (first_of t i + j) ≡ Step (first_of t i) (get_or t.steps i 0) j
  pub undo : (i j : ℕ) → i < t.sagas → 1 ≤ j → j < get_or t.steps i 0
      → sort_of t (first_of t i + (get_or t.steps i 0 + j)) ≡ Undo (first_of t i) (get_or t.steps i 0) j
  pub plain : (k : ℕ) → k < t.plain → sort_of t (first_of t t.sagas + k) ≡ Plain

abbrev pub WellNumbered : Type 0
WellNumbered = (t : Tables) → Well t → Numbered t

-- ---- tables that can never move

-- the place of field n of a book, counted from 0, which is the edition
unfoldable pub place_of_field : ℕ → List ℕ → ℕ → ℕ
place_of_field cap s zero = 0
place_of_field cap s (suc n) = and_then (number_at cap s (place_of_field cap s n)) (λ r p. p) (λ v next. next)

-- the dependency count stands after the edition, the number of sagas, the steps of each, the plain transactions and the objects
abbrev pub count_place : Edition → List ℕ → Tables → ℕ
count_place ed s tables = place_of_field (ceiling_of ed) s (4 + tables.sagas)

-- "begin kinds 4 to 7 lead from a transaction back to itself"
abbrev pub GoesRound : Tables → Type 0
GoesRound tables = (t : ℕ) × Leads (begin_link tables) t t

pub record CirclesRefused (ed : Edition) (s : List ℕ) : Type 0 where
  -- "Refuse tables exactly when": where they are accepted with circles permitted, and go round; "place at the dependency count"
  pub refused : (p : ℕ) → ((tables_by Forbidden ed s).answer ≡ fault NeverMoves p)
      ↔ (((at : ℕ) × ((tables_by Permitted ed s).answer ≡ Ok at)) × (GoesRound (tables_by Permitted ed s).tables × (p ≡ count_place ed s (tables_by Permitted ed s).tables)))
  -- "judged after the last dependency entry": every other refusal of tables comes first
  pub others_first : (r : Refusal) (p : ℕ) → (tables_by Permitted ed s).answer ≡ fault r p → tables_by Forbidden ed s ≡ tables_by Permitted ed s
  -- what is accepted is read as it was
  pub accepted : (at : ℕ) → (tables_by Forbidden ed s).answer ≡ Ok at → tables_by Permitted ed s ≡ tables_by Forbidden ed s
  -- and what does not go round is accepted where circles are forbidden too
  pub no_circle : (at : ℕ) → (tables_by Permitted ed s).answer ≡ Ok at → (GoesRound (tables_by Permitted ed s).tables → ⊥) → tables_by Forbidden ed s ≡ tables_by Permitted ed s

abbrev pub NeverMovesRefused : Type 0
NeverMovesRefused = (ed : Edition) (s : List ℕ) → CirclesRefused ed s

-- ---- the edition field

-- a book whose first field is a number names its edition by it, or is refused by 4; a first field that is no number of edition 1, also one above 65,535, is refused as such
pub record EditionField (circles : Circles) (s : List ℕ) : Type 0 where
  pub names : (ed : Edition) (next : ℕ) → number_at (ceiling_of First) s 0 ≡ Ok (edition_number ed, next) → edition_of s ≡ ed
  pub other : (v next : ℕ) → number_at (ceiling_of First) s 0 ≡ Ok (v, next) → ((ed : Edition) → v ≢ edition_number ed)
      → (tables_by circles (edition_of s) s).answer ≡ fault BadEdition 0
  pub none : (r : Refusal) (p : ℕ) → number_at (ceiling_of First) s 0 ≡ fault r p → (tables_by circles (edition_of s) s).answer ≡ fault r p
  -- and no edition takes the tables of another
  pub accepted : (ed : Edition) (at : ℕ) → (tables_by circles ed s).answer ≡ Ok at → edition_of s ≡ ed

abbrev pub EditionsTold : Type 0
EditionsTold = (circles : Circles) (s : List ℕ) → EditionField circles s
