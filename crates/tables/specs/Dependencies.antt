-- Declared dependencies (docs/RULES.md, 2 States and who may act), and when an entry of the book is one.
use Rattle.std.specs.Prelude.{ℕ, ◌-◌, Bool, not, cond, ◌&&◌, ◌||◌, get_or, ltb, leb, eqb}
use Rattle.tables.specs.declared.Kind.{Kind}
use Rattle.tables.specs.declared.Kind.TheVariants.{Commit, Abort, WeakAbort, Begin, Serial, BeginOnCommit, BeginOnAbort}
use Rattle.tables.specs.declared.Dependency.{Dependency}
use Rattle.tables.specs.declared.Sort.{Sort}
use Rattle.tables.specs.declared.Tables.{Tables}
use Rattle.tables.specs.Sorts.{sort_of, is_saga, is_plain}

-- the number of each kind
abbrev pub kind_number : Kind → ℕ
kind_number Commit = 1
kind_number Abort = 2
kind_number WeakAbort = 3
kind_number Begin = 4
kind_number Serial = 5
kind_number BeginOnCommit = 6
kind_number BeginOnAbort = 7

-- the kind of a number from 1 to 7; other numbers are refused before they come here
unfoldable pub kind_of : ℕ → Kind
kind_of k =
    cond (eqb k 1) Commit
    (cond (eqb k 2) Abort
    (cond (eqb k 3) WeakAbort (cond (eqb k 4) Begin (cond (eqb k 5) Serial (cond (eqb k 6) BeginOnCommit BeginOnAbort)))))

-- what stands where no dependency was declared
abbrev pub no_dependency : Dependency
no_dependency = record { dependent = 0; base = 0; kind = Commit }

abbrev pub dependency_at : Tables → ℕ → Dependency
dependency_at tables i = get_or tables.dependencies i no_dependency

-- "b is plain or an S"
abbrev pub may_base : Sort → Bool
may_base b = is_plain b || is_saga b

-- "Kinds 1 to 3 take a plain d only, kinds 4 to 7 a plain d or an S."
abbrev pub may_depend : Sort → ℕ → Bool
may_depend d kind = is_plain d || (leb 4 kind && is_saga d)

-- known transactions below N, which differ, a kind from 1 to 7, and allowed sorts
abbrev pub allowed : Tables → ℕ → ℕ → ℕ → ℕ → Bool
allowed tables n d b kind =
    (ltb d n && ltb b n)
    && (not (eqb d b) && ((leb 1 kind && leb kind 7) && (may_base (sort_of tables b) && may_depend (sort_of tables d) kind)))

-- "strictly rising by dependent, then base, then kind"
abbrev pub rises_from : Dependency → ℕ → ℕ → ℕ → Bool
rises_from x d b kind =
    ltb x.dependent d || (eqb x.dependent d && (ltb x.base b || (eqb x.base b && ltb (kind_number x.kind) kind)))

-- it comes after the last entry so far, if there is one
unfoldable pub rises_to : Tables → ℕ → ℕ → ℕ → Bool
rises_to tables d b kind = eqb tables.declared 0 || rises_from (dependency_at tables (tables.declared - 1)) d b kind

-- none of refusal 6's reasons holds of an entry; n is N
unfoldable pub entry_holds : Tables → ℕ → ℕ → ℕ → ℕ → Bool
entry_holds tables n d b kind = allowed tables n d b kind && rises_to tables d b kind
