-- Saga rules (refusal 13) and declared dependencies (refusal 14): each definition that ends in `Barred` or `Bars` says that the rule forbids the event.
use Rattle.std.specs.Prelude.{ℕ, ◌+◌, ◌-◌, Bool, true, false, not, ◌&&◌, ◌||◌, List, ltb, leb, eqb}
use Rattle.laws.specs.Index.{any_below}
use Rattle.terms.specs.Limits.{most_transactions}
use Rattle.sets.specs.Sets.{set_of}
use Rattle.tables.specs.Counts.{dependency_count}
use Rattle.tables.specs.Dependencies.{dependency_at}
use Rattle.tables.specs.Sorts.{sort_of, is_undo}
use Rattle.tables.specs.declared.Kind.{Kind}
use Rattle.tables.specs.declared.Kind.TheVariants.{Commit, Abort, WeakAbort, Begin, Serial, BeginOnCommit, BeginOnAbort}
use Rattle.tables.specs.declared.Dependency.{Dependency}
use Rattle.tables.specs.declared.Sort.{Sort}
use Rattle.tables.specs.declared.Sort.TheVariants.{Saga, Step, Undo, Plain, Unknown}
use Rattle.tables.specs.declared.Tables.{Tables}
use Rattle.sheet.specs.Sheet.{sort_at}
use Rattle.rules.specs.declared.Phase.{Phase}
use Rattle.rules.specs.declared.Transaction.{Transaction}
use Rattle.rules.specs.States.{is_idle, is_active, is_committed, is_aborted, has_ended, phase_of, parent_of, is_under, own}

-- ---- sagas; P gives the phases of the saga's own transactions

-- "T1 begins only while S is active. T(i), i above 1, begins only while S is active and T(i-1) is committed."
abbrev pub step_begins : (ℕ → Phase) → ℕ → Bool
step_begins P i = is_active (P 0) && (leb i 1 || is_committed (P (i - 1)))

-- the undo of T(i) is committed; Tn has none
abbrev pub undone : ℕ → (ℕ → Phase) → ℕ → Bool
undone n P i = ltb i n && is_committed (P (n + i))

-- "C(i) begins only when S is aborted, T(i) is committed, T(i+1) isn't active, and, if T(i+1) is committed, C(i+1) is committed."
abbrev pub undo_begins : ℕ → (ℕ → Phase) → ℕ → Bool
undo_begins n P i =
    is_aborted (P 0) && (is_committed (P i) && (not (is_active (P (i + 1))) && (not (is_committed (P (i + 1))) || undone n P (i + 1))))

abbrev pub begin_barred : List Transaction → Sort → Bool
begin_barred ts (Saga f n) = false
begin_barred ts (Step f n i) = not (step_begins (own ts f) i)
begin_barred ts (Undo f n i) = not (undo_begins n (own ts f) i)
begin_barred ts Plain = false
begin_barred ts Unknown = false

-- "A step commits only while S is active." "S commits only when Tn is committed."
abbrev pub commit_barred : List Transaction → Sort → Bool
commit_barred ts (Saga f n) = not (is_committed (own ts f n))
commit_barred ts (Step f n i) = not (is_active (own ts f 0))
commit_barred ts (Undo f n i) = false
commit_barred ts Plain = false
commit_barred ts Unknown = false

-- "S aborts only when Tn isn't committed."
abbrev pub abort_barred : List Transaction → Sort → Bool
abort_barred ts (Saga f n) = is_committed (own ts f n)
abort_barred ts (Step f n i) = false
abort_barred ts (Undo f n i) = false
abort_barred ts Plain = false
abort_barred ts Unknown = false

-- ---- declared dependencies, by the phase of the base b

-- whether d may not commit
abbrev pub commit_bars : Kind → Phase → Bool
-- d commits only when b is committed or aborted
commit_bars Commit b = not (has_ended b)
-- d commits only when b is committed
commit_bars Abort b = not (is_committed b)
-- d doesn't commit when b is aborted
commit_bars WeakAbort b = is_aborted b
commit_bars Begin b = false
commit_bars Serial b = false
commit_bars BeginOnCommit b = false
commit_bars BeginOnAbort b = false

-- whether d may not begin
abbrev pub begin_bars : Kind → Phase → Bool
begin_bars Commit b = false
begin_bars Abort b = false
begin_bars WeakAbort b = false
-- d begins only when b isn't idle
begin_bars Begin b = is_idle b
-- d begins only when b is committed or aborted
begin_bars Serial b = not (has_ended b)
-- d begins only when b is committed
begin_bars BeginOnCommit b = not (is_committed b)
-- d begins only when b is aborted
begin_bars BeginOnAbort b = not (is_aborted b)

-- of a begin (true) or of a commit
abbrev pub kind_bars : Bool → Kind → Phase → Bool
kind_bars true = begin_bars
kind_bars false = commit_bars

-- this dependency bars t
abbrev pub barred_by : Bool → List Transaction → ℕ → Dependency → Bool
barred_by begins ts t d = eqb d.dependent t && kind_bars begins d.kind (phase_of ts d.base)

-- some declared dependency does; no more are declared than there is room for
unfoldable pub declared_bars : Bool → Tables → List Transaction → ℕ → Bool
declared_bars begins tables ts t = any_below (dependency_count tables) (λ i. barred_by begins ts t (dependency_at tables i))

-- ---- helpers: "A parent can't commit while a child is active"

abbrev pub active_child : List Transaction → ℕ → ℕ → Bool
active_child ts m c = is_under m (parent_of ts c) && is_active (phase_of ts c)

-- a child of m's own is active
unfoldable pub child_active : List Transaction → ℕ → Bool
child_active ts m = any_below most_transactions (active_child ts m)

-- ---- what is asked of transactions by their phase

abbrev pub inactive : List Transaction → ℕ → Bool
inactive ts t = not (is_active (phase_of ts t))

abbrev pub active_undo : Tables → List Transaction → ℕ → Bool
active_undo tables ts u = is_undo (sort_of tables u) && is_active (phase_of ts u)

unfoldable pub active_undos : Tables → List Transaction → ℕ
active_undos tables ts = set_of most_transactions (active_undo tables ts)

-- the same by the sheet of the tables
abbrev pub undo_on : List ℕ → List Transaction → ℕ → Bool
undo_on sheet ts u = is_undo (sort_at sheet u) && is_active (phase_of ts u)
