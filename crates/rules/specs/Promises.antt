-- The saga rules and the kinds of dependency once more, in the phases' own names, both ways: what else they forbade would be forbidden by no sentence of the documents.
use Rattle.std.specs.Prelude.{ℕ, ◌+◌, ◌-◌, ◌≤◌, ◌<◌, ◌≡◌, Bool, true, false, ◌↔◌, ◌≢◌, ◌⊎◌, List, [], ◌∷◌, map, Some}
use Rattle.tables.specs.Counts.{dependency_count}
use Rattle.tables.specs.Dependencies.{dependency_at, kind_of}
use Rattle.tables.specs.declared.Kind.{Kind}
use Rattle.tables.specs.declared.Sort.TheVariants.{Plain, Saga, Step, Undo}
use Rattle.tables.specs.declared.Tables.{Tables}
use Rattle.terms.specs.Limits.{most_transactions}
use Rattle.rules.specs.Rules.{abort_barred, begin_barred, begin_bars, child_active, commit_barred, commit_bars, declared_bars}
use Rattle.rules.specs.States.{own, parent_of, phase_of}
use Rattle.rules.specs.declared.Phase.{Phase}
use Rattle.rules.specs.declared.Phase.TheVariants.{Aborted, Active, Committed, Idle}
use Rattle.rules.specs.declared.Transaction.{Transaction}

-- ---- sagas

-- "C(i) begins only when S is aborted, T(i) is committed, T(i+1) isn't active, and, if T(i+1) is committed, C(i+1) is committed." Tn has no undo.
pub record UndoTurn (P : ℕ → Phase) (n i : ℕ) : Type 0 where
  pub saga : P 0 ≡ Aborted
  pub step : P i ≡ Committed
  pub next_rests : P (i + 1) ≢ Active
  pub next_undone : P (i + 1) ≡ Committed → (i + 1 < n) × (P (n + (i + 1)) ≡ Committed)

pub record LeavesAlone (ts : List Transaction) : Type 0 where
  -- a plain transaction begins, commits and aborts by no saga rule
  pub plain_begins : begin_barred ts Plain ≡ false
  pub plain_commits : commit_barred ts Plain ≡ false
  pub plain_aborts : abort_barred ts Plain ≡ false
  -- S begins by itself; "T1 begins only while S is active. T(i), i above 1, begins only while S is active and T(i-1) is committed."
  pub saga_begins : (f n : ℕ) → begin_barred ts (Saga f n) ≡ false
  pub step_begins : (f n i : ℕ) → (begin_barred ts (Step f n i) ≡ false) ↔ ((own ts f 0 ≡ Active) × ((i ≤ 1) ⊎ (own ts f (i - 1) ≡ Committed)))
  pub undo_begins : (f n i : ℕ) → (begin_barred ts (Undo f n i) ≡ false) ↔ UndoTurn (own ts f) n i
  -- "A step commits only while S is active." "S commits only when Tn is committed." An undo commits always.
  pub step_commits : (f n i : ℕ) → (commit_barred ts (Step f n i) ≡ false) ↔ (own ts f 0 ≡ Active)
  pub saga_commits : (f n : ℕ) → (commit_barred ts (Saga f n) ≡ false) ↔ (own ts f n ≡ Committed)
  pub undo_commits : (f n i : ℕ) → commit_barred ts (Undo f n i) ≡ false
  -- "S aborts only when Tn isn't committed." A step aborts always.
  pub saga_aborts : (f n : ℕ) → (abort_barred ts (Saga f n) ≡ false) ↔ (own ts f n ≢ Committed)
  pub step_aborts : (f n i : ℕ) → abort_barred ts (Step f n i) ≡ false

-- ---- kinds 1 to 7, as a table: for a base that is idle, active, committed, aborted

abbrev pub by_phase : (Phase → Bool) → List Bool
by_phase bars = bars Idle ∷ bars Active ∷ bars Committed ∷ bars Aborted ∷ []

pub record KindTable : Type 0 where
  -- whether d may not commit: kind 1 until b has ended, kind 2 until b is committed, kind 3 once b is aborted
  pub commits : map (λ (k : ℕ). by_phase (commit_bars (kind_of k))) (1 ∷ 2 ∷ 3 ∷ 4 ∷ 5 ∷ 6 ∷ 7 ∷ [])
      ≡ (true ∷ true ∷ false ∷ false ∷ []) ∷ (true ∷ true ∷ false ∷ true ∷ []) ∷ (false ∷ false ∷ false ∷ true ∷ [])
      ∷ (false ∷ false ∷ false ∷ false ∷ []) ∷ (false ∷ false ∷ false ∷ false ∷ []) ∷ (false ∷ false ∷ false ∷ false ∷ []) ∷ (false ∷ false ∷ false ∷ false ∷ []) ∷ []
  -- whether d may not begin: kind 4 while b is idle, kind 5 until b has ended, kind 6 until b is committed, kind 7 until b is aborted
  pub begins : map (λ (k : ℕ). by_phase (begin_bars (kind_of k))) (1 ∷ 2 ∷ 3 ∷ 4 ∷ 5 ∷ 6 ∷ 7 ∷ [])
      ≡ (false ∷ false ∷ false ∷ false ∷ []) ∷ (false ∷ false ∷ false ∷ false ∷ []) ∷ (false ∷ false ∷ false ∷ false ∷ [])
      ∷ (true ∷ false ∷ false ∷ false ∷ []) ∷ (true ∷ true ∷ false ∷ false ∷ []) ∷ (true ∷ true ∷ false ∷ true ∷ []) ∷ (true ∷ true ∷ true ∷ false ∷ []) ∷ []

-- some declared dependency of t's bars it, by its own kind and by the phase of its own base
pub record Barred (bars : Kind → Phase → Bool) (tables : Tables) (ts : List Transaction) (t : ℕ) : Type 0 where
  pub entry : ℕ
  pub declared : entry < dependency_count tables
  pub dependent : (dependency_at tables entry).dependent ≡ t
  pub bars_it : bars (dependency_at tables entry).kind (phase_of ts (dependency_at tables entry).base) ≡ true

-- and nothing else does
pub record DeclaredBars : Type 0 where
  pub begins : (tables : Tables) (ts : List Transaction) (t : ℕ) → (declared_bars true tables ts t ≡ true) ↔ Barred begin_bars tables ts t
  pub commits : (tables : Tables) (ts : List Transaction) (t : ℕ) → (declared_bars false tables ts t ≡ true) ↔ Barred commit_bars tables ts t

-- ---- helpers

-- "A parent can't commit while a child is active": a child of its own, and no one further down
pub record ActiveChild (ts : List Transaction) (m : ℕ) : Type 0 where
  pub child : ℕ
  pub low : child < most_transactions
  pub under : parent_of ts child ≡ Some m
  pub active : phase_of ts child ≡ Active

abbrev pub OwnChildren : Type 0
OwnChildren = (ts : List Transaction) (m : ℕ) → (child_active ts m ≡ true) ↔ ActiveChild ts m

-- in any state
abbrev pub RulesLeaveAlone : Type 0
RulesLeaveAlone = (ts : List Transaction) → LeavesAlone ts
