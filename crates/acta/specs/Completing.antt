-- Everyone can terminate (000, fundamental IV, second half; saga 20; 001, section 4). h is a history.
use Rattle.std.specs.Prelude.{ℕ, ◌+◌, ◌≤◌, ◌<◌, ◌≡◌, true, false, ◌↔◌, List, [], ◌∷◌, ◌++◌, length}
use Rattle.terms.specs.declared.Event.{Event}
use Rattle.terms.specs.declared.Event.TheVariants.{Abort, Commit}
use Rattle.tables.specs.Sorts.{first_of, is_saga, is_undo, number_of_all, sort_of, steps_of}
use Rattle.tables.specs.declared.Sort.TheVariants.{Saga}
use Rattle.tables.specs.declared.Tables.{Tables}
use Rattle.histories.specs.Histories.{history}
use Rattle.acta.specs.Words.{aborted, began, committed, in_progress}

-- e is accepted behind h: with it behind them the events are a history
abbrev pub Takes : Tables → List Event → Event → Type 0
Takes tables h e = history tables (h ++ (e ∷ [])) ≡ h ++ (e ∷ [])

-- ★13, first half: nobody in progress is stuck
pub record NeverStuck (tables : Tables) (h : List Event) : Type 0 where
  -- 000, saga 20, and 001, section 4: an undo must commit, and can
  pub undo : (t : ℕ) → is_undo (sort_of tables t) ≡ true → in_progress h t ≡ true → Takes tables h (Commit t)
  -- a step and a plain one can abort
  pub others : (t : ℕ) → is_undo (sort_of tables t) ≡ false → is_saga (sort_of tables t) ≡ false → in_progress h t ≡ true → Takes tables h (Abort t)
  -- S can do exactly one of the two: commit when its last step has committed, abort when it has not
  pub saga_commits : (f n : ℕ) → sort_of tables f ≡ Saga f n → in_progress h f ≡ true → Takes tables h (Commit f) ↔ (committed h (f + n) ≡ true)
  pub saga_aborts : (f n : ℕ) → sort_of tables f ≡ Saga f n → in_progress h f ≡ true → Takes tables h (Abort f) ↔ (committed h (f + n) ≡ false)

-- h is complete: nobody is in progress, and behind the abort of a saga every step of it that committed has been undone
pub record Complete (tables : Tables) (h : List Event) : Type 0 where
  pub all_ended : (t : ℕ) → in_progress h t ≡ false
  pub all_undone : (i : ℕ) → i < tables.sagas → aborted h (first_of tables i) ≡ true → (j : ℕ) → 1 ≤ j → j ≤ steps_of tables i → committed h (first_of tables i + j) ≡ true
      → (j < steps_of tables i) × (committed h (first_of tables i + (steps_of tables i + j)) ≡ true)

-- ★13, second half: whatever was accepted, events can follow, all of them accepted, after which it is complete
pub record Completed (tables : Tables) (h : List Event) : Type 0 where
  pub rest : List Event
  pub accepted : history tables (h ++ rest) ≡ h ++ rest
  pub complete : Complete tables (h ++ rest)
  -- they are at most as many as there are transactions: one for each plain one, and 2n for each saga of n steps
  pub few : length rest ≤ number_of_all tables
  -- and they begin nothing new: none but undos
  pub begins_none : (t : ℕ) → is_undo (sort_of tables t) ≡ false → began (h ++ rest) t ≡ began h t
