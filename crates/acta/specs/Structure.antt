-- The dependencies that a saga's structure adds (000, saga 18 to 21; 10.2.2). h is a history; S is f, T(i) is f + i and C(i) is f + n + i.
use Rattle.std.specs.Prelude.{ℕ, ◌+◌, ◌*◌, ◌-◌, ◌≤◌, ◌<◌, ◌≡◌, true, false, List}
use Rattle.terms.specs.declared.Event.{Event}
use Rattle.terms.specs.declared.Event.TheVariants.{Abort, Begin, Commit}
use Rattle.tables.specs.Sorts.{first_of, sort_of, steps_of}
use Rattle.tables.specs.declared.Sort.TheVariants.{Saga, Step, Undo}
use Rattle.tables.specs.declared.Tables.{Tables}
use Rattle.acta.specs.Words.{Happens, aborted, committed, in_progress}

-- ★6
pub record Structure (tables : Tables) (h : List Event) : Type 0 where
  -- 001, sections 1 and 4: of a saga's steps and undos one is in progress at a time
  pub one_at_a_time : (i j k : ℕ) → i < tables.sagas → 1 ≤ j → j < 2 * steps_of tables i → 1 ≤ k → k < 2 * steps_of tables i
      → in_progress h (first_of tables i + j) ≡ true → in_progress h (first_of tables i + k) ≡ true → j ≡ k
  -- 18, T(i+1) BCD T(i), and no step without S: a step begins only while S is in progress and behind the commit of the step before
  pub step_begins : (u : List Event) (t f n i : ℕ) → sort_of tables t ≡ Step f n i → Happens h u (Begin t) → (in_progress u f ≡ true) × (1 < i → committed u (f + (i - 1)) ≡ true)
  -- 19, T(i) WD S: a step commits only while S is in progress, so before S aborts
  pub step_commits : (u : List Event) (t f n i : ℕ) → sort_of tables t ≡ Step f n i → Happens h u (Commit t) → in_progress u f ≡ true
  -- 18 and 20, C(i) BAD S and BCD T(i): an undo begins only behind the abort of S and the commit of its step
  pub undo_begins : (u : List Event) (t f n i : ℕ) → sort_of tables t ≡ Undo f n i → Happens h u (Begin t) → (aborted u f ≡ true) × (committed u (f + i) ≡ true)
  -- 18, C(i) WCD C(i+1), strengthened as 001's sequence wants it: it begins only when T(i+1) is not in progress, and if T(i+1) committed, behind the commit of C(i+1)
  pub undo_waits : (u : List Event) (t f n i : ℕ) → sort_of tables t ≡ Undo f n i → Happens h u (Begin t)
      → (in_progress u (f + (i + 1)) ≡ false) × (committed u (f + (i + 1)) ≡ true → committed u (f + (n + (i + 1))) ≡ true)
  -- 19 and 21, S AD T(n): S commits only behind the commit of its last step
  pub saga_commits : (u : List Event) (f n : ℕ) → sort_of tables f ≡ Saga f n → Happens h u (Commit f) → committed u (f + n) ≡ true
  -- 21, S SCD T(n): S does not abort behind that commit
  pub saga_aborts : (u : List Event) (f n : ℕ) → sort_of tables f ≡ Saga f n → Happens h u (Abort f) → committed u (f + n) ≡ false
