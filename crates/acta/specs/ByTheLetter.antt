-- Complete histories meet the formulas by the letter (000, fundamental IV, 10.2.2, Spawn, saga 19 to 21, Lemmas 10.1 and 10.2, Theorem 10.1, 10.3; 003, 3.2). h is a history.
use Rattle.std.specs.Prelude.{ℕ, ◌+◌, ◌≤◌, ◌<◌, ◌≡◌, true, false, ◌⊎◌, List, Some}
use Rattle.terms.specs.Events.{is_write}
use Rattle.terms.specs.declared.Event.{Event}
use Rattle.terms.specs.declared.Event.TheVariants.{Abort as Aborts, Commit as Commits, CommitOne}
use Rattle.tables.specs.Sorts.{first_of, steps_of}
use Rattle.tables.specs.declared.Kind.TheVariants.{Abort, Commit, WeakAbort}
use Rattle.tables.specs.declared.Tables.{Tables}
use Rattle.acta.specs.Delegating.{works}
use Rattle.acta.specs.Depending.{Declared}
use Rattle.acta.specs.SagaWords.{Word, own_word}
use Rattle.acta.specs.Words.{Happens, OnRing, Tied, aborted, acts, began, committed, dropped, ended, mark, parent}

-- ★14, of a complete h
pub record ByTheLetter (tables : Tables) (h : List Event) : Type 0 where
  -- IV, second half: whoever acts ends
  pub ends : (u : List Event) (e : Event) → Happens h u e → (t : ℕ) → acts t e ≡ true → ended h t ≡ true
  -- Lemmas 10.1 and 10.2, Theorem 10.1, and 18 to 21 with them: what a begun saga's own did is one of the words, whole
  pub sagas : (i : ℕ) → i < tables.sagas → began h (first_of tables i) ≡ true → Word (first_of tables i) (steps_of tables i) (own_word (first_of tables i) (steps_of tables i) h)
  -- 10.2.2, CD: if both commit, b does so first. BD, SD, BCD and BAD hold as formulas of every history: `Depending.begins-when`
  pub commit_dependent : (u : List Event) (d b : ℕ) → Declared tables d b Commit → Happens h u (Commits d) → committed h b ≡ true → committed u b ≡ true
  -- 10.2.2, AD: if b aborts, so does d, if it began
  pub abort_dependent : (d b : ℕ) → Declared tables d b Abort → aborted h b ≡ true → began h d ≡ true → aborted h d ≡ true
  -- 10.2.2, WD: if b aborts and d has not committed by then, d aborts, if it began
  pub weak_abort_dependent : (u : List Event) (d b : ℕ) → Declared tables d b WeakAbort → Happens h u (Aborts b) → committed u d ≡ false → began h d ≡ true → aborted h d ≡ true
  -- 19, S AD T(i), and 21, S SCD T(n): S aborts if a step does, and commits if the last step does
  pub saga_aborts : (i j : ℕ) → i < tables.sagas → 1 ≤ j → j ≤ steps_of tables i → aborted h (first_of tables i + j) ≡ true → aborted h (first_of tables i) ≡ true
  pub saga_commits : (i : ℕ) → i < tables.sagas → committed h (first_of tables i + steps_of tables i) ≡ true → committed h (first_of tables i) ≡ true
  -- 19, T(i) WD S: if S aborts and a step has not committed by then, the step aborts, if it began. 20, C(i) CMD S, is a part of what complete means
  pub step_aborts : (u : List Event) (i j : ℕ) → i < tables.sagas → 1 ≤ j → j ≤ steps_of tables i → Happens h u (Aborts (first_of tables i)) → committed u (first_of tables i + j) ≡ false
      → began h (first_of tables i + j) ≡ true → aborted h (first_of tables i + j) ≡ true
  -- 000, Spawn; 003, 3.2: child WD parent: if the parent aborts and the child has not committed by then, the child aborts
  pub child_aborts : (u : List Event) (m c : ℕ) → parent h c ≡ Some m → Happens h u (Aborts m) → committed u c ≡ false → aborted h c ≡ true
  -- parent CD child: if both commit, the child does so first
  pub child_first : (u : List Event) (m c : ℕ) → parent h c ≡ Some m → Happens h u (Commits m) → committed h c ≡ true → committed u c ≡ true
  -- 10.3, objects behave correctly, atomic 7 and saga 16: where a write is dropped, so is every read tied behind it, but one that was kept alone while that write ran and was the reader's own
  pub reads_dropped : (p q : ℕ) → Tied h p q → is_write (mark h p) ≡ true → is_write (mark h q) ≡ false → dropped h p ≡ true
      → (dropped h q ≡ true) ⊎ ((u : List Event) × (t : ℕ) × Happens h u (CommitOne t q) × (works u t p ≡ true))
  -- 10.3, atomic 8 and saga 17 of the whole: nobody is on a ring
  pub no_rings : (t : ℕ) → OnRing h t → ⊥
