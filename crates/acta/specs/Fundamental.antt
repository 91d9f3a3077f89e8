-- The fundamental axioms, and what each sort of transaction does (000, atomic 1 to 4, saga 1 to 8 and 10; 001, section 2). h is a history.
use Rattle.std.specs.Prelude.{ℕ, ◌<◌, ◌≡◌, true, false, ◌||◌, ◌≢◌, List, ◌++◌}
use Rattle.terms.specs.declared.Event.{Event}
use Rattle.terms.specs.declared.Event.TheVariants.{Abort, AbortOne, CommitOne, Delegate, Operation as Invoke, Spawn}
use Rattle.terms.specs.declared.Mark.{Mark}
use Rattle.tables.specs.Sorts.{is_plain, is_saga, is_undo, sort_of}
use Rattle.tables.specs.declared.Tables.{Tables}
use Rattle.acta.specs.Words.{Happens, acts, began, begins, ended, ends, in_progress, invoked, occurs, responsible}

-- ★3: what t does is a beginning of: it begins, it acts, it commits or aborts
pub record Fundamental (h : List Event) : Type 0 where
  -- I: nobody is initiated twice
  pub one_begin : (u : List Event) (e : Event) → Happens h u e → (t : ℕ) → begins t e ≡ true → began u t ≡ false
  -- II and the first half of IV: whoever ends or acts has begun and has not ended
  pub in_between : (u : List Event) (e : Event) → Happens h u e → (t : ℕ) → acts t e ≡ true → in_progress u t ≡ true
  -- III: behind its end nothing of t's follows, no begin and no second end
  pub last : (u v : List Event) → h ≡ u ++ v → (t : ℕ) → ended u t ≡ true → occurs (λ e. begins t e || acts t e) v ≡ false

-- ★4
pub record Sorts (tables : Tables) (h : List Event) : Type 0 where
  -- 000, saga 1 and 10: S begins, commits and aborts, and does nothing else
  pub saga : (u : List Event) (e : Event) → Happens h u e → (t : ℕ) → is_saga (sort_of tables t) ≡ true → acts t e ≡ true → ends t e ≡ true
  -- 000, saga 4 to 6, and 001, section 2, which forbids the abort that saga 4 lists: an undo operates and commits, and does nothing else
  pub undo_ends : (u : List Event) (t : ℕ) → Happens h u (Abort t) → is_undo (sort_of tables t) ≡ false
  -- 000, 10.2.3: who delegates, and to whom: neither S nor an undo, and nobody to itself
  pub parties : (u : List Event) (t r q : ℕ) → Happens h u (Delegate t r q)
      → (is_saga (sort_of tables t) ≡ false) × (is_undo (sort_of tables t) ≡ false) × (is_saga (sort_of tables r) ≡ false) × (is_undo (sort_of tables r) ≡ false) × (t ≢ r)
  -- 004, section 1: only plain ones end an operation alone
  pub keeps_one : (u : List Event) (t q : ℕ) → Happens h u (CommitOne t q) → is_plain (sort_of tables t) ≡ true
  pub drops_one : (u : List Event) (t q : ℕ) → Happens h u (AbortOne t q) → is_plain (sort_of tables t) ≡ true
  -- only plain ones spawn, and are spawned
  pub families : (u : List Event) (m c : ℕ) → Happens h u (Spawn m c) → (is_plain (sort_of tables m) ≡ true) × (is_plain (sort_of tables c) ≡ true)
  -- 000, saga 8: nothing is ever S's
  pub owns_none : (q : ℕ) → q < invoked h → is_saga (sort_of tables (responsible h q)) ≡ false
  -- what an undo invokes stays its own, and nobody else's operation comes to it
  pub undo_keeps : (u : List Event) (t o : ℕ) (m : Mark) → Happens h u (Invoke t o m)
      → (is_undo (sort_of tables t) || is_undo (sort_of tables (responsible h (invoked u)))) ≡ true → responsible h (invoked u) ≡ t
