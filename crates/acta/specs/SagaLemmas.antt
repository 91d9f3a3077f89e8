-- What the words of a saga's own events say (000, saga 18 to 21, Lemmas 10.1 and 10.2, Theorem 10.1; 10.2.2): the saga has n steps, S is f, T(i) is f + i and C(i) is f + n + i.
-- A dependency is said of the list so far: that the two events never stand in the other order, or never both.
use Rattle.std.specs.Prelude.{ℕ, suc, ◌+◌, ◌*◌, ◌≤◌, ◌<◌, ◌≡◌, Bool, true, false, ◌&&◌, ◌||◌, ◌⊎◌, List, [], ◌∷◌, ◌++◌, ltb}
use Rattle.terms.specs.declared.Event.{Event}
use Rattle.terms.specs.declared.Event.TheVariants.{Abort, AbortOne, Begin, Commit, CommitOne, Delegate, Operation as Invoke, Spawn}
use Rattle.tables.specs.Sorts.{first_of, steps_of}
use Rattle.tables.specs.declared.Kind.{Kind}
use Rattle.tables.specs.declared.Tables.{Tables}
use Rattle.histories.specs.Histories.{history}
use Rattle.closing.specs.Demand.{Beginning, back_run as back_commits, commits_of, whole_run as whole_commits}
use Rattle.acta.specs.Depending.{Declared}
use Rattle.acta.specs.SagaWords.{SagaRun, Word, back, forth, is_own, own_word}
use Rattle.acta.specs.Words.{Happens, aborted, aborts, began, begins, committed, commits, in_progress}

-- no step is in progress, and every step that committed and has an undo is undone
pub record Undone (f n : ℕ) (h : List Event) : Type 0 where
  pub no_step : (i : ℕ) → 1 ≤ i → i ≤ n → in_progress h (f + i) ≡ false
  pub all : (i : ℕ) → 1 ≤ i → i < n → committed h (f + i) ≡ true → committed h (f + (n + i)) ≡ true

-- S aborted after T(j): between two steps, while T(j+1) was in progress, or when T(j+1) had aborted; and T(j) to T1 were undone in that order
abbrev pub BackWord : ℕ → ℕ → ℕ → List Event → Type 0
BackWord f n j w =
    (w ≡ Begin f ∷ (forth f j ++ (Abort f ∷ back f n j)))
    ⊎ ((w ≡ Begin f ∷ (forth f j ++ (Begin (f + suc j) ∷ Abort f ∷ Abort (f + suc j) ∷ back f n j)))
    ⊎ (w ≡ Begin f ∷ (forth f j ++ (Begin (f + suc j) ∷ Abort (f + suc j) ∷ Abort f ∷ back f n j))))

-- e begins or commits an undo of the saga
abbrev pub undoes : ℕ → ℕ → Event → Bool
undoes f n (Begin t) = ltb (f + n) t && ltb t (f + 2 * n)
undoes f n (Commit t) = ltb (f + n) t && ltb t (f + 2 * n)
undoes f n (Abort t) = false
undoes f n (Invoke t o m) = false
undoes f n (Delegate t r q) = false
undoes f n (CommitOne t q) = false
undoes f n (AbortOne t q) = false
undoes f n (Spawn m c) = false

-- ★5, its corollaries
pub record SagaLemmas (f n : ℕ) (h : List Event) : Type 0 where
  -- Lemma 10.1: S committed: its own did the whole forward word, and nothing besides
  pub whole_run : committed h f ≡ true → own_word f n h ≡ Begin f ∷ (forth f n ++ (Commit f ∷ []))
  -- Lemma 10.2 and Theorem 10.1: S aborted and all is undone: its own did one of the back words, and nothing besides
  pub back_run : aborted h f ≡ true → Undone f n h → (j : ℕ) × (j < n) × BackWord f n j (own_word f n h)
  -- whatever its own do stands behind the begin of S
  pub saga_first : (u : List Event) (e : Event) → Happens h u e → is_own f n e ≡ true → begins f e ≡ false → began u f ≡ true
  -- 18, T(i+1) BCD T(i): T(i+1) begins only behind the commit of T(i)
  pub step_bcd : (u : List Event) (e : Event) (i : ℕ) → 1 ≤ i → i < n → Happens h u e → begins (f + suc i) e ≡ true → committed u (f + i) ≡ true
  -- 18, C(i) WCD C(i+1): if C(i+1) commits, C(i) begins only behind that commit
  pub undo_wcd : (u : List Event) (e : Event) (i : ℕ) → 1 ≤ i → suc i < n → Happens h u e → begins (f + (n + i)) e ≡ true
      → committed h (f + (n + suc i)) ≡ true → committed u (f + (n + suc i)) ≡ true
  -- 18 and 20, C(i) BAD S: C(i) begins only behind the abort of S
  pub undo_bad : (u : List Event) (e : Event) (i : ℕ) → 1 ≤ i → i < n → Happens h u e → begins (f + (n + i)) e ≡ true → aborted u f ≡ true
  -- 19, S AD T(i): S does not commit if T(i) aborts
  pub saga_ad : (i : ℕ) → 1 ≤ i → i ≤ n → aborted h (f + i) ≡ true → committed h f ≡ false
  -- 19, T(i) WD S: T(i) commits only before an abort of S
  pub step_wd : (u : List Event) (e : Event) (i : ℕ) → 1 ≤ i → i ≤ n → Happens h u e → commits (f + i) e ≡ true → aborted u f ≡ false
  -- 19, C(i) BCD T(i): C(i) begins only behind the commit of T(i)
  pub undo_bcd : (u : List Event) (e : Event) (i : ℕ) → 1 ≤ i → i < n → Happens h u e → begins (f + (n + i)) e ≡ true → committed u (f + i) ≡ true
  -- 20, C(i) CMD S: C(i) does not abort if S aborts, nor otherwise
  pub undo_cmd : (i : ℕ) → 1 ≤ i → i < n → aborted h (f + (n + i)) ≡ false
  -- 21, S SCD T(n): S does not abort if T(n) commits
  pub saga_scd : committed h (f + n) ≡ true → aborted h f ≡ false
  -- 001, section 4, and 002, 6.1, "aborts if any T(i) aborts": behind the abort of a step its own do nothing but that S aborts and steps are undone
  pub only_back : (u : List Event) (e : Event) (i : ℕ) → 1 ≤ i → i ≤ n → Happens h u e → aborted u (f + i) ≡ true → is_own f n e ≡ true → (aborts f e || undoes f n e) ≡ true
  -- demand 3: the commits in their order are a beginning of T1, .., T(n), S, or of T1, .., T(j), C(j), .., C1
  pub order : Beginning (commits_of f n h) (whole_commits f n) ⊎ ((j : ℕ) × (j < n) × Beginning (commits_of f n h) (back_commits f n j))

-- of any list of events, accepted or not, by its words alone
abbrev pub SaidByWords : Type 0
SaidByWords = (tables : Tables) (h : List Event) (i : ℕ) → 1 ≤ steps_of tables i → SagaRun tables h i → SagaLemmas (first_of tables i) (steps_of tables i) h

-- and each of the words is attained: a saga whose S depends on nobody can do it, alone. With `SagaRun`: what a saga alone can do are exactly the beginnings of the words
abbrev pub WordsAttained : Tables → ℕ → Type 0
WordsAttained tables i =
    ((b : ℕ) (k : Kind) → Declared tables (first_of tables i) b k → ⊥) → (w : List Event) → Word (first_of tables i) (steps_of tables i) w → history tables w ≡ w
