-- What a saga's own transactions do (000, saga 18 to 21, Lemmas 10.1 and 10.2 and Theorem 10.1, where 001's two sequences decide; 001, section 1; 002, 6.1): a beginning of one of
-- 1 + 3n words. The saga's n steps are f + 1 to f + n, its undos f + n + 1 to f + 2n - 1.
use Rattle.std.specs.Prelude.{ℕ, zero, suc, ◌+◌, ◌<◌, ◌≡◌, Bool, false, cond, List, [], ◌∷◌, ◌++◌}
use Rattle.terms.specs.declared.Event.{Event}
use Rattle.terms.specs.declared.Event.TheVariants.{Abort, AbortOne, Begin, Commit, CommitOne, Delegate, Operation as Invoke, Spawn}
use Rattle.tables.specs.Sorts.{first_of, steps_of}
use Rattle.tables.specs.declared.Tables.{Tables}
use Rattle.closing.specs.Demand.{mine}

-- e begins, commits or aborts one of the saga's own
abbrev pub is_own : ℕ → ℕ → Event → Bool
is_own f n (Begin t) = mine f n t
is_own f n (Commit t) = mine f n t
is_own f n (Abort t) = mine f n t
is_own f n (Invoke t o m) = false
is_own f n (Delegate t r q) = false
is_own f n (CommitOne t q) = false
is_own f n (AbortOne t q) = false
is_own f n (Spawn m c) = mine f n c

-- those events of h, in their order
unfoldable pub own_word : ℕ → ℕ → List Event → List Event
own_word f n [] = []
own_word f n (e ∷ h) = cond (is_own f n e) (e ∷ own_word f n h) (own_word f n h)

-- T1 begins and commits, .., T(j) begins and commits
unfoldable pub forth : ℕ → ℕ → List Event
forth f zero = []
forth f (suc j) = forth f j ++ (Begin (f + suc j) ∷ Commit (f + suc j) ∷ [])

-- C(j) begins and commits, .., C1 begins and commits
unfoldable pub back : ℕ → ℕ → ℕ → List Event
back f n zero = []
back f n (suc j) = Begin (f + (n + suc j)) ∷ Commit (f + (n + suc j)) ∷ back f n j

-- the words
pub data Word (f n : ℕ) : List Event → Type 0 where
  -- S begins, all steps, S commits (000, Lemma 10.1)
  whole : Word f n (Begin f ∷ (forth f n ++ (Commit f ∷ [])))
  -- S aborts after T(j), between two steps; and all of them are undone (000, Lemma 10.2; j may be 0, as in 001)
  between : (j : ℕ) → j < n → Word f n (Begin f ∷ (forth f j ++ (Abort f ∷ back f n j)))
  -- S aborts while T(j+1) is in progress, which aborts then
  within : (j : ℕ) → j < n → Word f n (Begin f ∷ (forth f j ++ (Begin (f + suc j) ∷ Abort f ∷ Abort (f + suc j) ∷ back f n j)))
  -- T(j+1) aborts, and S then
  failing : (j : ℕ) → j < n → Word f n (Begin f ∷ (forth f j ++ (Begin (f + suc j) ∷ Abort (f + suc j) ∷ Abort f ∷ back f n j)))

-- ★5
pub record SagaRun (tables : Tables) (h : List Event) (i : ℕ) : Type 0 where
  pub word : List Event
  pub is_word : Word (first_of tables i) (steps_of tables i) word
  pub rest : List Event
  pub begins_it : own_word (first_of tables i) (steps_of tables i) h ++ rest ≡ word
