-- Operations: how they end, and delegation (000, 10.2.3, atomic 9 to 12, saga 12 to 15; 004, sections 1 and 3). h is a history.
use Rattle.std.specs.Prelude.{ℕ, ◌<◌, ◌≡◌, Bool, true, false, cond, ◌&&◌, ◌↔◌, ◌≢◌, ◌⊎◌, List, [], ◌∷◌, ◌++◌, eqb, None, Some}
use Rattle.terms.specs.declared.Event.{Event}
use Rattle.terms.specs.declared.Event.TheVariants.{Abort, AbortOne, Begin, Commit, CommitOne, Delegate, Operation as Invoke, Spawn}
use Rattle.terms.specs.declared.Mark.{Mark}
use Rattle.ties.specs.declared.Fate.TheVariants.{Aborted, Committed}
use Rattle.tables.specs.Sorts.{is_plain, sort_of}
use Rattle.tables.specs.declared.Tables.{Tables}
use Rattle.histories.specs.Histories.{history, told}
use Rattle.acta.specs.Words.{Happens, Tied, aborted, committed, dropped, ends, fate, in_progress, invoked, kept, parent, responsible, runs}

-- q is one of those that t is at work on
abbrev pub works : List Event → ℕ → ℕ → Bool
works h t q = runs h q && eqb (responsible h q) t

-- e ends q alone
abbrev pub ends_one : ℕ → Event → Bool
ends_one q (Begin t) = false
ends_one q (Commit t) = false
ends_one q (Abort t) = false
ends_one q (Invoke t o m) = false
ends_one q (Delegate t r p) = false
ends_one q (CommitOne t p) = eqb p q
ends_one q (AbortOne t p) = eqb p q
ends_one q (Spawn m c) = false

-- ★7, by the responsible transaction, not by the invoker: 004 decides
pub record Endings (tables : Tables) (h : List Event) : Type 0 where
  -- 000, atomic 9 and 10, saga 12 and 13: with the commit of t exactly those that it is at work on are kept
  pub commit : (u : List Event) (t : ℕ) → Happens h u (Commit t) → parent u t ≡ None
      → (q : ℕ) → fate (u ++ (Commit t ∷ [])) q ≡ cond (works u t q) Committed (fate u q)
  -- 000, atomic 11 and 12, saga 14 and 15: with its abort exactly those are dropped
  pub abort : (u : List Event) (t : ℕ) → Happens h u (Abort t) → (q : ℕ) → fate (u ++ (Abort t ∷ [])) q ≡ cond (works u t q) Aborted (fate u q)
  -- 004, nested commit: a child's commit ends none of them, and makes them its parent's
  pub hand : (u : List Event) (t m : ℕ) → Happens h u (Commit t) → parent u t ≡ Some m
      → (q : ℕ) → (responsible (u ++ (Commit t ∷ [])) q ≡ cond (works u t q) m (responsible u q)) × (fate (u ++ (Commit t ∷ [])) q ≡ fate u q)
  -- what ends ends by its responsible one's commit or abort, or, if that is plain, alone
  pub by : (u : List Event) (e : Event) → Happens h u e → (q : ℕ) → q < invoked u → runs u q ≡ true → runs (u ++ (e ∷ [])) q ≡ false
      → (ends (responsible u q) e ≡ true) ⊎ ((ends_one q e ≡ true) × (is_plain (sort_of tables (responsible u q)) ≡ true))
  -- 000, 10.3, failure atomicity: of a step and of an undo all operations are kept, or all dropped, as it committed or aborted
  pub atomic : (q : ℕ) → q < invoked h → is_plain (sort_of tables (responsible h q)) ≡ false
      → (kept h q ≡ committed h (responsible h q)) × (dropped h q ≡ aborted h (responsible h q))

-- ★8: 004, section 3, by its five bullets
pub record Delegation (tables : Tables) (h : List Event) : Type 0 where
  -- t delegates only what it is responsible for, to another, both in progress
  pub parties : (u : List Event) (t r q : ℕ) → Happens h u (Delegate t r q)
      → (q < invoked u) × (responsible u q ≡ t) × (t ≢ r) × (in_progress u t ≡ true) × (in_progress u r ≡ true)
  -- after it the receiver is responsible if the operation ran; nothing else moves
  pub moves : (u : List Event) (t r q : ℕ) → Happens h u (Delegate t r q)
      → (p : ℕ) → (responsible (u ++ (Delegate t r q ∷ [])) p ≡ cond (eqb p q && runs u p) r (responsible u p)) × (fate (u ++ (Delegate t r q ∷ [])) p ≡ fate u p)
  -- an operation is committed or aborted alone only by the one responsible for it, and while it runs
  pub keeps_one : (u : List Event) (t q : ℕ) → Happens h u (CommitOne t q) → (q < invoked u) × (responsible u q ≡ t) × (runs u q ≡ true)
  pub drops_one : (u : List Event) (t q : ℕ) → Happens h u (AbortOne t q) → (q < invoked u) × (responsible u q ≡ t) × (runs u q ≡ true)
  -- 000, 10.2.1: what was made permanent stays so, what was obliterated too: after its end an operation neither moves nor ends again
  pub permanent : (u v : List Event) → h ≡ u ++ v → (q : ℕ) → q < invoked u → runs u q ≡ false → (fate h q ≡ fate u q) × (responsible h q ≡ responsible u q)
  -- the one responsible for a running operation is in progress
  pub held : (q : ℕ) → q < invoked h → runs h q ≡ true → in_progress h (responsible h q) ≡ true

-- behind h, t performs an operation and gives it to r at once
abbrev pub given_at_once : List Event → ℕ → ℕ → ℕ → Mark → List Event
given_at_once h t r o m = h ++ (Invoke t o m ∷ Delegate t r (invoked h) ∷ [])

-- 004, section 3: a delegated operation is as if the receiver had performed it, and not the giver; h with those two events is a history
pub record AsIf (tables : Tables) (h : List Event) (t r o : ℕ) (m : Mark) : Type 0 where
  -- the receiver could have performed it
  pub accepted : history tables (h ++ (Invoke r o m ∷ [])) ≡ h ++ (Invoke r o m ∷ [])
  -- and then every operation would be what it is, stand as it stands, and be whose it is
  pub deeds : (q : ℕ) → (told (given_at_once h t r o m)).deed q ≡ (told (h ++ (Invoke r o m ∷ []))).deed q
  -- and be tied to the same ones
  pub ties : (p q : ℕ) → Tied (given_at_once h t r o m) p q ↔ Tied (h ++ (Invoke r o m ∷ [])) p q
