-- Atomic objects and serializability (000, 10.3, atomic 7 and 8, saga 16 and 17; 004, section 2). h is a history.
use Rattle.std.specs.Prelude.{ℕ, ◌<◌, ◌≡◌, true, false, ◌↔◌, ◌≢◌, ◌⊎◌, List, [], ◌∷◌, ◌++◌, None}
use Rattle.terms.specs.Events.{is_write}
use Rattle.terms.specs.declared.Event.{Event}
use Rattle.terms.specs.declared.Event.TheVariants.{Commit, CommitOne}
use Rattle.replay.specs.Replay.{listed}
use Rattle.acta.specs.Delegating.{works}
use Rattle.acta.specs.Words.{Follows, Happens, KeptConflict, OnRing, Tied, dropped, invoked, kept, mark, parent, responsible}

-- ★10: 000, atomic 8 and saga 17: nobody commits on a ring of C, where dropped operations do not count. A child that commits keeps nothing: its parent answers.
pub record OffRings (h : List Event) : Type 0 where
  pub commit : (u : List Event) (t : ℕ) → Happens h u (Commit t) → parent u t ≡ None → OnRing u t → ⊥
  pub keeps_one : (u : List Event) (t q : ℕ) → Happens h u (CommitOne t q) → OnRing u t → ⊥

-- ★11: 000, 10.3, objects behave correctly, and the return-value dependence of 10.2.3: what a committed one read was written by one whose write is kept
pub record Recoverable (h : List Event) : Type 0 where
  -- whoever commits: each write tied before a read of its own that is not dropped is kept with that commit
  pub commit : (u : List Event) (t : ℕ) → Happens h u (Commit t) → parent u t ≡ None → (p q : ℕ) → Tied u p q → is_write (mark u p) ≡ true → is_write (mark u q) ≡ false
      → responsible u q ≡ t → dropped u q ≡ false → kept (u ++ (Commit t ∷ [])) p ≡ true
  -- if another is responsible for that write, it was kept before: the writer commits first
  pub writer_first : (u : List Event) (t : ℕ) → Happens h u (Commit t) → parent u t ≡ None → (p q : ℕ) → Tied u p q → is_write (mark u p) ≡ true → is_write (mark u q) ≡ false
      → responsible u q ≡ t → dropped u q ≡ false → responsible u p ≢ t → kept u p ≡ true
  -- and so for good
  pub for_good : (u : List Event) (t : ℕ) → Happens h u (Commit t) → parent u t ≡ None → (p q : ℕ) → Tied u p q → is_write (mark u p) ≡ true → is_write (mark u q) ≡ false
      → responsible u q ≡ t → dropped u q ≡ false → kept h p ≡ true
  -- a read kept alone: each such write is kept, or is the reader's own and runs
  pub keeps_one : (u : List Event) (t q : ℕ) → Happens h u (CommitOne t q) → (p : ℕ) → Tied u p q → is_write (mark u p) ≡ true → is_write (mark u q) ≡ false
      → (kept u p ≡ true) ⊎ (works u t p ≡ true)

-- t is responsible for a kept operation
abbrev pub HoldsKept : List Event → ℕ → Type 0
HoldsKept h t = (q : ℕ) × (q < invoked h) × (kept h q ≡ true) × (responsible h q ≡ t)

-- ★12: conflict-serializable, by the name of 000, 10.3, and 004, section 2, "C acyclic". The nodes are those responsible for kept operations, whatever became of them.
pub record ConflictSerializable (h : List Event) : Type 0 where
  -- no ring of conflicts between kept operations
  pub acyclic : (t : ℕ) → Follows (KeptConflict h) t t → ⊥
  -- so there is a serial order: everyone who holds a kept operation stands in it, once
  pub serial : List ℕ
  pub all : (t : ℕ) → (listed serial t ≡ true) ↔ HoldsKept h t
  pub once : (xs ys : List ℕ) (t : ℕ) → serial ≡ xs ++ (t ∷ ys) → (listed xs t ≡ false) × (listed ys t ≡ false)
  -- and of every two conflicting kept operations that of the earlier one came first
  pub forward : (xs ys : List ℕ) (b : ℕ) → serial ≡ xs ++ (b ∷ ys) → (a : ℕ) → KeptConflict h a b → listed xs a ≡ true
