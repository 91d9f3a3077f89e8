-- What is promised of judging one event, in any state.
use Rattle.std.specs.Prelude.{ℕ, ◌+◌, ◌<◌, ◌≡◌, Bool, true, false, cond, ◌↔◌, ◌≢◌, List, [], ◌∷◌, map, eqb, length, Some}
use Rattle.laws.specs.Lines.{FirstIs, Line, Off}
use Rattle.terms.specs.Refusals.{number_of}
use Rattle.terms.specs.declared.Event.{Event}
use Rattle.terms.specs.declared.Event.TheVariants.{Abort, AbortOne, Begin, Commit, CommitOne, Delegate, Operation as Invoke, Spawn}
use Rattle.terms.specs.declared.Mark.{Mark}
use Rattle.terms.specs.declared.Refusal.{Refusal}
use Rattle.terms.specs.declared.Refusal.TheVariants.{NotInTables, NeverDoes, NotIdle, NotActive, NotResponsible, SagaRule, DependencyRule, DirtyRead, OnRing, MustWait, Full, AlreadyEnded, UndoOnRing}
use Rattle.terms.specs.declared.Verdict.TheVariants.{Accepted, Refused}
use Rattle.ties.specs.Operations.{held_by, most_operations, op_at, passed_to, size}
use Rattle.ties.specs.declared.Fate.TheVariants.{Active as FateActive}
use Rattle.tables.specs.declared.Tables.{Tables}
use Rattle.rules.specs.States.{parent_of, phase_of}
use Rattle.rules.specs.declared.Phase.TheVariants.{Aborted, Active, Committed}
use Rattle.rules.specs.declared.State.{State}
use Rattle.judge.specs.Judge.{clerk_of, judged, lines}

-- one event, in any state
pub record OneEvent (tables : Tables) (s : State) (e : Event) : Type 0 where
  -- it is accepted exactly when no line holds
  pub accepted : ((judged tables s e).verdict ≡ Accepted) ↔ Off (lines tables s e)
  -- each refusal is given exactly when its line holds and none before it does
  pub refused : (r : Refusal) → ((judged tables s e).verdict ≡ Refused r) ↔ FirstIs r (lines tables s e)
  -- a refused event leaves all transactions, operations and responsibilities as they stood
  pub unchanged : (r : Refusal) → (judged tables s e).verdict ≡ Refused r → (judged tables s e).state ≡ s

-- ---- the one order of judging: by number, but for 20 after 14 and 22 before 18

abbrev pub judging_order : List Refusal
judging_order =
    NotInTables ∷ NeverDoes ∷ NotIdle ∷ NotActive ∷ NotResponsible ∷ SagaRule ∷ DependencyRule ∷ AlreadyEnded ∷ DirtyRead ∷ OnRing ∷ MustWait ∷ UndoOnRing ∷ Full ∷ []

abbrev pub refusals_of : List (Line Refusal) → List Refusal
refusals_of = map (λ (l : Line Refusal). l.refusal)

-- the first list is what is left of the second where some are left out
abbrev pub left_of : List Refusal → List Refusal → Bool
left_of [] ys = true
left_of (x ∷ xs) [] = false
left_of (x ∷ xs) (y ∷ ys) = cond (eqb (number_of x) (number_of y)) (left_of xs ys) (left_of (x ∷ xs) ys)

pub record JudgingOrder : Type 0 where
  pub numbers : map number_of judging_order ≡ 8 ∷ 9 ∷ 10 ∷ 11 ∷ 12 ∷ 13 ∷ 14 ∷ 20 ∷ 15 ∷ 16 ∷ 17 ∷ 22 ∷ 18 ∷ []
  -- the lines of every event stand in this order, each once
  pub kept : (tables : Tables) (s : State) (e : Event) → left_of (refusals_of (lines tables s e)) judging_order ≡ true

-- ---- what an accepted event does to what it names

pub record Does (tables : Tables) (s : State) : Type 0 where
  -- begin, commit and abort: t is active, committed, aborted
  pub begins : (t : ℕ) → t < length s.transactions → (judged tables s (Begin t)).verdict ≡ Accepted
      → phase_of (judged tables s (Begin t)).state.transactions t ≡ Active
  pub commits : (t : ℕ) → t < length s.transactions → (judged tables s (Commit t)).verdict ≡ Accepted
      → phase_of (judged tables s (Commit t)).state.transactions t ≡ Committed
  pub aborts : (t : ℕ) → t < length s.transactions → (judged tables s (Abort t)).verdict ≡ Accepted
      → phase_of (judged tables s (Abort t)).state.transactions t ≡ Aborted
  -- the next number is that of an active operation of t's, on that object, with that mark
  pub invokes : (t o : ℕ) (m : Mark) → length s.ops.all ≡ most_operations → (judged tables s (Invoke t o m)).verdict ≡ Accepted
      → (op_at (judged tables s (Invoke t o m)).state.ops s.ops.count ≡ record { object = o; mark = m; responsible = t; fate = FateActive; ended = 0 })
      × ((judged tables s (Invoke t o m)).state.ops.count ≡ s.ops.count + 1)
  -- spawn: the child is active, under its parent
  pub spawns : (m c : ℕ) → c < length s.transactions → (judged tables s (Spawn m c)).verdict ≡ Accepted
      → (phase_of (judged tables s (Spawn m c)).state.transactions c ≡ Active)
      × (parent_of (judged tables s (Spawn m c)).state.transactions c ≡ Some m)

-- ---- what an event does not name stays

-- what an event names: a transaction that it begins or ends, one that it makes a child, operations that it gives or ends, or a new operation that it makes
pub record Names : Type 0 where
  pub transaction : ℕ → Bool
  pub child : ℕ → Bool
  pub operation : ℕ → Bool
  pub makes : Bool

abbrev pub nothing : ℕ → Bool
nothing k = false

abbrev pub one : ℕ → ℕ → Bool
one t k = eqb k t

-- the operations that t is responsible for
abbrev pub all_of : State → ℕ → ℕ → Bool
all_of s t q = eqb (op_at s.ops q).responsible t

abbrev pub names_of : State → Event → Names
names_of s (Begin t) = record { transaction = one t; child = nothing; operation = nothing; makes = false }
names_of s (Commit t) = record { transaction = one t; child = nothing; operation = all_of s t; makes = false }
names_of s (Abort t) = record { transaction = one t; child = nothing; operation = all_of s t; makes = false }
names_of s (Invoke t o m) = record { transaction = nothing; child = nothing; operation = one s.ops.count; makes = true }
names_of s (Delegate t r q) = record { transaction = nothing; child = nothing; operation = one q; makes = false }
names_of s (CommitOne t q) = record { transaction = nothing; child = nothing; operation = one q; makes = false }
names_of s (AbortOne t q) = record { transaction = nothing; child = nothing; operation = one q; makes = false }
names_of s (Spawn m c) = record { transaction = one c; child = one c; operation = nothing; makes = false }

-- from one state to the next all else stays
pub record Frame (n : Names) (s next : State) : Type 0 where
  pub phases : (t : ℕ) → n.transaction t ≡ false → phase_of next.transactions t ≡ phase_of s.transactions t
  -- whose child a transaction is stays so: only a spawn says it, of the one that it begins
  pub parents : (t : ℕ) → n.child t ≡ false → parent_of next.transactions t ≡ parent_of s.transactions t
  pub operations : (q : ℕ) → n.operation q ≡ false → op_at next.ops q ≡ op_at s.ops q
  pub count : n.makes ≡ false → next.ops.count ≡ s.ops.count

-- ---- the commit of a child, m's

pub record Helpers (tables : Tables) (s : State) : Type 0 where
  -- "Its commit hands its active operations to the parent instead of ending them", and no others
  pub hands : (t m : ℕ) → clerk_of tables s.transactions t ≡ Some m → (judged tables s (Commit t)).verdict ≡ Accepted
      → (q : ℕ) → q < size s.ops
      → op_at (judged tables s (Commit t)).state.ops q ≡ cond (held_by t (op_at s.ops q)) (passed_to m (op_at s.ops q)) (op_at s.ops q)
  -- "so 15 and 16 aren't judged then"
  pub clean : (t m : ℕ) → clerk_of tables s.transactions t ≡ Some m
      → ((judged tables s (Commit t)).verdict ≢ Refused DirtyRead) × ((judged tables s (Commit t)).verdict ≢ Refused OnRing)
  -- no child commits one of its operations
  pub no_single : (t m q : ℕ) → clerk_of tables s.transactions t ≡ Some m → (judged tables s (CommitOne t q)).verdict ≢ Accepted

pub record EventPromises : Type 0 where
  pub one_event : (tables : Tables) (s : State) (e : Event) → OneEvent tables s e
  pub does : (tables : Tables) (s : State) → Does tables s
  pub helpers : (tables : Tables) (s : State) → Helpers tables s
  pub frame : (tables : Tables) (s : State) (e : Event) → Frame (names_of s e) s (judged tables s e).state
  pub judging_order : JudgingOrder
