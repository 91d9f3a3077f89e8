-- When a begin, an operation, a delegation, a commit and an abort are accepted, and when 15, 16, 17 and 22 refuse: once more in the words of the rules, without the lists of lines,
-- and which pairs a new operation adds to the order.
use Rattle.std.specs.Prelude.{ℕ, ◌<◌, ◌≡◌, true, false, ◌↔◌, ◌≢◌, ◌⊎◌, List, None, Some}
use Rattle.terms.specs.Events.{is_write}
use Rattle.terms.specs.Limits.{most_objects, most_transactions}
use Rattle.terms.specs.declared.Event.{Event}
use Rattle.terms.specs.declared.Event.TheVariants.{Abort, Begin, Commit, Delegate, Operation as Invoke, Spawn}
use Rattle.terms.specs.declared.Mark.{Mark}
use Rattle.terms.specs.declared.Refusal.TheVariants.{DirtyRead, MustWait, OnRing, UndoOnRing}
use Rattle.terms.specs.declared.Verdict.TheVariants.{Accepted, Refused}
use Rattle.ties.specs.Operations.{is_aborted, is_active as is_active_operation, most_operations, new_op, op_at, size}
use Rattle.ties.specs.Ties.{before, before_given, before_handed, before_made, clean_for, conflict, on_ring, tied}
use Rattle.ties.specs.declared.Ops.{Ops}
use Rattle.tables.specs.Counts.{object_count}
use Rattle.tables.specs.Sorts.{is_known, is_plain, is_saga, is_undo, sort_of}
use Rattle.tables.specs.declared.Tables.{Tables}
use Rattle.rules.specs.Rules.{abort_barred, begin_barred, commit_barred, declared_bars}
use Rattle.rules.specs.States.{has_ended, is_active, is_idle, parent_of, phase_of}
use Rattle.rules.specs.declared.State.{State}
use Rattle.judge.specs.Judge.{judged}
use Rattle.histories.specs.Histories.{reached}
use Rattle.histories.specs.Promises.{UndoRinged}

-- ---- a begin

-- t is in the tables and idle, the saga rules and the declared dependencies let it
pub record MayBegin (tables : Tables) (s : State) (t : ℕ) : Type 0 where
  pub known : is_known (sort_of tables t) ≡ true
  pub idle : is_idle (phase_of s.transactions t) ≡ true
  pub saga : begin_barred s.transactions (sort_of tables t) ≡ false
  pub declared : declared_bars true tables s.transactions t ≡ false

-- ---- an operation

-- "An undo may not invoke an operation that conflicts with an active operation of another responsible transaction."
abbrev pub Waited : Tables → State → ℕ → ℕ → Mark → Type 0
Waited tables s t o m =
    is_undo (sort_of tables t) ≡ true
    → (p : ℕ) → p < size s.ops → is_active_operation (op_at s.ops p).fate ≡ true → (op_at s.ops p).responsible ≢ t → conflict (op_at s.ops p) o m ≡ false

-- an active operation of another conflicts with it
pub record Meets (ops : Ops) (t o : ℕ) (m : Mark) : Type 0 where
  pub p : ℕ
  pub below : p < size ops
  pub running : is_active_operation (op_at ops p).fate ≡ true
  pub other : (op_at ops p).responsible ≢ t
  pub conflicts : conflict (op_at ops p) o m ≡ true

-- t is in the tables, no saga and active, and the object is in the tables
pub record Invoker (tables : Tables) (s : State) (t o : ℕ) : Type 0 where
  pub known : is_known (sort_of tables t) ≡ true
  pub object : o < object_count tables
  pub no_saga : is_saga (sort_of tables t) ≡ false
  pub active : is_active (phase_of s.transactions t) ≡ true

-- t is in the tables, no saga and active, the object is in the tables, and an undo has waited
pub record CouldInvoke (tables : Tables) (s : State) (t o : ℕ) (m : Mark) : Type 0 where
  pub known : is_known (sort_of tables t) ≡ true
  pub object : o < object_count tables
  pub no_saga : is_saga (sort_of tables t) ≡ false
  pub active : is_active (phase_of s.transactions t) ≡ true
  pub waited : Waited tables s t o m

-- and it would put no active undo on a ring, and there is room for it
pub record MayInvoke (tables : Tables) (s : State) (t o : ℕ) (m : Mark) : Type 0 where
  pub could : CouldInvoke tables s t o m
  pub no_ring : UndoRinged tables s (before_made s.ops (new_op t o m)) → ⊥
  pub room : s.ops.count < most_operations

-- ---- a delegation

-- a party is in the tables, no saga, no undo, and active
pub record Party (tables : Tables) (s : State) (t : ℕ) : Type 0 where
  pub known : is_known (sort_of tables t) ≡ true
  pub no_saga : is_saga (sort_of tables t) ≡ false
  pub no_undo : is_undo (sort_of tables t) ≡ false
  pub active : is_active (phase_of s.transactions t) ≡ true

-- two parties; the operation was accepted, and the giver is responsible for it
pub record CouldDelegate (tables : Tables) (s : State) (t r q : ℕ) : Type 0 where
  pub giver : Party tables s t
  pub receiver : Party tables s r
  pub differ : t ≢ r
  pub accepted : q < size s.ops
  pub mine : (op_at s.ops q).responsible ≡ t

-- the operation is active, and given to r it would put an active undo on a ring
abbrev pub RingsGiven : Tables → State → ℕ → ℕ → Type 0
RingsGiven tables s r q = (is_active_operation (op_at s.ops q).fate ≡ true) × UndoRinged tables s (before_given s.ops q r)

pub record MayDelegate (tables : Tables) (s : State) (t r q : ℕ) : Type 0 where
  pub could : CouldDelegate tables s t r q
  pub no_ring : RingsGiven tables s r q → ⊥

-- ---- a commit

-- "A parent can't commit while a child is active": none of t's own children is
abbrev pub ChildrenDone : State → ℕ → Type 0
ChildrenDone s t = (c : ℕ) → parent_of s.transactions c ≡ Some t → is_active (phase_of s.transactions c) ≡ false

-- t is in the tables and active, the saga rules and the declared dependencies let it, and no child of its own is active; every write tied before a read t answers for is committed, or is active
-- and t's; and t is on no ring
pub record MayCommit (tables : Tables) (s : State) (t : ℕ) : Type 0 where
  pub known : is_known (sort_of tables t) ≡ true
  pub active : is_active (phase_of s.transactions t) ≡ true
  pub saga : commit_barred s.transactions (sort_of tables t) ≡ false
  pub declared : declared_bars false tables s.transactions t ≡ false
  pub children : ChildrenDone s t
  pub clean : (q : ℕ) → q < size s.ops → (op_at s.ops q).responsible ≡ t → is_write (op_at s.ops q).mark ≡ false → is_aborted (op_at s.ops q).fate ≡ false
      → (p : ℕ) → is_write (op_at s.ops p).mark ≡ true → tied s.ops p q ≡ true → clean_for t (op_at s.ops p) ≡ true
  pub off_rings : on_ring s.ops t ≡ false

-- t is in the tables and active, the saga rules and the declared dependencies let it, and no child of its own is active
pub record CouldCommit (tables : Tables) (s : State) (t : ℕ) : Type 0 where
  pub known : is_known (sort_of tables t) ≡ true
  pub active : is_active (phase_of s.transactions t) ≡ true
  pub saga : commit_barred s.transactions (sort_of tables t) ≡ false
  pub declared : declared_bars false tables s.transactions t ≡ false
  pub children : ChildrenDone s t

-- ---- the commit of m's child, for which 15 and 16 are not judged

-- t is active, the declared dependencies let it, no child of its own is active, and its parent has not ended
pub record CouldHand (tables : Tables) (s : State) (t m : ℕ) : Type 0 where
  pub active : is_active (phase_of s.transactions t) ≡ true
  pub declared : declared_bars false tables s.transactions t ≡ false
  pub children : ChildrenDone s t
  pub parent : has_ended (phase_of s.transactions m) ≡ false

-- and it would put no active undo on a ring
pub record MayHand (tables : Tables) (s : State) (t m : ℕ) : Type 0 where
  pub could : CouldHand tables s t m
  pub no_ring : UndoRinged tables s (before_handed s.ops t m) → ⊥

-- ---- a spawn

-- both are plain; the child is idle, the parent active, and the declared dependencies let the child begin
pub record MaySpawn (tables : Tables) (s : State) (m c : ℕ) : Type 0 where
  pub parent : is_plain (sort_of tables m) ≡ true
  pub child : is_plain (sort_of tables c) ≡ true
  pub idle : is_idle (phase_of s.transactions c) ≡ true
  pub active : is_active (phase_of s.transactions m) ≡ true
  pub declared : declared_bars true tables s.transactions c ≡ false

-- before some read q that t answers for, itself not aborted, a write p is tied that is not committed, nor active and t's
pub record ReadsDirty (ops : Ops) (t : ℕ) : Type 0 where
  pub q : ℕ
  pub accepted : q < size ops
  pub own : (op_at ops q).responsible ≡ t
  pub read : is_write (op_at ops q).mark ≡ false
  pub there : is_aborted (op_at ops q).fate ≡ false
  pub p : ℕ
  pub write : is_write (op_at ops p).mark ≡ true
  pub tie : tied ops p q ≡ true
  pub unclean : clean_for t (op_at ops p) ≡ false

-- ---- an abort

-- t is in the tables, no undo and active, and the saga rules let it
pub record MayAbort (tables : Tables) (s : State) (t : ℕ) : Type 0 where
  pub known : is_known (sort_of tables t) ≡ true
  pub no_undo : is_undo (sort_of tables t) ≡ false
  pub active : is_active (phase_of s.transactions t) ≡ true
  pub saga : abort_barred s.transactions (sort_of tables t) ≡ false

-- ---- the order with a new operation

-- an operation of a that is not aborted conflicts with the new one of t
pub record NewPair (ops : Ops) (t o : ℕ) (m : Mark) (a b : ℕ) : Type 0 where
  pub p : ℕ
  pub below : p < size ops
  pub conflicts : conflict (op_at ops p) o m ≡ true
  pub there : is_aborted (op_at ops p).fate ≡ false
  pub first : (op_at ops p).responsible ≡ a
  pub second : b ≡ t
  pub differ : a ≢ b

-- ---- after any run of events

pub record AcceptedWhen (tables : Tables) (es : List Event) : Type 0 where
  pub begin : (t : ℕ) → ((judged tables (reached tables es) (Begin t)).verdict ≡ Accepted) ↔ MayBegin tables (reached tables es) t
  pub invoke : (t o : ℕ) (m : Mark) → ((judged tables (reached tables es) (Invoke t o m)).verdict ≡ Accepted) ↔ MayInvoke tables (reached tables es) t o m
  -- an undo must wait: 17 exactly then
  pub invoke_waits : (t o : ℕ) (m : Mark) → ((judged tables (reached tables es) (Invoke t o m)).verdict ≡ Refused MustWait)
      ↔ (Invoker tables (reached tables es) t o × (is_undo (sort_of tables t) ≡ true) × Meets (reached tables es).ops t o m)
  -- "an operation or delegation that would put an active undo on a ring is refused": by 22 exactly then, also where there is no room
  pub invoke_rings : (t o : ℕ) (m : Mark) → ((judged tables (reached tables es) (Invoke t o m)).verdict ≡ Refused UndoOnRing)
      ↔ (CouldInvoke tables (reached tables es) t o m × UndoRinged tables (reached tables es) (before_made (reached tables es).ops (new_op t o m)))
  pub delegate : (t r q : ℕ) → ((judged tables (reached tables es) (Delegate t r q)).verdict ≡ Accepted) ↔ MayDelegate tables (reached tables es) t r q
  pub delegate_rings : (t r q : ℕ) → ((judged tables (reached tables es) (Delegate t r q)).verdict ≡ Refused UndoOnRing)
      ↔ (CouldDelegate tables (reached tables es) t r q × RingsGiven tables (reached tables es) r q)
  -- who is nobody's child
  pub commit : (t : ℕ) → parent_of (reached tables es).transactions t ≡ None
      → ((judged tables (reached tables es) (Commit t)).verdict ≡ Accepted) ↔ MayCommit tables (reached tables es) t
  -- 15 exactly when there is a dirty read, and 16 exactly when there is none and t is on a ring
  pub commit_dirty : (t : ℕ) → parent_of (reached tables es).transactions t ≡ None → ((judged tables (reached tables es) (Commit t)).verdict ≡ Refused DirtyRead)
      ↔ (CouldCommit tables (reached tables es) t × ReadsDirty (reached tables es).ops t)
  pub commit_rings : (t : ℕ) → parent_of (reached tables es).transactions t ≡ None → ((judged tables (reached tables es) (Commit t)).verdict ≡ Refused OnRing)
      ↔ (CouldCommit tables (reached tables es) t × (ReadsDirty (reached tables es).ops t → ⊥) × (on_ring (reached tables es).ops t ≡ true))
  -- m's child: 22 exactly when it would put an active undo on a ring, and never 15 or 16
  pub hand : (t m : ℕ) → parent_of (reached tables es).transactions t ≡ Some m
      → ((judged tables (reached tables es) (Commit t)).verdict ≡ Accepted) ↔ MayHand tables (reached tables es) t m
  pub hand_rings : (t m : ℕ) → parent_of (reached tables es).transactions t ≡ Some m
      → ((judged tables (reached tables es) (Commit t)).verdict ≡ Refused UndoOnRing)
      ↔ (CouldHand tables (reached tables es) t m × UndoRinged tables (reached tables es) (before_handed (reached tables es).ops t m))
  pub hand_clean : (t m : ℕ) → parent_of (reached tables es).transactions t ≡ Some m
      → ((judged tables (reached tables es) (Commit t)).verdict ≢ Refused DirtyRead) × ((judged tables (reached tables es) (Commit t)).verdict ≢ Refused OnRing)
  pub spawn : (m c : ℕ) → ((judged tables (reached tables es) (Spawn m c)).verdict ≡ Accepted) ↔ MaySpawn tables (reached tables es) m c
  pub abort : (t : ℕ) → ((judged tables (reached tables es) (Abort t)).verdict ≡ Accepted) ↔ MayAbort tables (reached tables es) t
  -- a new operation within the limits adds exactly the pairs that end at its invoker
  pub pairs_made : (t o : ℕ) (m : Mark) → t < most_transactions → o < most_objects → (a b : ℕ)
      → (before_made (reached tables es).ops (new_op t o m) a b ≡ true) ↔ ((before (reached tables es).ops a b ≡ true) ⊎ NewPair (reached tables es).ops t o m a b)
