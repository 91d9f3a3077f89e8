-- What is promised of judging any run of events.
use Rattle.std.specs.Prelude.{ℕ, ◌<◌, ◌≡◌, Bool, true, false, cond, not, ◌&&◌, eqb, ◌↔◌, ◌≢◌, List, None}
use Rattle.terms.specs.Limits.{most_transactions}
use Rattle.terms.specs.declared.Verdict.TheVariants.{Accepted}
use Rattle.ties.specs.Operations.{is_aborted, is_active as is_active_operation, made, most_operations, new_op, op_at, size, held_by, ended_as}
use Rattle.ties.specs.Ties.{before, before_given, before_handed, before_made, conflict, tied, clean_for, on_ring, ring_with}
use Rattle.ties.specs.declared.Operation.{Operation}
use Rattle.ties.specs.declared.Ops.{Ops}
use Rattle.terms.specs.declared.Mark.{Mark}
use Rattle.ties.specs.declared.Fate.{Fate}
use Rattle.ties.specs.declared.Fate.TheVariants.{Committed, Aborted}
use Rattle.sets.specs.Reach.{Leads}
use Rattle.tables.specs.Circles.{begin_link}
use Rattle.tables.specs.Sorts.{is_plain, sort_of}
use Rattle.tables.specs.declared.Tables.{Tables}
use Rattle.rules.specs.declared.Phase.TheVariants.{Idle}
use Rattle.rules.specs.declared.State.{State}
use Rattle.terms.specs.declared.Event.{Event}
use Rattle.terms.specs.declared.Event.TheVariants.{Abort, AbortOne, Commit, CommitOne}
use Rattle.rules.specs.States.{is_active, is_child, parent_of, phase_of, empty_state}
use Rattle.rules.specs.Rules.{active_undo}
use Rattle.judge.specs.Judge.{clerk_of, judged}
use Rattle.terms.specs.Events.{is_write}
use Rattle.histories.specs.Families.{Families}
use Rattle.histories.specs.Histories.{Deed, history, reached, responsible_in, told, when_made}

-- ---- one operation ended alone

-- t is plain and active, q was accepted and is active, and t is responsible for it
pub record MayEndOne (tables : Tables) (s : State) (t q : ℕ) : Type 0 where
  pub plain : is_plain (sort_of tables t) ≡ true
  pub active : is_active (phase_of s.transactions t) ≡ true
  pub accepted : q < size s.ops
  pub mine : (op_at s.ops q).responsible ≡ t
  pub running : is_active_operation (op_at s.ops q).fate ≡ true

-- "A single commit must pass the dirty-read rule for that operation and the ring rule for its transaction."
pub record MayCommitOne (tables : Tables) (s : State) (t q : ℕ) : Type 0 where
  pub may_end : MayEndOne tables s t q
  -- "9 .. also for a single commit by a spawned child"
  pub no_child : is_child (clerk_of tables s.transactions t) ≡ false
  -- every write tied before q, if q is a read, is committed, or is active and t's
  pub clean : is_write (op_at s.ops q).mark ≡ false
      → (p : ℕ) → is_write (op_at s.ops p).mark ≡ true → tied s.ops p q ≡ true → clean_for t (op_at s.ops p) ≡ true
  pub off_rings : on_ring s.ops t ≡ false

-- after an event exactly the fate of q and the mark of when it ended are other than before
pub record OnlyEnds (before after : State) (q : ℕ) (fate : Fate) : Type 0 where
  pub transactions : after.transactions ≡ before.transactions
  pub count : after.ops.count ≡ before.ops.count
  pub operations : (p : ℕ) → op_at after.ops p ≡ cond (eqb p q) (ended_as fate (size before.ops) (op_at before.ops q)) (op_at before.ops p)

pub record EndedAlone (tables : Tables) (s : State) (t q : ℕ) : Type 0 where
  pub commit_accepted : ((judged tables s (CommitOne t q)).verdict ≡ Accepted) ↔ MayCommitOne tables s t q
  pub commit_ends : (judged tables s (CommitOne t q)).verdict ≡ Accepted → OnlyEnds s (judged tables s (CommitOne t q)).state q Committed
  pub abort_accepted : ((judged tables s (AbortOne t q)).verdict ≡ Accepted) ↔ MayEndOne tables s t q
  pub abort_ends : (judged tables s (AbortOne t q)).verdict ≡ Accepted → OnlyEnds s (judged tables s (AbortOne t q)).state q Aborted

-- ---- any run of events

-- an operation after t has ended: ended in the same way if it was active and t responsible for it, else as it was
abbrev pub EndsWith : State → State → ℕ → Fate → Type 0
EndsWith before after t fate =
    (q : ℕ) → q < size before.ops
    → op_at after.ops q ≡ cond (held_by t (op_at before.ops q)) (ended_as fate (size before.ops) (op_at before.ops q)) (op_at before.ops q)

-- operations of a and b, the earlier tied to the later, neither of them aborted
pub record Stands (ops : Ops) (a b : ℕ) : Type 0 where
  pub p : ℕ
  pub q : ℕ
  pub tie : tied ops p q ≡ true
  pub here : is_aborted (op_at ops p).fate ≡ false
  pub there : is_aborted (op_at ops q).fate ≡ false
  pub first : (op_at ops p).responsible ≡ a
  pub second : (op_at ops q).responsible ≡ b
  pub differ : a ≢ b

-- some active undo is on a ring of this order
abbrev pub UndoRinged : Tables → State → (ℕ → ℕ → Bool) → Type 0
UndoRinged tables s R = (u : ℕ) × (active_undo tables s.transactions u ≡ true) × Leads R u u

-- an operation is as the history tells it
pub record AsTold (x : Operation) (d : Deed) : Type 0 where
  pub object : x.object ≡ d.object
  pub mark : x.mark ≡ d.mark
  pub responsible : x.responsible ≡ d.whose
  pub fate : x.fate ≡ d.fate

-- any run of events, refused ones dropped
pub record AnyRun (tables : Tables) (es : List Event) : Type 0 where
  -- "An operation's responsible transaction is its invoker until it is delegated, then the last receiver." "Delegating an operation that
  -- has ended is accepted and changes nothing."
  pub responsible : (q : ℕ) → q < size (reached tables es).ops
      → (op_at (reached tables es).ops q).responsible ≡ responsible_in (history tables es) q
  -- and so its object, its mark and its fate; how many operations there are; and the phase of every transaction
  pub operations : (q : ℕ) → q < size (reached tables es).ops → AsTold (op_at (reached tables es).ops q) ((told (history tables es)).deed q)
  pub count : size (reached tables es).ops ≡ (told (history tables es)).made
  pub phases : (t : ℕ) → t < most_transactions → phase_of (reached tables es).transactions t ≡ (told (history tables es)).phase t
  -- "q is tied to every earlier conflicting operation not aborted when q is accepted"
  pub ties : (p q : ℕ) → p < q → q < size (reached tables es).ops
      → tied (reached tables es).ops p q
      ≡ (conflict (op_at (reached tables es).ops p) (op_at (reached tables es).ops q).object (op_at (reached tables es).ops q).mark
      && not (is_aborted (op_at (when_made tables empty_state es q).ops p).fate))
  -- "while neither is aborted and their responsible transactions differ, p's stands before q's"
  pub order : (a b : ℕ) → (before (reached tables es).ops a b ≡ true) ↔ Stands (reached tables es).ops a b
  -- "So that an undo can always commit": no active undo is on a ring
  pub undo_off_rings : (u : ℕ) → active_undo tables (reached tables es).transactions u ≡ true → on_ring (reached tables es).ops u ≡ false
  -- "an operation or delegation that would put an active undo on a ring is refused": the lines of 22 hold exactly then
  pub rings_made : (t o : ℕ) (m : Mark)
      → (ring_with (before_made (reached tables es).ops (new_op t o m)) (active_undo tables (reached tables es).transactions) t ≡ true)
      ↔ UndoRinged tables (reached tables es) (before_made (reached tables es).ops (new_op t o m))
  pub rings_given : (q r : ℕ) → (ring_with (before_given (reached tables es).ops q r) (active_undo tables (reached tables es).transactions) r ≡ true)
      ↔ UndoRinged tables (reached tables es) (before_given (reached tables es).ops q r)
  -- "A child's commit that would put an active undo on a ring is refused, as such a delegation is."
  pub rings_handed : (t m : ℕ) → (ring_with (before_handed (reached tables es).ops t m) (active_undo tables (reached tables es).transactions) m ≡ true)
      ↔ UndoRinged tables (reached tables es) (before_handed (reached tables es).ops t m)
  -- where there is room for the operation, that is the order after it
  pub order_made : (x : Operation) → (reached tables es).ops.count < most_operations
      → before_made (reached tables es).ops x ≡ before (made x (reached tables es).ops)
  -- an active operation's responsible transaction is active
  pub active : (q : ℕ) → q < size (reached tables es).ops → is_active_operation (op_at (reached tables es).ops q).fate ≡ true
      → is_active (phase_of (reached tables es).transactions (op_at (reached tables es).ops q).responsible) ≡ true
  -- "Commit or abort of t ends the active operations t is responsible for in the same way, and no others", but for the commit of a child
  pub commits : (t : ℕ) → parent_of (reached tables es).transactions t ≡ None → (judged tables (reached tables es) (Commit t)).verdict ≡ Accepted
      → EndsWith (reached tables es) (judged tables (reached tables es) (Commit t)).state t Committed
  pub aborts : (t : ℕ) → (judged tables (reached tables es) (Abort t)).verdict ≡ Accepted
      → EndsWith (reached tables es) (judged tables (reached tables es) (Abort t)).state t Aborted

pub record JudgePromises : Type 0 where
  pub ended_alone : (tables : Tables) (s : State) (t q : ℕ) → EndedAlone tables s t q
  pub any_run : (tables : Tables) (es : List Event) → AnyRun tables es
  -- helpers under a clerk
  pub families : (tables : Tables) (es : List Event) → Families tables es
  -- why tables that can never move are refused: whom begin dependencies lead back to itself never begins, whatever the events
  pub never_begins : (tables : Tables) (es : List Event) (t : ℕ) → Leads (begin_link tables) t t → phase_of (reached tables es).transactions t ≡ Idle
