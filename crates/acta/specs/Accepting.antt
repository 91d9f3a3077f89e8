-- Nothing else is refused (000, 10.2.3: an event whose precondition holds is invoked). What stands behind a history h is accepted exactly when its line here holds of h.
use Rattle.std.specs.Prelude.{ℕ, ◌+◌, ◌-◌, ◌<◌, ◌≡◌, Bool, true, false, not, ◌&&◌, ◌||◌, ◌↔◌, ◌≢◌, ◌⊎◌, List, [], ◌∷◌, ◌++◌, leb, ltb, None, Some}
use Rattle.terms.specs.Events.{is_write}
use Rattle.terms.specs.declared.Event.{Event}
use Rattle.terms.specs.declared.Event.TheVariants.{Abort, AbortOne, Begin, Commit, CommitOne, Delegate, Operation as Invoke, Spawn}
use Rattle.terms.specs.declared.Mark.{Mark}
use Rattle.ties.specs.Operations.{most_operations}
use Rattle.tables.specs.Counts.{object_count}
use Rattle.tables.specs.Sorts.{is_known, is_plain, is_saga, is_undo, sort_of}
use Rattle.tables.specs.declared.Kind.{Kind}
use Rattle.tables.specs.declared.Sort.{Sort}
use Rattle.tables.specs.declared.Sort.TheVariants.{Plain, Saga, Step, Undo, Unknown}
use Rattle.tables.specs.declared.Tables.{Tables}
use Rattle.acta.specs.Completing.{Takes}
use Rattle.acta.specs.Delegating.{works}
use Rattle.acta.specs.Depending.{Declared, lets_begin, lets_commit}
use Rattle.acta.specs.Words.{OnRing, Tied, aborted, began, committed, conflicts, dropped, in_progress, invoked, kept, mark, parent, responsible, runs}

-- ---- the saga order (000, saga 18 to 21, where 001's two sequences decide). S is f, T(i) is f + i and C(i) is f + n + i.

abbrev pub order_lets_begin : List Event → Sort → Bool
order_lets_begin h (Saga f n) = true
-- S is in progress, and the step before has committed
order_lets_begin h (Step f n i) = in_progress h f && (leb i 1 || committed h (f + (i - 1)))
-- S has aborted, T(i) has committed, T(i+1) is not in progress, and if it has committed, so has its undo
order_lets_begin h (Undo f n i) =
    aborted h f && (committed h (f + i) && (not (in_progress h (f + (i + 1))) && (not (committed h (f + (i + 1))) || (ltb (i + 1) n && committed h (f + (n + (i + 1)))))))
order_lets_begin h Plain = true
order_lets_begin h Unknown = true

abbrev pub order_lets_commit : List Event → Sort → Bool
-- the last step has committed
order_lets_commit h (Saga f n) = committed h (f + n)
-- S is in progress
order_lets_commit h (Step f n i) = in_progress h f
order_lets_commit h (Undo f n i) = true
order_lets_commit h Plain = true
order_lets_commit h Unknown = true

abbrev pub order_lets_abort : List Event → Sort → Bool
-- the last step has not committed
order_lets_abort h (Saga f n) = not (committed h (f + n))
order_lets_abort h (Step f n i) = true
-- 001: an undo never aborts
order_lets_abort h (Undo f n i) = false
order_lets_abort h Plain = true
order_lets_abort h Unknown = true

-- ---- rings and reads

-- with e behind h, an undo in progress would be on a ring
abbrev pub RingsUndo : Tables → List Event → Event → Type 0
RingsUndo tables h e = (x : ℕ) × (is_undo (sort_of tables x) ≡ true) × (in_progress h x ≡ true) × OnRing (h ++ (e ∷ [])) x

-- every write tied before the read q is kept, or runs and is t's
abbrev pub ReadsClean : List Event → ℕ → ℕ → Type 0
ReadsClean h t q = is_write (mark h q) ≡ false → (p : ℕ) → Tied h p q → is_write (mark h p) ≡ true → (kept h p ≡ true) ⊎ (works h t p ≡ true)

-- ---- the preconditions

pub record BeginsWhen (tables : Tables) (h : List Event) (t : ℕ) : Type 0 where
  pub known : is_known (sort_of tables t) ≡ true
  pub fresh : began h t ≡ false
  pub order : order_lets_begin h (sort_of tables t) ≡ true
  pub declared : (b : ℕ) (k : Kind) → Declared tables t b k → lets_begin k h b ≡ true

pub record SpawnsWhen (tables : Tables) (h : List Event) (m c : ℕ) : Type 0 where
  pub parent_plain : is_plain (sort_of tables m) ≡ true
  pub child_plain : is_plain (sort_of tables c) ≡ true
  pub fresh : began h c ≡ false
  pub going : in_progress h m ≡ true
  pub declared : (b : ℕ) (k : Kind) → Declared tables c b k → lets_begin k h b ≡ true

-- one who is nobody's child
pub record CommitsWhen (tables : Tables) (h : List Event) (t : ℕ) : Type 0 where
  pub going : in_progress h t ≡ true
  pub order : order_lets_commit h (sort_of tables t) ≡ true
  pub declared : (b : ℕ) (k : Kind) → Declared tables t b k → lets_commit k h b ≡ true
  pub children : (c : ℕ) → parent h c ≡ Some t → in_progress h c ≡ false
  pub reads : (q : ℕ) → q < invoked h → responsible h q ≡ t → dropped h q ≡ false → ReadsClean h t q
  pub off_rings : OnRing h t → ⊥

-- a child of m's
pub record HandsWhen (tables : Tables) (h : List Event) (t m : ℕ) : Type 0 where
  pub going : in_progress h t ≡ true
  pub declared : (b : ℕ) (k : Kind) → Declared tables t b k → lets_commit k h b ≡ true
  pub children : (c : ℕ) → parent h c ≡ Some t → in_progress h c ≡ false
  pub parent_going : in_progress h m ≡ true
  pub no_ring : RingsUndo tables h (Commit t) → ⊥

pub record AbortsWhen (tables : Tables) (h : List Event) (t : ℕ) : Type 0 where
  pub going : in_progress h t ≡ true
  pub order : order_lets_abort h (sort_of tables t) ≡ true

pub record InvokesWhen (tables : Tables) (h : List Event) (t o : ℕ) (m : Mark) : Type 0 where
  pub object_known : o < object_count tables
  pub no_saga : is_saga (sort_of tables t) ≡ false
  pub going : in_progress h t ≡ true
  -- an undo waits for every conflicting operation of another that runs
  pub waits : is_undo (sort_of tables t) ≡ true → (p : ℕ) → p < invoked h → runs h p ≡ true → responsible h p ≢ t → conflicts h p o m ≡ false
  pub no_ring : RingsUndo tables h (Invoke t o m) → ⊥
  pub room : invoked h < most_operations

-- a step or a plain one, in progress
pub record Party (tables : Tables) (h : List Event) (t : ℕ) : Type 0 where
  pub no_saga : is_saga (sort_of tables t) ≡ false
  pub no_undo : is_undo (sort_of tables t) ≡ false
  pub going : in_progress h t ≡ true

pub record DelegatesWhen (tables : Tables) (h : List Event) (t r q : ℕ) : Type 0 where
  pub giver : Party tables h t
  pub receiver : Party tables h r
  pub differ : t ≢ r
  pub there_is : q < invoked h
  pub mine : responsible h q ≡ t
  pub no_ring : RingsUndo tables h (Delegate t r q) → ⊥

pub record DropsOneWhen (tables : Tables) (h : List Event) (t q : ℕ) : Type 0 where
  pub plain : is_plain (sort_of tables t) ≡ true
  pub going : in_progress h t ≡ true
  pub there_is : q < invoked h
  pub mine : responsible h q ≡ t
  pub running : runs h q ≡ true

pub record KeepsOneWhen (tables : Tables) (h : List Event) (t q : ℕ) : Type 0 where
  pub may_end : DropsOneWhen tables h t q
  pub no_child : parent h t ≡ None
  pub reads : ReadsClean h t q
  pub off_rings : OnRing h t → ⊥

-- ★15
pub record Accepting (tables : Tables) (h : List Event) : Type 0 where
  pub begin : (t : ℕ) → Takes tables h (Begin t) ↔ BeginsWhen tables h t
  pub spawn : (m c : ℕ) → Takes tables h (Spawn m c) ↔ SpawnsWhen tables h m c
  pub commit : (t : ℕ) → parent h t ≡ None → Takes tables h (Commit t) ↔ CommitsWhen tables h t
  pub hand : (t m : ℕ) → parent h t ≡ Some m → Takes tables h (Commit t) ↔ HandsWhen tables h t m
  pub abort : (t : ℕ) → Takes tables h (Abort t) ↔ AbortsWhen tables h t
  pub invoke : (t o : ℕ) (m : Mark) → Takes tables h (Invoke t o m) ↔ InvokesWhen tables h t o m
  pub delegate : (t r q : ℕ) → Takes tables h (Delegate t r q) ↔ DelegatesWhen tables h t r q
  pub keep_one : (t q : ℕ) → Takes tables h (CommitOne t q) ↔ KeepsOneWhen tables h t q
  pub drop_one : (t q : ℕ) → Takes tables h (AbortOne t q) ↔ DropsOneWhen tables h t q

-- 000, atomic 5 and saga 9, View_t = H_ct: nothing is hidden and nothing locked. While no undo is in progress, a step or a plain one in progress may invoke any operation on any object,
-- whatever others are at work on, as long as there is room
abbrev pub Unlocked : Tables → List Event → Type 0
Unlocked tables h =
    (t o : ℕ) (m : Mark) → Party tables h t → o < object_count tables → invoked h < most_operations → ((x : ℕ) → is_undo (sort_of tables x) ≡ true → in_progress h x ≡ false)
    → Takes tables h (Invoke t o m)
