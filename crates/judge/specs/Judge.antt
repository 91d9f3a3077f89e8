-- Judging one event (docs/RULES.md, 4 Refusals): for each event one list of lines in the order of judging; the verdict is the first
-- line that holds; what an accepted event changes; the state after it.
use Rattle.std.specs.Prelude.{ℕ, Bool, true, false, cond, not, ◌&&◌, ◌||◌, List, [], ◌∷◌, ◌++◌, ltb, leb, eqb, None, Some}
use Rattle.laws.specs.Lines.{Line, line, first_line}
use Rattle.terms.specs.declared.Refusal.{Refusal}
use Rattle.terms.specs.declared.Refusal.TheVariants.{NotInTables, NeverDoes, NotIdle, NotActive, NotResponsible, SagaRule, DependencyRule, DirtyRead, OnRing, MustWait, Full, AlreadyEnded, UndoOnRing}
use Rattle.terms.specs.declared.Verdict.{Verdict}
use Rattle.terms.specs.declared.Verdict.TheVariants.{Accepted, Refused}
use Rattle.ties.specs.Operations.{most_operations, is_active as is_active_operation, op_at, size, new_op, made, given, handed, ended_one, ended_ops}
use Rattle.ties.specs.Ties.{on_ring, before_made, before_given, before_handed, ring_with, dirty_at, dirty, must_wait}
use Rattle.terms.specs.declared.Mark.{Mark}
use Rattle.ties.specs.declared.Fate.TheVariants.{Committed as FateCommitted, Aborted as FateAborted}
use Rattle.ties.specs.declared.Ops.{Ops}
use Rattle.tables.specs.Counts.{object_count}
use Rattle.tables.specs.Sorts.{sort_of, is_known, is_saga, is_undo, is_plain}
use Rattle.tables.specs.declared.Sort.{Sort}
use Rattle.tables.specs.declared.Tables.{Tables}
use Rattle.rules.specs.declared.Phase.TheVariants.{Active, Committed, Aborted}
use Rattle.rules.specs.States.{Parent}
use Rattle.rules.specs.declared.Transaction.{Transaction}
use Rattle.rules.specs.declared.State.{State}
use Rattle.terms.specs.declared.Event.{Event}
use Rattle.terms.specs.declared.Event.TheVariants.{Begin, Commit, Abort, Operation as Invoke, Delegate, CommitOne, AbortOne, Spawn}
use Rattle.judge.specs.declared.Change.{Change}
use Rattle.judge.specs.declared.Change.TheVariants.{Nothing, Enters, Ends, EndsOne, Makes, Gives, Hands, Spawns}
use Rattle.judge.specs.declared.Ruling.{Ruling}
use Rattle.rules.specs.States.{is_idle, is_child, phase_of, parent_of, entered, spawned}
use Rattle.rules.specs.Rules.{begin_barred, commit_barred, abort_barred, declared_bars, child_active, inactive, active_undo}

-- ---- the tests of the lines

abbrev pub unknown : Tables → ℕ → Bool
unknown tables t = not (is_known (sort_of tables t))

-- no more objects than there may be, whatever the tables say
abbrev pub unknown_object : Tables → ℕ → Bool
unknown_object tables o = not (ltb o (object_count tables))

-- "neither S nor an undo gives or receives a delegation"
abbrev pub no_party : Sort → Bool
no_party x = is_saga x || is_undo x

-- "sagas can't be parents or children": only a plain transaction is one, whatever lent numbers say
abbrev pub plain_parent : Tables → Parent → Parent
plain_parent tables None = None
plain_parent tables (Some m) = cond (is_plain (sort_of tables m)) (Some m) None

-- whose helper t is
abbrev pub clerk_of : Tables → List Transaction → ℕ → Parent
clerk_of tables ts t = cond (is_plain (sort_of tables t)) (plain_parent tables (parent_of ts t)) None

-- "A parent can't commit while a child is active"
abbrev pub awaits_child : Tables → List Transaction → ℕ → Bool
awaits_child tables ts t = is_plain (sort_of tables t) && child_active ts t

-- ---- the lines of each event

abbrev pub begin_lines : Tables → List Transaction → ℕ → List (Line Refusal)
begin_lines tables ts t =
    line NotInTables (unknown tables t)
    ∷ line NotIdle (not (is_idle (phase_of ts t)))
    ∷ line SagaRule (begin_barred ts (sort_of tables t))
    ∷ line DependencyRule (declared_bars true tables ts t)
    ∷ []

abbrev pub commit_lines : Tables → List Transaction → Ops → ℕ → List (Line Refusal)
commit_lines tables ts ops t =
    line NotInTables (unknown tables t)
    ∷ line NotActive (inactive ts t)
    ∷ line SagaRule (commit_barred ts (sort_of tables t))
    ∷ line DependencyRule (declared_bars false tables ts t || awaits_child tables ts t)
    ∷ line DirtyRead (dirty ops t)
    ∷ line OnRing (on_ring ops t)
    ∷ []

-- the commit of m's helper "hands its active operations to the parent instead of ending them, so 15 and 16 aren't judged then"; "a child can't commit once its parent
-- has ended": m was active when it spawned t, so if it is not, it has ended
abbrev pub hand_lines : Tables → List Transaction → Ops → ℕ → ℕ → List (Line Refusal)
hand_lines tables ts ops t m =
    line NotInTables (unknown tables t)
    ∷ line NotActive (inactive ts t)
    ∷ line DependencyRule (declared_bars false tables ts t || (awaits_child tables ts t || inactive ts m))
    ∷ line UndoOnRing (ring_with (before_handed ops t m) (active_undo tables ts) m)
    ∷ []

abbrev pub commit_lines_under : Tables → List Transaction → Ops → ℕ → Parent → List (Line Refusal)
commit_lines_under tables ts ops t None = commit_lines tables ts ops t
commit_lines_under tables ts ops t (Some m) = hand_lines tables ts ops t m

-- "spawn, with an active plain parent and an idle plain child"; "A child's begin-kind dependencies are judged at the spawn."
abbrev pub spawn_lines : Tables → List Transaction → ℕ → ℕ → List (Line Refusal)
spawn_lines tables ts m c =
    line NotInTables (unknown tables m || unknown tables c)
    ∷ line NeverDoes (not (is_plain (sort_of tables m)) || not (is_plain (sort_of tables c)))
    ∷ line NotIdle (not (is_idle (phase_of ts c)))
    ∷ line NotActive (inactive ts m)
    ∷ line DependencyRule (declared_bars true tables ts c)
    ∷ []

-- "an undo can't abort"
abbrev pub abort_lines : Tables → List Transaction → ℕ → List (Line Refusal)
abort_lines tables ts t =
    line NotInTables (unknown tables t)
    ∷ line NeverDoes (is_undo (sort_of tables t))
    ∷ line NotActive (inactive ts t)
    ∷ line SagaRule (abort_barred ts (sort_of tables t))
    ∷ []

-- "S invokes no operation"
abbrev pub operation_lines : Tables → List Transaction → Ops → ℕ → ℕ → Mark → List (Line Refusal)
operation_lines tables ts ops t o m =
    line NotInTables (unknown tables t || unknown_object tables o)
    ∷ line NeverDoes (is_saga (sort_of tables t))
    ∷ line NotActive (inactive ts t)
    ∷ line MustWait (is_undo (sort_of tables t) && must_wait ops t o m)
    ∷ line UndoOnRing (ring_with (before_made ops (new_op t o m)) (active_undo tables ts) t)
    ∷ line Full (leb most_operations ops.count)
    ∷ []

-- "No transaction delegates to itself."
abbrev pub delegate_lines : Tables → List Transaction → Ops → ℕ → ℕ → ℕ → List (Line Refusal)
delegate_lines tables ts ops t r q =
    line NotInTables (unknown tables t || (unknown tables r || not (ltb q (size ops))))
    ∷ line NeverDoes (no_party (sort_of tables t) || (no_party (sort_of tables r) || eqb t r))
    ∷ line NotActive (inactive ts t || inactive ts r)
    ∷ line NotResponsible (not (eqb (op_at ops q).responsible t))
    ∷ line UndoOnRing (is_active_operation (op_at ops q).fate && ring_with (before_given ops q r) (active_undo tables ts) r)
    ∷ []

-- the commit and the abort of one operation, "for plain transactions only": what both have to pass, and who else never does it
abbrev pub single_lines : Tables → List Transaction → Ops → ℕ → ℕ → Bool → List (Line Refusal)
single_lines tables ts ops t q never =
    line NotInTables (unknown tables t || not (ltb q (size ops)))
    ∷ line NeverDoes (not (is_plain (sort_of tables t)) || never)
    ∷ line NotActive (inactive ts t)
    ∷ line NotResponsible (not (eqb (op_at ops q).responsible t))
    ∷ line AlreadyEnded (not (is_active_operation (op_at ops q).fate))
    ∷ []

-- "A single commit must pass the dirty-read rule for that operation and the ring rule for its transaction"; 9 "also for a single commit by a spawned child"
abbrev pub commit_one_lines : Tables → List Transaction → Ops → ℕ → ℕ → List (Line Refusal)
commit_one_lines tables ts ops t q =
    single_lines tables ts ops t q (is_child (clerk_of tables ts t)) ++ (line DirtyRead (dirty_at ops t q) ∷ line OnRing (on_ring ops t) ∷ [])

abbrev pub lines : Tables → State → Event → List (Line Refusal)
lines tables s (Begin t) = begin_lines tables s.transactions t
lines tables s (Commit t) = commit_lines_under tables s.transactions s.ops t (clerk_of tables s.transactions t)
lines tables s (Abort t) = abort_lines tables s.transactions t
lines tables s (Invoke t o m) = operation_lines tables s.transactions s.ops t o m
lines tables s (Delegate t r q) = delegate_lines tables s.transactions s.ops t r q
lines tables s (CommitOne t q) = commit_one_lines tables s.transactions s.ops t q
lines tables s (AbortOne t q) = single_lines tables s.transactions s.ops t q false
lines tables s (Spawn m c) = spawn_lines tables s.transactions m c

-- the first line that holds
abbrev pub verdict_by : List (Line Refusal) → Verdict
verdict_by ls = first_line Refused Accepted ls

-- ---- what an accepted event changes

-- a commit keeps what t is at work on, or hands it to the clerk whose helper t is
abbrev pub commit_under : ℕ → Parent → Change
commit_under t None = Ends t Committed FateCommitted
commit_under t (Some m) = Hands t m

abbrev pub change_of : Tables → List Transaction → Event → Change
change_of tables ts (Begin t) = Enters t Active
change_of tables ts (Commit t) = commit_under t (clerk_of tables ts t)
change_of tables ts (Abort t) = Ends t Aborted FateAborted
change_of tables ts (Invoke t o m) = Makes (new_op t o m)
change_of tables ts (Delegate t r q) = Gives q r
change_of tables ts (CommitOne t q) = EndsOne q FateCommitted
change_of tables ts (AbortOne t q) = EndsOne q FateAborted
change_of tables ts (Spawn m c) = Spawns m c

-- a refused event changes nothing
abbrev pub change_by : Verdict → Change → Change
change_by Accepted c = c
change_by (Refused r) c = Nothing

abbrev pub refused_by : Refusal → Ruling
refused_by r = record { verdict = Refused r; change = Nothing }

abbrev pub accepted_by : Change → Ruling
accepted_by c = record { verdict = Accepted; change = c }

abbrev pub ruled_by : List (Line Refusal) → Change → Ruling
ruled_by ls c = record { verdict = verdict_by ls; change = change_by (verdict_by ls) c }

unfoldable pub ruling_of : Tables → State → Event → Ruling
ruling_of tables s e = ruled_by (lines tables s e) (change_of tables s.transactions e)

-- ---- the state after a change: over transactions, and over operations

abbrev pub transactions_after : Change → List Transaction → List Transaction
transactions_after Nothing ts = ts
transactions_after (Enters t p) ts = entered p t ts
transactions_after (Ends t p fate) ts = entered p t ts
transactions_after (EndsOne q fate) ts = ts
transactions_after (Makes op) ts = ts
transactions_after (Gives q r) ts = ts
transactions_after (Hands t m) ts = entered Committed t ts
transactions_after (Spawns m c) ts = spawned m c ts

abbrev pub ops_after : Change → Ops → Ops
ops_after Nothing ops = ops
ops_after (Enters t p) ops = ops
ops_after (Ends t p fate) ops = ended_ops t fate ops
ops_after (EndsOne q fate) ops = ended_one q fate ops
ops_after (Makes op) ops = made op ops
ops_after (Gives q r) ops = given q r ops
ops_after (Hands t m) ops = handed t m ops
ops_after (Spawns m c) ops = ops

unfoldable pub state_after : Change → State → State
state_after c s = record { transactions = transactions_after c s.transactions; ops = ops_after c s.ops }

-- the verdict on an event, and the state after it
pub record Judged : Type 0 where
  pub verdict : Verdict
  pub state : State

unfoldable pub judged : Tables → State → Event → Judged
judged tables s e = record { verdict = (ruling_of tables s e).verdict; state = state_after (ruling_of tables s e).change s }
