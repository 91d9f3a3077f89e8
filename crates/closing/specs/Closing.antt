-- What a saga owes (docs/RULES.md, 6 Closing), over the phases P of a saga of n steps: P 0 is S, P i is T(i), P (n + i) is C(i).
use Rattle.std.specs.Prelude.{ℕ, zero, suc, ◌+◌, ◌-◌, Bool, false, cond, not, ◌&&◌, ◌||◌, ltb, eqb}
use Rattle.std.proofs.Math.Option.{Option, none, some}
use Rattle.laws.specs.Index.{one, highest, sum_to}
use Rattle.tables.specs.Counts.{saga_count}
use Rattle.tables.specs.Sorts.{first_of, steps_of}
use Rattle.tables.specs.declared.Tables.{Tables}
use Rattle.rules.specs.declared.Phase.{Phase}
use Rattle.rules.specs.declared.Phase.TheVariants.{Idle, Active, Committed, Aborted}
use Rattle.terms.specs.declared.Event.{Event}
use Rattle.terms.specs.declared.Event.TheVariants.{Begin, Commit, Abort}
use Rattle.rules.specs.declared.State.{State}
use Rattle.rules.specs.States.{is_active, is_committed, is_aborted, own}
use Rattle.rules.specs.Rules.{undone}
use Rattle.closing.specs.declared.NextStep.{NextStep}
use Rattle.closing.specs.declared.NextStep.TheVariants.{NoStep, ToBegin, ToCommit, ToAbort}

-- the event of a closing step
abbrev pub event_of : NextStep → Option Event
event_of NoStep = none
event_of (ToBegin t) = some (Begin t)
event_of (ToCommit t) = some (Commit t)
event_of (ToAbort t) = some (Abort t)

-- ---- "Outstanding, for a saga: 0 if S is idle or committed; 1 if Tn is committed and S active; otherwise 1 if S is active, plus 1 if a
-- step is active, plus, for each committed step, 2, 1 or 0 as its undo is idle, active or committed."

-- the active step, 0 if there is none; of several, which no book reaches, the highest
unfoldable pub active_step : ℕ → (ℕ → Phase) → ℕ
active_step n P = highest n (λ i. is_active (P i))

-- 2, 1 or 0 as the undo is idle, active or committed; an aborted undo, which no book reaches, owes as an idle one does
abbrev pub owed_by : Phase → ℕ
owed_by Idle = 2
owed_by Active = 1
owed_by Committed = 0
owed_by Aborted = 2

abbrev pub owed : ℕ → (ℕ → Phase) → ℕ → ℕ
owed n P i = cond (is_committed (P i)) (owed_by (P (n + i))) 0

-- 1 if a step is active, plus what each committed step that has an undo owes
unfoldable pub to_undo : ℕ → (ℕ → Phase) → ℕ
to_undo n P = one (not (eqb (active_step n P) 0)) + sum_to (n - 1) (owed n P)

abbrev pub outstanding_by : Phase → ℕ → (ℕ → Phase) → ℕ
outstanding_by Idle n P = 0
outstanding_by Active n P = cond (is_committed (P n)) 1 (1 + to_undo n P)
outstanding_by Committed n P = 0
outstanding_by Aborted n P = to_undo n P

-- ---- "Closing step: commit S if Tn is committed and S active; else abort S if active; else abort the active step; else for the highest
-- committed step whose undo isn't committed, begin or commit that undo." None for a saga that owes nothing.

-- the highest committed step whose undo isn't committed, 0 if there is none
unfoldable pub next_undo : ℕ → (ℕ → Phase) → ℕ
next_undo n P = highest (n - 1) (λ i. is_committed (P i) && not (is_committed (P (n + i))))

-- begin or commit that undo
abbrev pub undo_step : Phase → ℕ → NextStep
undo_step Idle t = ToBegin t
undo_step Active t = ToCommit t
undo_step Committed t = ToCommit t
undo_step Aborted t = ToBegin t

abbrev pub back_step : ℕ → ℕ → (ℕ → Phase) → ℕ → ℕ → NextStep
back_step f n P zero zero = NoStep
back_step f n P zero (suc i) = undo_step (P (n + suc i)) (f + (n + suc i))
back_step f n P (suc a) i = ToAbort (f + suc a)

abbrev pub closing_by : Phase → ℕ → ℕ → (ℕ → Phase) → NextStep
closing_by Idle f n P = NoStep
closing_by Active f n P = cond (is_committed (P n)) (ToCommit f) (ToAbort f)
closing_by Committed f n P = NoStep
closing_by Aborted f n P = back_step f n P (active_step n P) (next_undo n P)

-- ---- settled: committed, or aborted with no step active and every committed step undone

abbrev pub settled_by : Phase → ℕ → (ℕ → Phase) → Bool
settled_by p n P =
    is_committed p
    || (is_aborted p && (eqb (active_step n P) 0 && eqb (highest n (λ i. is_committed (P i) && not (undone n P i))) 0))

-- ---- for the saga of any index; an index that is no saga's owes nothing, has no closing step and is not settled

abbrev pub is_listed : Tables → ℕ → Bool
is_listed tables i = ltb i (saga_count tables)

-- the phases of saga i's own transactions
abbrev pub own_of : Tables → State → ℕ → ℕ → Phase
own_of tables s i = own s.transactions (first_of tables i)

unfoldable pub outstanding : Tables → State → ℕ → ℕ
outstanding tables s i = cond (is_listed tables i) (outstanding_by (own_of tables s i 0) (steps_of tables i) (own_of tables s i)) 0

unfoldable pub closing : Tables → State → ℕ → NextStep
closing tables s i = cond (is_listed tables i) (closing_by (own_of tables s i 0) (first_of tables i) (steps_of tables i) (own_of tables s i)) NoStep

unfoldable pub settled : Tables → State → ℕ → Bool
settled tables s i = cond (is_listed tables i) (settled_by (own_of tables s i 0) (steps_of tables i) (own_of tables s i)) false
