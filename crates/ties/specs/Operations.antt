-- Accepted operations (docs/RULES.md, 2 States and who may act): each is active, committed or aborted and has a responsible transaction.
use Rattle.std.specs.Prelude.{ℕ, zero, suc, ◌+◌, min, Bool, true, false, cond, ◌&&◌, List, ltb, eqb, get_or, set, replicate}
use Rattle.terms.specs.declared.Mark.{Mark}
use Rattle.terms.specs.declared.Mark.TheVariants.{Read}
use Rattle.ties.specs.declared.Fate.{Fate}
use Rattle.ties.specs.declared.Fate.TheVariants.{Aborted, Active, Committed}
use Rattle.ties.specs.declared.Operation.{Operation}
use Rattle.ties.specs.declared.Ops.{Ops}

-- accepted operations are numbered 0, 1, 2 and so on, at most 256 in a book
abbrev pub most_operations : ℕ
most_operations = 256

abbrev pub is_aborted : Fate → Bool
is_aborted Aborted = true
is_aborted Active = false
is_aborted Committed = false

abbrev pub is_active : Fate → Bool
is_active Aborted = false
is_active Active = true
is_active Committed = false

abbrev pub is_committed : Fate → Bool
is_committed Aborted = false
is_committed Active = false
is_committed Committed = true

-- what stands where no operation was accepted: one that has ended, which nothing may end or change
abbrev pub no_operation : Operation
no_operation = record { object = 0; mark = Read; responsible = 0; fate = Aborted; ended = 0 }

-- before the first operation
abbrev pub no_ops : Ops
no_ops = record { all = replicate most_operations no_operation; count = 0 }

abbrev pub op_at : Ops → ℕ → Operation
op_at ops q = get_or ops.all q no_operation

-- how many operations were accepted; of a count that no book reaches, as many as there is room for
abbrev pub size : Ops → ℕ
size ops = min ops.count most_operations

-- t invokes an operation: t is responsible for it
abbrev pub new_op : ℕ → ℕ → Mark → Operation
new_op t object mark = record { object = object; mark = mark; responsible = t; fate = Active; ended = 0 }

-- with one operation more, if there is room for it
unfoldable pub made : Operation → Ops → Ops
made op ops = cond (ltb ops.count most_operations) (record { all = set ops.all ops.count op; count = ops.count + 1 }) ops

-- "its invoker until it is delegated, then the last receiver"; an operation that has ended keeps its responsible transaction
abbrev pub passed_to : ℕ → Operation → Operation
passed_to receiver op = record { object = op.object; mark = op.mark; responsible = receiver; fate = op.fate; ended = op.ended }

abbrev pub given_to : ℕ → Operation → Operation
given_to receiver op = cond (is_active op.fate) (passed_to receiver op) op

-- an active operation t is responsible for
abbrev pub held_by : ℕ → Operation → Bool
held_by t op = is_active op.fate && eqb op.responsible t

-- the operation, ended in this fate when so many operations were accepted
abbrev pub ended_as : Fate → ℕ → Operation → Operation
ended_as fate accepted op =
    record { object = op.object; mark = op.mark; responsible = op.responsible; fate = fate; ended = accepted }

-- the operation, ended alone, if it is active
abbrev pub ended_alone : Fate → ℕ → Operation → Operation
ended_alone fate accepted op = cond (is_active op.fate) (ended_as fate accepted op) op

-- ---- operations rewritten: each for which `which` holds, by its number, becomes what `how` makes of it

-- the first n rewritten by f
unfoldable pub changed : ℕ → (ℕ → Operation → Operation) → List Operation → List Operation
changed zero f l = l
changed (suc n) f l = set (changed n f l) n (f n (get_or l n no_operation))

abbrev pub rewrites : (ℕ → Operation → Bool) → (Operation → Operation) → ℕ → Operation → Operation
rewrites which how p op = cond (which p op) (how op) op

unfoldable pub rewritten : (ℕ → Operation → Bool) → (Operation → Operation) → Ops → Ops
rewritten which how ops = record { all = changed (size ops) (rewrites which how) ops.all; count = ops.count }

-- operation q, if it is active
abbrev pub only_active : ℕ → ℕ → Operation → Bool
only_active q p op = is_active op.fate && eqb p q

-- the active operations t is responsible for
abbrev pub all_held_by : ℕ → ℕ → Operation → Bool
all_held_by t p op = held_by t op

-- operation q is delegated
abbrev pub given : ℕ → ℕ → Ops → Ops
given q receiver ops = rewritten (only_active q) (passed_to receiver) ops

-- all that t is at work on is handed to a receiver
abbrev pub handed : ℕ → ℕ → Ops → Ops
handed t receiver ops = rewritten (all_held_by t) (passed_to receiver) ops

-- operation q ends alone
abbrev pub ended_one : ℕ → Fate → Ops → Ops
ended_one q fate ops = rewritten (only_active q) (ended_as fate (size ops)) ops

-- "Commit or abort of t ends the active operations t is responsible for in the same way, and no others."
abbrev pub ended_ops : ℕ → Fate → Ops → Ops
ended_ops t fate ops = rewritten (all_held_by t) (ended_as fate (size ops)) ops
