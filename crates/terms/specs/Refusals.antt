-- The table of refusals (docs/RULES.md, 4 Refusals): the number of each.
use Rattle.std.specs.Prelude.{ℕ, cond, eqb, Result, Ok, Err}
use Rattle.terms.specs.declared.Refusal.{Refusal}
use Rattle.terms.specs.declared.Refusal.TheVariants.{TooLong, Torn, BadNumber, BadEdition, BadCount, BadDependency, BadCode, NotInTables, NeverDoes, NotIdle, NotActive, NotResponsible, SagaRule, DependencyRule, DirtyRead, OnRing, MustWait, Full, NoRoom, AlreadyEnded, NeverMoves, UndoOnRing}
use Rattle.terms.specs.declared.NoRefusal.{NoRefusal}
use Rattle.terms.specs.declared.Verdict.{Verdict}
use Rattle.terms.specs.declared.Verdict.TheVariants.{Accepted, Refused}

abbrev pub number_of : Refusal → ℕ
-- book over 65,536 bytes
number_of TooLong = 1
-- book ends inside a number, or before a field that is due
number_of Torn = 2
-- last of several groups is zero, third byte has its high bit, or value above the ceiling
number_of BadNumber = 3
-- edition not 1
number_of BadEdition = 4
-- a table count out of its range, or more than 64 transactions at the field that takes it there
number_of BadCount = 5
-- dependency: unknown transaction, d equals b, kind not 1 to 7, sort not allowed, or not rising
number_of BadDependency = 6
-- event code not on the list of events
number_of BadCode = 7
-- transaction, object or mark not in the tables, or operation number not accepted so far
number_of NotInTables = 8
-- that sort of transaction never does this; or delegates to itself
number_of NeverDoes = 9
-- begin of one that isn't idle
number_of NotIdle = 10
-- commit, abort, operation, delegation, or commit or abort of one operation by one not active, or receiver not active
number_of NotActive = 11
-- delegator, or who commits or aborts one operation, not responsible
number_of NotResponsible = 12
-- saga rule
number_of SagaRule = 13
-- declared dependency
number_of DependencyRule = 14
-- dirty read
number_of DirtyRead = 15
-- on a ring
number_of OnRing = 16
-- undo must wait
number_of MustWait = 17
-- 256 operations accepted already
number_of Full = 18
-- lent room too small
number_of NoRoom = 19
-- operation already ended
number_of AlreadyEnded = 20
-- tables that can never move: begin dependencies lead from a transaction back to itself
number_of NeverMoves = 21
-- an active undo would be on a ring
number_of UndoOnRing = 22

-- the table read backwards: the refusal that a number names, none for a number outside the table
unfoldable pub refusal_in : ℕ → Result Refusal NoRefusal
refusal_in n =
    cond (eqb n 1) (Ok TooLong)
    (cond (eqb n 2) (Ok Torn)
    (cond (eqb n 3) (Ok BadNumber)
    (cond (eqb n 4) (Ok BadEdition)
    (cond (eqb n 5) (Ok BadCount)
    (cond (eqb n 6) (Ok BadDependency)
    (cond (eqb n 7) (Ok BadCode)
    (cond (eqb n 8) (Ok NotInTables)
    (cond (eqb n 9) (Ok NeverDoes)
    (cond (eqb n 10) (Ok NotIdle)
    (cond (eqb n 11) (Ok NotActive)
    (cond (eqb n 12) (Ok NotResponsible)
    (cond (eqb n 13) (Ok SagaRule)
    (cond (eqb n 14) (Ok DependencyRule)
    (cond (eqb n 15) (Ok DirtyRead)
    (cond (eqb n 16) (Ok OnRing)
    (cond (eqb n 17) (Ok MustWait)
    (cond (eqb n 18) (Ok Full)
    (cond (eqb n 19) (Ok NoRoom)
    (cond (eqb n 20) (Ok AlreadyEnded)
    (cond (eqb n 21) (Ok NeverMoves)
    (cond (eqb n 22) (Ok UndoOnRing) (Err (record { number = n })))))))))))))))))))))))

-- a verdict as a number: 0 for accepted
abbrev pub verdict_number : Verdict → ℕ
verdict_number Accepted = 0
verdict_number (Refused r) = number_of r
