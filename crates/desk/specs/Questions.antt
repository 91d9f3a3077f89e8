-- What is asked of a desk, in numbers.
use Rattle.std.specs.Prelude.{ℕ, cond, List, [], ◌∷◌, ltb, get_or, Result, Ok, Err}
use Rattle.laws.specs.Index.{one}
use Rattle.terms.specs.Refusals.{refusal_in}
use Rattle.terms.specs.declared.NoRefusal.{NoRefusal}
use Rattle.terms.specs.declared.Refusal.{Refusal}
use Rattle.terms.specs.declared.Verdict.{Verdict}
use Rattle.terms.specs.declared.Verdict.TheVariants.{Accepted, Refused}
use Rattle.ties.specs.Operations.{op_at, size}
use Rattle.ties.specs.declared.Fate.{Fate}
use Rattle.ties.specs.declared.Fate.TheVariants.{Aborted, Active, Committed}
use Rattle.ties.specs.declared.Operation.{Operation}
use Rattle.ties.specs.declared.Ops.{Ops}
use Rattle.tables.specs.Counts.{saga_count, transaction_count}
use Rattle.tables.specs.Reading.{empty_tables}
use Rattle.tables.specs.Sorts.{is_known, sort_of}
use Rattle.tables.specs.declared.Tables.{Tables}
use Rattle.cells.specs.Cells.{mark_code}
use Rattle.rules.specs.Lent.{phase_code}
use Rattle.rules.specs.States.{phase_of}
use Rattle.rules.specs.declared.State.{State}
use Rattle.closing.specs.Closing.{closing, is_listed, outstanding, settled}
use Rattle.closing.specs.declared.NextStep.{NextStep}
use Rattle.closing.specs.declared.NextStep.TheVariants.{NoStep, ToBegin, ToCommit, ToAbort}
use Rattle.left.specs.Left.{left_in}
use Rattle.report.specs.Report.{report_of}
use Rattle.onward.specs.declared.Judgement.{Judgement}

-- ---- a transaction: 0 idle, 1 active, 2 committed, 3 aborted; 4 if there is no such transaction

unfoldable pub phase_number : Tables → State → ℕ → ℕ
phase_number tables s t = cond (is_known (sort_of tables t)) (phase_code (phase_of s.transactions t)) 4

-- ---- operation q: its object, its mark, its responsible transaction, and 1 active, 2 committed, 3 aborted; four times 0 if there is no such operation

abbrev pub fate_number : Fate → ℕ
fate_number Aborted = 3
fate_number Active = 1
fate_number Committed = 2

abbrev pub operation_numbers_of : Operation → List ℕ
operation_numbers_of op = op.object ∷ mark_code op.mark ∷ op.responsible ∷ fate_number op.fate ∷ []

unfoldable pub operation_numbers : Ops → ℕ → List ℕ
operation_numbers ops q = cond (ltb q (size ops)) (operation_numbers_of (op_at ops q)) (0 ∷ 0 ∷ 0 ∷ 0 ∷ [])

-- ---- a saga: its closing step's event as a book has it ("1 begin t; 2 commit t; 3 abort t"), 0 if there is none, its transaction, the number outstanding, and 1 if it is
-- settled; of an index that is no saga's the event is 255, which no event of a book has, and the rest 0

abbrev pub saga_numbers_by : NextStep → ℕ → ℕ → List ℕ
saga_numbers_by NoStep owed done = 0 ∷ 0 ∷ owed ∷ done ∷ []
saga_numbers_by (ToBegin t) owed done = 1 ∷ t ∷ owed ∷ done ∷ []
saga_numbers_by (ToCommit t) owed done = 2 ∷ t ∷ owed ∷ done ∷ []
saga_numbers_by (ToAbort t) owed done = 3 ∷ t ∷ owed ∷ done ∷ []

abbrev pub no_saga : List ℕ
no_saga = 255 ∷ 0 ∷ 0 ∷ 0 ∷ []

unfoldable pub saga_numbers : Tables → State → ℕ → List ℕ
saga_numbers tables s i =
    cond (is_listed tables i) (saga_numbers_by (closing tables s i) (outstanding tables s i) (one (settled tables s i))) no_saga

-- ---- all together: sagas, transactions, operations, events accepted, events refused and passed over, how much is left, how many transactions are active, and the lowest of
-- them, 64 if there is none

unfoldable pub tally_of : Judgement → List ℕ
tally_of j =
    saga_count j.tables
    ∷ transaction_count j.tables
    ∷ size j.state.ops
    ∷ j.events
    ∷ j.refused
    ∷ left_in j.tables j.state
    ∷ (report_of j.state).active
    ∷ (report_of j.state).lowest
    ∷ []

-- ---- the verdict of a number

abbrev pub verdict_of : Result Refusal NoRefusal → Verdict
verdict_of (Ok r) = Refused r
verdict_of (Err none) = Accepted

unfoldable pub verdict_in : ℕ → Verdict
verdict_in n = verdict_of (refusal_in n)

-- ---- the tables, as far as questions look at them: sagas, their steps, and plain transactions

abbrev pub outline_in : List ℕ → List ℕ → Tables
outline_in steps counts =
    record {
      sagas = get_or counts 6 0;
      steps = steps;
      plain = get_or counts 7 0;
      objects = 0;
      dependencies = empty_tables.dependencies;
      declared = 0;
    }
