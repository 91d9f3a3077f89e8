-- A desk: what a book's tables say and how everything stands after its events, in numbers that a caller lends; and what one event more makes of it.
use Rattle.std.specs.Prelude.{ℕ, ◌+◌, ◌≡◌, cond, List, [], ◌∷◌, eqb, ltb, get_or, Result, Ok, Err}
use Rattle.terms.specs.Limits.{most_bytes}
use Rattle.terms.specs.Refusals.{number_of, verdict_number}
use Rattle.terms.specs.declared.Event.{Event}
use Rattle.terms.specs.declared.Event.TheVariants.{Begin, Commit, Abort, Operation as Invoke, Delegate, CommitOne, AbortOne, Spawn}
use Rattle.terms.specs.declared.Mark.TheVariants.{Read, Write}
use Rattle.terms.specs.declared.Refusal.{Refusal}
use Rattle.terms.specs.declared.Refusal.TheVariants.{BadCode, BadNumber, NotInTables}
use Rattle.terms.specs.declared.Verdict.{Verdict}
use Rattle.terms.specs.declared.Verdict.TheVariants.{Accepted, Refused}
use Rattle.number.specs.Number.{ceiling_of, edition_named, edition_number}
use Rattle.number.specs.declared.Edition.{Edition}
use Rattle.number.specs.declared.Edition.TheVariants.{First, Second}
use Rattle.items.specs.declared.EventSort.{EventSort}
use Rattle.items.specs.declared.EventSort.TheVariants.{Begins, Commits, Aborts, Operates, Delegates, CommitsOne, AbortsOne, Spawns}
use Rattle.tables.specs.Accepted.{Well}
use Rattle.sheet.specs.Sheet.{Holds}
use Rattle.rules.specs.declared.State.{State}
use Rattle.judge.specs.Judge.{judged}
use Rattle.judge.specs.Lent.{state_in}
use Rattle.histories.specs.Histories.{reached}
use Rattle.left.specs.Left.{left_in}
use Rattle.onward.specs.Onward.{noted_at}
use Rattle.onward.specs.declared.Judgement.{Judgement}
use Rattle.desk.specs.declared.Unnamed.{Unnamed}
use Rattle.desk.specs.declared.Unnamed.TheVariants.{NoCode, NoMark, NoNumber}

-- ---- an event by its fields, as they stand in a book

-- an event and its record, 0 where it has none; or why there is no event
abbrev pub Named : Type 0
Named = Result (Event × ℕ) Unnamed

abbrev pub says : Event → ℕ → Named
says e pu = Ok (e, pu)

-- 0 is a read, 1 a write; another mark is none
abbrev pub marked_by : ℕ → ℕ → ℕ → ℕ → Named
marked_by t object mark pu = cond (eqb mark 0) (says (Invoke t object Read) pu) (cond (eqb mark 1) (says (Invoke t object Write) pu) (Err NoMark))

-- an operation with the pupil record beside it: edition 1 has none, and in edition 2 it is a number that a field can say
abbrev pub operation_by : Edition → ℕ → ℕ → ℕ → ℕ → Named
operation_by First t object mark pu = marked_by t object mark 0
operation_by Second t object mark pu = cond (ltb (ceiling_of Second) pu) (Err NoNumber) (marked_by t object mark pu)

-- the record that stands beside an event of a sort, 0 where it has none; or why there is none
abbrev pub record_beside : Edition → EventSort → ℕ → Result ℕ Unnamed
record_beside First sort pu = Ok 0
record_beside Second Begins pu = Ok 0
record_beside Second Commits pu = Ok 0
record_beside Second Aborts pu = Ok 0
record_beside Second Operates pu = cond (ltb (ceiling_of Second) pu) (Err NoNumber) (Ok pu)
record_beside Second Delegates pu = Ok 0
record_beside Second CommitsOne pu = Ok 0
record_beside Second AbortsOne pu = Ok 0
record_beside Second Spawns pu = Ok 0

-- a code, and the fields that follow it, of which an event takes as many as it has
unfoldable pub named_by : Edition → ℕ → ℕ → ℕ → ℕ → ℕ → Named
named_by ed code a b c d =
    cond (eqb code 1) (says (Begin a) 0)
    (cond (eqb code 2) (says (Commit a) 0)
    (cond (eqb code 3) (says (Abort a) 0)
    (cond (eqb code 4) (operation_by ed a b c d)
    (cond (eqb code 5) (says (Delegate a b c) 0)
    (cond (eqb code 6) (says (CommitOne a b) 0) (cond (eqb code 7) (says (AbortOne a b) 0) (cond (eqb code 8) (says (Spawn a b) 0) (Err NoCode))))))))

-- ---- one event more behind what was read

-- one more; a book has fewer events than bytes, and what is past that stays
abbrev pub more : ℕ → ℕ
more n = cond (ltb n most_bytes) (n + 1) n

-- it is refused, and changes nothing
abbrev pub passed_over : Judgement → Judgement
passed_over j =
    record {
      answer = j.answer;
      events = j.events;
      refused = more j.refused;
      place = j.place;
      edition = j.edition;
      tables = j.tables;
      state = j.state;
      records = j.records;
    }

-- the state after it, with its record beside the operation that it made
abbrev pub then_by : Verdict → Judgement → State → ℕ → Judgement
then_by Accepted j s pu =
    record {
      answer = j.answer;
      events = more j.events;
      refused = j.refused;
      place = j.place;
      edition = j.edition;
      tables = j.tables;
      state = s;
      records = noted_at j.state.ops.count s.ops.count pu j.records;
    }
then_by (Refused r) j s pu = passed_over j

abbrev pub event_then : Judgement → Event → ℕ → Judgement
event_then j e pu = then_by (judged j.tables j.state e).verdict j (judged j.tables j.state e).state pu

-- one whose mark is none is refused by 8; what has no code, or a record that is no number, is no event
abbrev pub named_then : Judgement → Named → Judgement
named_then j (Ok (e, pu)) = event_then j e pu
named_then j (Err NoCode) = j
named_then j (Err NoMark) = passed_over j
named_then j (Err NoNumber) = j

abbrev pub refusal_of : Unnamed → Refusal
refusal_of NoCode = BadCode
refusal_of NoMark = NotInTables
refusal_of NoNumber = BadNumber

abbrev pub named_number : Judgement → Named → ℕ
named_number j (Ok (e, pu)) = verdict_number (judged j.tables j.state e).verdict
named_number j (Err why) = number_of (refusal_of why)

-- behind a refusal that ended the reading nothing is read
abbrev pub taken_after : Verdict → Judgement → Named → Judgement
taken_after Accepted j x = named_then j x
taken_after (Refused r) j x = j

abbrev pub asked_after : Verdict → Judgement → Named → ℕ
asked_after Accepted j x = named_number j x
asked_after (Refused r) j x = number_of r

-- what taking makes of a judgement, and the number that asking and taking answer
unfoldable pub taken_by : Judgement → Named → Judgement
taken_by j x = taken_after j.answer j x

unfoldable pub asked_by : Judgement → Named → ℕ
asked_by j x = asked_after j.answer j x

-- ---- the numbers of a desk

pub record Desk : Type 0 where
  pub sheet : List ℕ
  pub transactions : List ℕ
  pub operations : List ℕ
  pub records : List ℕ
  pub steps : List ℕ
  pub counts : List ℕ

abbrev pub desk_of : List ℕ → List ℕ → List ℕ → List ℕ → List ℕ → List ℕ → Desk
desk_of sheet transactions operations records steps counts =
    record { sheet = sheet; transactions = transactions; operations = operations; records = records; steps = steps; counts = counts }

-- its counts: operations, events accepted, events refused and passed over, how much is left, the number and the place of the refusal that ended the reading, sagas, plain
-- transactions and the number of the edition
abbrev pub counts_by : Judgement → ℕ → List ℕ
counts_by j left =
    j.state.ops.count
    ∷ j.events
    ∷ j.refused
    ∷ left
    ∷ verdict_number j.answer
    ∷ j.place
    ∷ j.tables.sagas
    ∷ j.tables.plain
    ∷ edition_number j.edition
    ∷ []

unfoldable pub counts_of : Judgement → List ℕ
counts_of j = counts_by j (left_in j.tables j.state)

-- the edition that counts name
abbrev pub edition_in : List ℕ → Edition
edition_in counts = edition_named (get_or counts 8 0)

-- a desk stands for what reading came to: its numbers say the tables, the state, the record of every operation, the steps of every saga, and the counts; the sum is the sum by
-- definition
pub record DeskStands (j : Judgement) (d : Desk) : Type 0 where
  pub tables : Holds j.tables d.sheet
  pub state : state_in d.transactions d.operations j.state.ops.count ≡ j.state
  pub records : d.records ≡ j.records
  pub steps : d.steps ≡ j.tables.steps
  pub counts : d.counts ≡ counts_of j
  -- the tables are well formed, and the state is one that events lead to
  pub well : Well j.tables
  pub led_to : (es : List Event) × (j.state ≡ reached j.tables es)
