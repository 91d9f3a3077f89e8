-- What is asked of a desk that stands for a reading is told of that reading.
use Prim.Native.Nat.{ℕ, ◌<◌, ◌≤◌, min}
use native.Mathlib.Omega.{arith}
use mathlib.Core.Path.{◌≡◌, refl, sym, ap, ap₂, ◌∙◌}
use mathlib.Core.Bool.{Bool, true, false}
use mathlib.Core.List.{List, [], ◌∷◌}
use lib.ListN.{get_or, length}
use borrow.Author.Tests.{lt-ltb, le-ltb}
use Rattle.laws.specs.Index.{count_below, first_below, one}
use Rattle.terms.specs.Limits.{most_transactions}
use Rattle.terms.specs.Refusals.{verdict_number}
use Rattle.terms.specs.Refusals.{refusal_in}
use Rattle.terms.proofs.RefusalLaws.{number-names}
use Rattle.terms.specs.declared.Verdict.{Verdict}
use Rattle.terms.specs.declared.Verdict.TheVariants.{Accepted, Refused}
use Rattle.number.specs.declared.Edition.{Edition}
use Rattle.sets.specs.Sets.{mem}
use Rattle.sets.proofs.SetLaws.{count-members, first_member}
use Rattle.ties.specs.Operations.{most_operations, op_at, size}
use Rattle.ties.specs.declared.Operation.{Operation}
use Rattle.ties.specs.declared.Ops.{Ops}
use Rattle.cells.specs.Cells.{op_in, ops_in}
use Rattle.cells.proofs.CellLaws.{op-at, size_in}
use Rattle.tables.specs.Counts.{saga_count, transaction_count}
use Rattle.tables.specs.Reading.{empty_tables}
use Rattle.tables.specs.Sorts.{is_known, sort_of}
use Rattle.tables.specs.declared.Sort.{Sort}
use Rattle.tables.specs.declared.Tables.{Tables}
use Rattle.sheet.specs.Sheet.{sort_at}
use Rattle.rules.specs.Lent.{phase_code, transactions_in}
use Rattle.rules.specs.States.{phase_of}
use Rattle.rules.specs.declared.Phase.{Phase}
use Rattle.rules.specs.declared.State.{State}
use Rattle.rules.specs.declared.Transaction.{Transaction}
use Rattle.judge.specs.Lent.{state_in}
use Rattle.closing.specs.Closing.{closing, outstanding, settled}
use Rattle.closing.specs.declared.NextStep.{NextStep}
use Rattle.report.specs.Report.{active_in, active_set, report_of}
use Rattle.onward.specs.declared.Judgement.{Judgement}
use Rattle.listing.specs.Lines.{later_line, line_count, line_of, place_answer, place_room}
use Rattle.desk.specs.Desk.{DeskStands, desk_of, edition_in}
use Rattle.desk.specs.Questions.{operation_numbers, operation_numbers_of, outline_in, phase_number, saga_numbers, saga_numbers_by, tally_of, verdict_in, verdict_of}
use Rattle.desk.proofs.StandLaws.{accepted-is, edition-is, ended_is, is_whole, left_is, place_is, plain-is, refused-is, sagas-is, state-is}

-- ---- a verdict is told by its number

verdict-back : (v : Verdict) → verdict_in (verdict_number v) ≡ v
unfolding verdict_in refusal_in
verdict-back Accepted = refl
verdict-back (Refused r) = ap verdict_of (number-names r)

-- ---- tables without objects and dependencies: sagas owe the same, and the lines are the same

abbrev outline_of : Tables → Tables
outline_of t = record { sagas = t.sagas; steps = t.steps; plain = t.plain; objects = 0; dependencies = empty_tables.dependencies; declared = 0 }

abbrev outlined : Judgement → Judgement
outlined j =
    record {
      answer = j.answer;
      events = j.events;
      refused = j.refused;
      place = j.place;
      edition = j.edition;
      tables = outline_of j.tables;
      state = j.state;
      records = j.records;
    }

place_same : (j : Judgement) (k : ℕ) (room : List ℕ) → place_answer (outlined j) k room ≡ place_answer j k room
unfolding place_answer line_count line_of later_line closing outstanding
place_same j k room = refl

room-same : (j : Judgement) (k : ℕ) (room : List ℕ) → place_room (outlined j) k room ≡ place_room j k room
unfolding place_room line_count line_of later_line closing outstanding
room-same j k room = refl

-- ---- a saga, by its index

module _ (t : Tables) (s : State) (i : ℕ) where
  pub saga-there : i < saga_count t → (step : NextStep) → step ≡ closing t s i → (owed : ℕ) → owed ≡ outstanding t s i → (b : Bool) → b ≡ settled t s i
      → (done : ℕ) → done ≡ one b → (l : List ℕ) → l ≡ saga_numbers_by step owed done → l ≡ saga_numbers t s i
  unfolding saga_numbers
  saga-there h step a owed o b d done n l f = f ∙ rw (n, a, o, d, lt-ltb i (saga_count t) h)

  pub saga-none : saga_count t ≤ i → 255 ∷ 0 ∷ 0 ∷ 0 ∷ [] ≡ saga_numbers t s i
  unfolding saga_numbers
  saga-none h = rw (le-ltb i (saga_count t) h)

  saga-same : saga_numbers (outline_of t) s i ≡ saga_numbers t s i
  unfolding saga_numbers closing outstanding settled
  saga-same = refl

-- ---- a desk that stands

module _ (j : Judgement) (sheet ts ops ws steps counts : List ℕ) (st : DeskStands j (desk_of sheet ts ops ws steps counts)) where
  transactions-are : transactions_in ts ≡ j.state.transactions
  transactions-are = ap (λ (s : State). s.transactions) st.state

  pub ops-are : ops_in ops (get_or counts 0 0) ≡ j.state.ops
  ops-are = ap (λ (s : State). s.ops) (state-is j sheet ts ops ws steps counts st)

  -- a transaction
  module _ (t : ℕ) (sort : Sort) (is : sort ≡ sort_at sheet t) (b : Bool) (k : b ≡ is_known sort) where
    known : b ≡ is_known (sort_of j.tables t)
    known = k ∙ ap is_known (is ∙ st.tables.sorts t)

    pub phase-known : b ≡ true → (p : Phase) → p ≡ phase_of (transactions_in ts) t → (n : ℕ) → n ≡ phase_code p → n ≡ phase_number j.tables j.state t
    unfolding phase_number
    phase-known y p q n e =
        e ∙ ap phase_code (q ∙ ap (λ (l : List Transaction). phase_of l t) transactions-are) ∙ rw (sym known ∙ y)

    pub phase-none : b ≡ false → 4 ≡ phase_number j.tables j.state t
    unfolding phase_number
    phase-none y = rw (sym known ∙ y)

  -- an operation
  module _ (q all : ℕ) (is : all ≡ min (get_or counts 0 0) most_operations) where
    counted : all ≡ size j.state.ops
    counted = is ∙ sym (size_in ops (get_or counts 0 0)) ∙ ap size ops-are

    pub operation-there : q < all → (op : Operation) → op ≡ op_in (get_or ops q 0) → (l : List ℕ) → l ≡ operation_numbers_of op → l ≡ operation_numbers j.state.ops q
    unfolding operation_numbers
    operation-there h op e l f =
        f
        ∙ ap operation_numbers_of (e ∙ sym (op-at ops (get_or counts 0 0) q) ∙ ap (λ (x : Ops). op_at x q) ops-are)
        ∙ rw (lt-ltb q (size j.state.ops) (omega (arith, counted)))

    pub operation-none : all ≤ q → 0 ∷ 0 ∷ 0 ∷ 0 ∷ [] ≡ operation_numbers j.state.ops q
    unfolding operation_numbers
    operation-none h = rw (le-ltb q (size j.state.ops) (omega (arith, counted)))

  -- the tables that questions look at
  module _ (x : Tables) (e : x ≡ outline_in steps counts) where
    outline-is : x ≡ outline_of j.tables
    outline-is =
        e
        ∙ (λ i. record {
          sagas = sagas-is j sheet ts ops ws steps counts st i;
          steps = st.steps i;
          plain = plain-is j sheet ts ops ws steps counts st i;
          objects = 0;
          dependencies = empty_tables.dependencies;
          declared = 0;
        })

    sagas-same : saga_count x ≡ saga_count j.tables
    sagas-same = ap saga_count outline-is

    -- a saga
    pub saga-is : (s : State) → s ≡ state_in ts ops (get_or counts 0 0) → (i : ℕ) → saga_numbers x s i ≡ saga_numbers j.tables j.state i
    saga-is s q i = ap₂ (λ (t : Tables) (y : State). saga_numbers t y i) outline-is (q ∙ state-is j sheet ts ops ws steps counts st) ∙ saga-same j.tables j.state i

    -- all together
    pub tally-is : (sagas all operations active lowest set : ℕ) (stand : List Transaction) → sagas ≡ saga_count x → all ≡ transaction_count x
        → operations ≡ min (get_or counts 0 0) most_operations → (length (transactions_in ts) ≡ most_transactions → stand ≡ transactions_in ts) → set ≡ active_set stand
        → active ≡ count_below most_transactions (mem set) → lowest ≡ first_below most_transactions (mem set)
        → sagas ∷ all ∷ operations ∷ get_or counts 1 0 ∷ get_or counts 2 0 ∷ get_or counts 3 0 ∷ active ∷ lowest ∷ [] ≡ tally_of j
    unfolding tally_of report_of active_set
    tally-is sagas all operations active lowest set stand a b c d e f g =
        let whole = (is_whole j sheet ts ops ws steps counts st).0 in
        let in-set = e ∙ ap active_set (d whole ∙ transactions-are) in
        rw (
          a ∙ sagas-same,
          b ∙ ap transaction_count outline-is,
          c ∙ sym (size_in ops (get_or counts 0 0)) ∙ ap size ops-are,
          accepted-is j sheet ts ops ws steps counts st,
          refused-is j sheet ts ops ws steps counts st,
          left_is j sheet ts ops ws steps counts st,
          f ∙ ap (λ (y : ℕ). count_below most_transactions (mem y)) in-set ∙ count-members (active_in j.state.transactions),
          g ∙ ap (λ (y : ℕ). first_below most_transactions (mem y)) in-set ∙ first_member (active_in j.state.transactions),
        )

    -- a line
    module _ (v : Verdict) (w : v ≡ verdict_in (get_or counts 4 0)) (s : State) (q : s ≡ state_in ts ops (get_or counts 0 0)) (ed : Edition) (named : ed ≡ edition_in counts) where
      abbrev told : Judgement
      told = record { answer = v; events = get_or counts 1 0; refused = get_or counts 2 0; place = get_or counts 5 0; edition = ed; tables = x; state = s; records = ws }

      judgement-is : told ≡ outlined j
      judgement-is =
          λ i. record {
            answer = (w ∙ ap verdict_in (ended_is j sheet ts ops ws steps counts st) ∙ verdict-back j.answer) i;
            events = accepted-is j sheet ts ops ws steps counts st i;
            refused = refused-is j sheet ts ops ws steps counts st i;
            place = place_is j sheet ts ops ws steps counts st i;
            edition = (named ∙ edition-is j sheet ts ops ws steps counts st) i;
            tables = outline-is i;
            state = (q ∙ state-is j sheet ts ops ws steps counts st) i;
            records = st.records i;
          }

      pub line-there : (r : Judgement)
          → r ≡ record { answer = v; events = get_or counts 1 0; refused = get_or counts 2 0; place = get_or counts 5 0; edition = ed; tables = x; state = s; records = ws }
          → (k : ℕ) (room : List ℕ) → (place_answer r k room ≡ place_answer j k room) × (place_room r k room ≡ place_room j k room)
      line-there r e k room = (
        ap (λ (y : Judgement). place_answer y k room) (e ∙ judgement-is) ∙ place_same j k room,
        ap (λ (y : Judgement). place_room y k room) (e ∙ judgement-is) ∙ room-same j k room,
      )
