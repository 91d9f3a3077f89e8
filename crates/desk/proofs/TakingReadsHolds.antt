-- Asking and taking give what reading the book with that event behind it gives.
use Prim.Native.Nat.{ℕ, zero, suc, ◌+◌, ◌≤◌, ◌<◌}
use native.Mathlib.Omega.{arith}
use mathlib.Core.Path.{◌≡◌, refl, sym, ap, ap₂, ◌∙◌, subst}
use mathlib.Core.Bool.{Bool, true, false, cond, ◌&&◌}
use mathlib.Core.Logic.{⊎_elim}
use mathlib.Core.List.{List, [], ◌∷◌, ◌++◌, append-nil}
use lib.Dec.{ltb}
use lib.ListN.{length, replicate, set, take, length-append}
use lib.Seq.{take_all, take_at}
use borrow.Author.Tests.{lt-ltb}
use Rattle.terms.specs.Limits.{most_bytes}
use Rattle.terms.specs.Refusals.{verdict_number}
use Rattle.terms.specs.declared.Event.{Event}
use Rattle.terms.specs.declared.Event.TheVariants.{Begin, Commit, Abort, Operation as Invoke, Delegate, CommitOne, AbortOne, Spawn}
use Rattle.terms.specs.declared.Refusal.{Refusal}
use Rattle.terms.specs.declared.Refusal.TheVariants.{NotInTables}
use Rattle.terms.specs.declared.Verdict.{Verdict}
use Rattle.terms.specs.declared.Verdict.TheVariants.{Accepted, Refused}
use Rattle.packing.specs.Fields.{encodes}
use Rattle.number.specs.declared.Edition.{Edition}
use Rattle.number.specs.declared.Edition.TheVariants.{First, Second}
use Rattle.items.specs.Items.{event_fields, item_at, items_after, record_in}
use Rattle.items.specs.declared.Item.{Item}
use Rattle.items.specs.declared.Item.TheVariants.{BadMark, Ends, Stops, Takes}
use Rattle.items.proofs.EventStandsHolds.{event-stands}
use Rattle.items.proofs.ItemLaws.{Goes, goes-inside, item-end}
use Rattle.tables.specs.Reading.{edition_of, tables_by}
use Rattle.tables.specs.declared.Circles.{Circles}
use Rattle.tables.specs.declared.Tables.{Tables}
use Rattle.tables.specs.declared.TablesRead.{TablesRead}
use Rattle.tables.proofs.BeginningLaws.{tables-extend, tables-place}
use Rattle.tables.proofs.EditionLaws.{edition-read}
use Rattle.ties.specs.Operations.{most_operations}
use Rattle.rules.specs.States.{empty_state}
use Rattle.rules.specs.declared.State.{State}
use Rattle.judge.specs.Judge.{judged}
use Rattle.judge.proofs.EventLaws.{next-no}
use Rattle.histories.specs.Histories.{reached}
use Rattle.book.specs.Demands.{events_taken}
use Rattle.book.specs.Reading.{judge_all, opening_by, reading_by, reading_ends}
use Rattle.book.specs.declared.Reading.{Reading}
use Rattle.book.proofs.DemandsHold.{demand1, demand2}
use Rattle.book.proofs.EventsBackHolds.{events-back}
use Rattle.book.proofs.LongestLaws.{longest, read_on}
use Rattle.book.proofs.OpeningLaws.{opening-le}
use Rattle.book.proofs.ReadLaws.{accepted-edition, accepted-small, accepted-tables, answer-cases, loop-bad, loop-halt, loop-more, not-accepted, verdict-cases}
use Rattle.onward.specs.Onward.{answer_in, events_in, judgement_by, judgement_ends, judgement_on, judgement_to, judgement_up_to, no_by, no_records, noted_at, records_up_to, refused_by, refused_from}
use Rattle.onward.specs.Promises.{AllEvents}
use Rattle.onward.specs.declared.Judgement.{Judgement}
use Rattle.onward.specs.declared.No.{No}
use Rattle.onward.proofs.ItemCountLaws.{few-items}
use Rattle.onward.proofs.OnwardLaws.{from-denied, from-ended, from-marked, from_start, from-took, judgement_from, noted-none}
use Rattle.onward.proofs.ReadingOnHolds.{reading-on-holds}
use Rattle.desk.specs.Desk.{asked_after, asked_by, more, says, taken_after, taken_by, then_by}
use Rattle.std.specs.Prelude.{Err, Ok}
use Rattle.desk.specs.declared.Unnamed.TheVariants.{NoMark}
use Rattle.desk.specs.Promises.{EventBehind, MarkBehind, ReadsOnBehind, ReadsToBehind, TakingReads, ended_by}
use Rattle.desk.proofs.BehindLaws.{all_end, from-append, longer, refused-append}
use Rattle.desk.proofs.NamesLaws.{names-fields}

-- ---- taking, from an accepted reading

one_more : (k : ℕ) → k < most_bytes → k + 1 ≡ more k
one_more k h = rw (lt-ltb k most_bytes h)

last-refused : (tables : Tables) (s : State) (i : ℕ) (e : Event) (pu end : ℕ) → refused_from tables s i (Takes e pu end ∷ []) ≡ no_by (judged tables s e).verdict i []
unfolding refused_from
last-refused tables s i e pu end = refl

module _ (ed : Edition) (tables : Tables) (s : State) (w : List ℕ) (n m : ℕ) (few : n + m < most_bytes) (end : ℕ) where
  abbrev from : Judgement
  from = judgement_ends ed w Accepted n m 0 tables s

  event-then : (e : Event) (pu : ℕ) → judgement_from ed tables s w n m (Takes e pu end ∷ []) ≡ taken_by from (says e pu)
  unfolding taken_by
  event-then e pu =
      let t = (judged tables s e).state in
      let noted = noted_at s.ops.count t.ops.count pu w in
      verdict-cases (judged tables s e).verdict
      (λ v.
      from-took ed tables s w n m e pu end [] v
      ∙ from-ended ed tables t noted (n + 1) m
      ∙ ap (λ (k : ℕ). judgement_ends ed noted Accepted k m 0 tables t) (one_more n (omega arith))
      ∙ ap (λ (x : Verdict). then_by x from t pu) (sym v))
      (λ r v.
      from-denied ed tables s w n m e pu end [] r v
      ∙ from-ended ed tables t noted n (m + 1)
      ∙ ap₂ (λ (k : ℕ) (y : State). judgement_ends ed (noted_at s.ops.count y.ops.count pu w) Accepted n k 0 tables y) (one_more m (omega arith)) (next-no tables s e r v)
      ∙ ap (λ (y : List ℕ). judgement_ends ed y Accepted n (more m) 0 tables s) (noted-none s.ops.count pu w)
      ∙ ap (λ (x : Verdict). then_by x from t pu) (sym v))

  mark-then : judgement_from ed tables s w n m (BadMark end ∷ []) ≡ taken_by from (Err NoMark)
  unfolding taken_by
  mark-then =
      from-marked ed tables s w n m end []
      ∙ from-ended ed tables s w n (m + 1)
      ∙ ap (λ (k : ℕ). judgement_ends ed w Accepted n k 0 tables s) (one_more m (omega arith))

-- ---- on past refused events

module _ (circles : Circles) (ed : Edition) (s x : List ℕ) (fits : length (s ++ x) ≤ most_bytes) (whole : (judgement_by circles ed s).answer ≡ Accepted) where
  abbrev was : Judgement
  was = judgement_by circles ed s

  small : length s ≤ most_bytes
  small = omega (arith, length-append s x)

  -- the tables are accepted
  read-there : (at : ℕ) × ((tables_by circles ed s).answer ≡ Ok at)
  read-there =
      answer-cases (tables_by circles ed s).answer (λ at e. (at, e))
      (λ r p e. not-accepted (sym (ap (λ (j : Judgement). j.answer) (reading-on-holds.reads_nothing circles ed s r p small e).0) ∙ whole))

  place : ℕ
  place = read-there.0

  own : Tables
  own = (tables_by circles ed s).tables

  abbrev items : List Item
  items = items_after ed s read-there.0

  was-on : judgement_by circles ed s ≡ judgement_on ed (tables_by circles ed s).tables items
  was-on = (reading-on-holds.reads circles ed s read-there.0 small read-there.1).judgement

  fine : answer_in (items_after ed s read-there.0) ≡ Accepted
  unfolding judgement_on
  fine = sym (ap (λ (j : Judgement). j.answer) was-on) ∙ whole

  both-tables : tables_by circles ed (s ++ x) ≡ tables_by circles ed s
  both-tables =
      let same = take_at s x (length s) refl in
      tables-extend circles ed (s ++ x) read-there.0 (length s) (ap (λ (l : List ℕ). (tables_by circles ed l).answer) same ∙ read-there.1)
      ∙ ap (λ (l : List ℕ). tables_by circles ed l) same

  both_read : (tables_by circles ed (s ++ x)).answer ≡ Ok read-there.0
  both_read = ap (λ (t : TablesRead). t.answer) both-tables ∙ read-there.1

  both-on : judgement_by circles ed (s ++ x) ≡ judgement_on ed (tables_by circles ed s).tables (items_after ed (s ++ x) read-there.0)
  both-on =
      (reading-on-holds.reads circles ed (s ++ x) read-there.0 fits both_read).judgement
      ∙ ap (λ (t : TablesRead). judgement_on ed t.tables (items_after ed (s ++ x) read-there.0)) both-tables

  module _ (item : Item) (goes : Goes item (length (s ++ x))) (there : item_at ed (s ++ x) (length s) ≡ item) where
    one-longer : (items_after ed (s ++ x) read-there.0 ≡ items ++ (item ∷ [])) × AllEvents items
    one-longer = longer ed s x item goes there read-there.0 (tables-place circles ed s read-there.0 read-there.1) fine

    -- the judgement of both goes on from that of the book
    goes_on : judgement_by circles ed (s ++ x) ≡ judgement_from ed (tables_by circles ed s).tables was.state was.records was.events was.refused (item ∷ [])
    goes_on =
        both-on
        ∙ ap (judgement_on ed (tables_by circles ed s).tables) one-longer.0
        ∙ sym (from_start ed (tables_by circles ed s).tables (items ++ (item ∷ [])))
        ∙ from-append ed (tables_by circles ed s).tables (item ∷ []) items one-longer.1 empty_state no_records 0 0
        ∙ ap (λ (j : Judgement). judgement_from ed (tables_by circles ed s).tables j.state j.records j.events j.refused (item ∷ []))
        (from_start ed (tables_by circles ed s).tables items ∙ sym was-on)

    -- every item of the book is counted
    counted : was.events + was.refused ≡ length items
    counted = (reading-on-holds.reads circles ed s read-there.0 small read-there.1).all_told one-longer.1

    few : was.events + was.refused < most_bytes
    few =
        let inside = goes-inside ed (s ++ x) (length s) item (length (s ++ x)) goes there in
        omega (arith, counted, few-items ed s read-there.0, length-append s x, inside.later, inside.ends)

    -- reading it ended without a refusal
    ended : was ≡ judgement_ends ed was.records Accepted was.events was.refused 0 (tables_by circles ed s).tables was.state
    unfolding judgement_on
    ended =
        λ i. record {
          answer = whole i;
          events = was.events;
          refused = was.refused;
          place = (ap (λ (j : Judgement). j.place) was-on ∙ (all_end items one-longer.1).1) i;
          edition = ap (λ (j : Judgement). j.edition) was-on i;
          tables = ap (λ (j : Judgement). j.tables) was-on i;
          state = was.state;
          records = was.records;
        }

  event-on : (e : Event) (pu : ℕ) → EventBehind ed s x e pu → judgement_by circles ed (s ++ x) ≡ taken_by was (says e pu)
  event-on e pu i =
      goes_on (Takes e pu (length (s ++ x))) refl i
      ∙ event-then ed (tables_by circles ed s).tables was.state was.records was.events was.refused (few (Takes e pu (length (s ++ x))) refl i) (length (s ++ x)) e pu
      ∙ ap (λ (j : Judgement). taken_by j (says e pu)) (sym (ended (Takes e pu (length (s ++ x))) refl i))

  mark_on : MarkBehind ed s x → judgement_by circles ed (s ++ x) ≡ taken_by was (Err NoMark)
  mark_on i =
      goes_on (BadMark (length (s ++ x))) refl i
      ∙ mark-then ed (tables_by circles ed s).tables was.state was.records was.events was.refused (few (BadMark (length (s ++ x))) refl i) (length (s ++ x))
      ∙ ap (λ (j : Judgement). taken_by j (Err NoMark)) (sym (ended (BadMark (length (s ++ x))) refl i))

  listed-on : (e : Event) (pu : ℕ) → EventBehind ed s x e pu
      → refused_by circles ed (s ++ x) ≡ refused_by circles ed s ++ no_by (judged was.tables was.state e).verdict (was.events + was.refused) []
  unfolding judgement_on
  listed-on e pu i =
      let item = Takes e pu (length (s ++ x)) in
      let own = (tables_by circles ed s).tables in
      (reading-on-holds.reads circles ed (s ++ x) read-there.0 fits both_read).refused
      ∙ ap₂ (λ (t : TablesRead) (l : List Item). refused_from t.tables empty_state 0 l) both-tables (one-longer item refl i).0
      ∙ refused-append own (item ∷ []) items (one-longer item refl i).1 empty_state 0
      ∙ ap (λ (l : List No). refused_from own empty_state 0 items ++ l) (last-refused own (reached own (events_in items)) (0 + length items) e pu (length (s ++ x)))
      ∙ ap₂ (λ (l : List No) (k : ℕ). l ++ no_by (judged own (reached own (events_in items)) e).verdict k [])
      (sym (reading-on-holds.reads circles ed s read-there.0 small read-there.1).refused) (omega (arith, counted item refl i))
      ∙ ap (λ (j : Judgement). refused_by circles ed s ++ no_by (judged j.tables j.state e).verdict (was.events + was.refused) []) (sym was-on)

  asked-on : (e : Event) (pu : ℕ) → asked_by was (says e pu) ≡ verdict_number (judged was.tables was.state e).verdict
  unfolding asked_by
  asked-on e pu = ap (λ (v : Verdict). asked_after v was (says e pu)) whole

  reads-on-behind : ReadsOnBehind circles ed s x
  reads-on-behind = record { event = event-on; listed = listed-on; asked = asked-on; bad_mark = mark_on }

-- ---- to the first refusal

-- no more events are taken than there are items
taken-few : (tables : Tables) (items : List Item) (s : State) → length (events_taken tables s items) ≤ length items
unfolding events_taken
taken-few tables [] s = omega arith
taken-few tables (Takes e pu next ∷ l) s =
    let few = taken-few tables l (judged tables s e).state in
    verdict-cases (judged tables s e).verdict (λ v. rw v (omega arith)) (λ r v. rw v (omega arith))
taken-few tables (BadMark next ∷ l) s = omega arith
taken-few tables (Stops r p ∷ l) s = omega arith
taken-few tables (Ends ∷ l) s = omega arith

-- where the old way refuses nothing, nothing is passed over
none_over : (tables : Tables) (items : List Item) (at n i : ℕ) (s : State) → (judge_all tables at n s items).answer ≡ Accepted → refused_from tables s i items ≡ []
unfolding judge_all refused_from
none_over tables [] at n i s h = refl
none_over tables (Takes e pu next ∷ l) at n i s h =
    verdict-cases (judged tables s e).verdict
    (λ v. rw v (none_over tables l next (n + 1) (i + 1) (judged tables s e).state (rw v at h)))
    (λ r v. not-accepted (rw v at h))
none_over tables (BadMark next ∷ l) at n i s h = not-accepted h
none_over tables (Stops r p ∷ l) at n i s h = not-accepted h
none_over tables (Ends ∷ l) at n i s h = refl

-- a book of this edition, read to the first refusal, with its records
abbrev up_to : Circles → Edition → List ℕ → Judgement
up_to circles ed s = judgement_to ed (records_up_to circles ed (opening_by circles ed s)) (reading_by circles ed s)

module _ (circles : Circles) (ed : Edition) (s : List ℕ) (whole : (reading_by circles ed s).answer ≡ Accepted) where
  -- of a book that is accepted whole both ways are the same
  both-same : judgement_to ed (judgement_by circles ed s).records (reading_by circles ed s) ≡ judgement_by circles ed s
  unfolding judgement_on
  both-same =
      let t = accepted-tables circles ed s whole in
      let on = reading-on-holds.reads circles ed s t.0 (accepted-small circles ed s whole) t.1 in
      let none = none_over (tables_by circles ed s).tables (items_after ed s t.0) t.0 0 0 empty_state (sym (ap (λ (r : Reading). r.answer) on.old_way) ∙ whole) in
      ap₂ (judgement_to ed) (ap (λ (j : Judgement). j.records) on.judgement) on.old_way ∙ on.both.same none ∙ sym on.judgement

  opening-all : opening_by circles ed s ≡ s
  opening-all =
      let all : take (length s) s ≡ s = take_all (length s) s (omega arith) in
      let far = longest circles ed s (length s) (omega arith) (accepted-small circles ed s whole) (ap (λ (y : List ℕ). (reading_by circles ed y).answer) all ∙ whole) in
      let there : (reading_by circles ed s).opening ≡ length s = omega (arith, far, opening-le circles ed s) in
      ap (λ (k : ℕ). take k s) there ∙ all

set-zeros : (k n : ℕ) → set {A = ℕ} (replicate k 0) n 0 ≡ replicate k 0
set-zeros zero n = refl
set-zeros (suc k) zero = refl
set-zeros (suc k) (suc n) = ap (λ (l : List ℕ). 0 ∷ l) (set-zeros k n)

-- a record of 0 beside no records leaves none
noted-zero : (n m pu : ℕ) → pu ≡ 0 → noted_at n m pu no_records ≡ no_records
noted-zero n m pu z = rw z (by-test (ltb n m && ltb n most_operations))
  where
    by-test : (t : Bool) → cond t (set no_records n 0) no_records ≡ no_records
    by-test true = set-zeros most_operations n
    by-test false = refl

-- edition 1 has no record beside any event
first-none : (e : Event) (pu : ℕ) → record_in First e pu ≡ 0
first-none (Begin t) pu = refl
first-none (Commit t) pu = refl
first-none (Abort t) pu = refl
first-none (Invoke t o m) pu = refl
first-none (Delegate t r q) pu = refl
first-none (CommitOne t q) pu = refl
first-none (AbortOne t q) pu = refl
first-none (Spawn m c) pu = refl

module _ (circles : Circles) (ed : Edition) (s x : List ℕ) (fits : length (s ++ x) ≤ most_bytes) (whole : (reading_by circles ed s).answer ≡ Accepted) where
  abbrev old : Reading
  old = reading_by circles ed s

  abbrev before : Judgement
  before = judgement_to ed (records_up_to circles ed (opening_by circles ed s)) (reading_by circles ed s)

  -- reading goes on behind the book
  goes_to : reading_by circles ed (s ++ x) ≡ judge_all old.tables (length s) old.events old.state (items_after ed (s ++ x) (length s))
  goes_to =
      let same : take (length s) (s ++ x) ≡ s = take_at s x (length s) refl in
      subst
      (λ (y : List ℕ). reading_by circles ed (s ++ x)
      ≡ judge_all (reading_by circles ed y).tables (length s) (reading_by circles ed y).events (reading_by circles ed y).state (items_after ed (s ++ x) (length s)))
      same
      (read_on circles ed (s ++ x) (length s) (omega (arith, length-append s x)) fits (ap (λ (y : List ℕ). (reading_by circles ed y).answer) same ∙ whole))

  no_place : old.place ≡ 0
  no_place = ⊎_elim (λ w. w.1) (λ w. not-accepted (sym w.1 ∙ whole)) (demand1.answered circles ed s)

  few-to : (item : Item) → Goes item (length (s ++ x)) → item_at ed (s ++ x) (length s) ≡ item → old.events < most_bytes
  few-to item g i =
      let t = accepted-tables circles ed s whole in
      let inside = goes-inside ed (s ++ x) (length s) item (length (s ++ x)) g i in
      let run = demand2.reads circles ed s t.0 (omega (arith, length-append s x)) t.1 in
      omega (
        arith,
        run.as_many,
        taken-few (tables_by circles ed s).tables (items_after ed s t.0) empty_state,
        few-items ed s t.0,
        length-append s x,
        inside.later,
        inside.ends,
      )

  asked-to : (e : Event) (pu : ℕ) → asked_by before (says e pu) ≡ verdict_number (judged old.tables old.state e).verdict
  unfolding asked_by
  asked-to e pu = ap (λ (v : Verdict). asked_after v before (says e pu)) whole

  -- the opening is the book, where reading both ended behind it
  opening-kept : (r : Reading) → r.opening ≡ length s → take r.opening (s ++ x) ≡ opening_by circles ed s
  opening-kept r o = ap (λ (k : ℕ). take k (s ++ x)) o ∙ take_at s x (length s) refl ∙ sym (opening-all circles ed s whole)

  stopped-to : (r : Refusal) → reading_by circles ed (s ++ x) ≡ reading_ends old.tables (Refused r) old.events (length s) (length s) old.state
      → up_to circles ed (s ++ x) ≡ ended_by r (length s) before
  stopped-to r e =
      ap₂ (λ (y : Reading) (l : List ℕ). judgement_to ed (records_up_to circles ed l) y) e
      (opening-kept (reading_by circles ed (s ++ x)) (ap (λ (y : Reading). y.opening) e))

  module _ (e : Event) (pu : ℕ) (i : EventBehind ed s x e pu) where
    accepted-both : (judged old.tables old.state e).verdict ≡ Accepted
        → reading_by circles ed (s ++ x) ≡ reading_ends old.tables Accepted (old.events + 1) 0 (length (s ++ x)) (judged old.tables old.state e).state
    accepted-both v =
        goes_to
        ∙ loop-more ed (s ++ x) old.tables (length s) old.events old.state e pu (length (s ++ x)) i v
        ∙ loop-halt ed (s ++ x) old.tables (length (s ++ x)) (old.events + 1) (judged old.tables old.state e).state Ends (sym (item-end ed (s ++ x) (length (s ++ x)) (omega arith))) tt

    refused-both : (r : Refusal) → (judged old.tables old.state e).verdict ≡ Refused r
        → reading_by circles ed (s ++ x) ≡ reading_ends old.tables (Refused r) old.events (length s) (length s) old.state
    refused-both r v =
        goes_to
        ∙ loop-bad ed (s ++ x) old.tables (length s) old.events old.state e pu (length (s ++ x)) i r v
        ∙ ap (reading_ends old.tables (Refused r) old.events (length s) (length s)) (next-no old.tables old.state e r v)

    -- the records of both are those of the book with this one more
    module _ (v : (judged old.tables old.state e).verdict ≡ Accepted) where
      abbrev after : State
      after = (judged old.tables old.state e).state

      answered : (reading_by circles ed (s ++ x)).answer ≡ Accepted
      answered = ap (λ (r : Reading). r.answer) (accepted-both v)

      -- reading on has the same before it
      was-same : judgement_to ed (judgement_by circles ed s).records (reading_by circles ed s) ≡ judgement_by circles ed s
      was-same = both-same circles ed s whole

      on-records : (judgement_by circles ed (s ++ x)).records ≡ noted_at old.state.ops.count after.ops.count pu (judgement_by circles ed s).records
      unfolding taken_by
      on-records =
          let fine = ap (λ (j : Judgement). j.answer) (sym was-same) ∙ whole in
          ap (λ (j : Judgement). j.records) (event-on circles ed s x fits fine e pu i ∙ ap (λ (j : Judgement). taken_by j (says e pu)) (sym was-same))
          ∙ ap (λ (w : Verdict). (taken_after w (judgement_to ed (judgement_by circles ed s).records old) (says e pu)).records) whole
          ∙ ap (λ (w : Verdict). (then_by w (judgement_to ed (judgement_by circles ed s).records old) after pu).records) v

    records-by : (ed' : Edition) → ed ≡ ed' → (judged old.tables old.state e).verdict ≡ Accepted
        → records_up_to circles ed' (s ++ x) ≡ noted_at old.state.ops.count (judged old.tables old.state e).state.ops.count pu (records_up_to circles ed' s)
    records-by First q v =
        sym (noted-zero old.state.ops.count (judged old.tables old.state e).state.ops.count pu
        (sym ((event-stands ed (s ++ x) (length s) e pu (length (s ++ x))).0 i).1 ∙ ap (λ (y : Edition). record_in y e pu) q ∙ first-none e pu))
    records-by Second q v =
        ap (λ (y : Edition). (judgement_by circles y (s ++ x)).records) (accepted-edition circles ed (s ++ x) (answered v))
        ∙ on-records v
        ∙ ap (λ (y : Edition). noted_at old.state.ops.count (judged old.tables old.state e).state.ops.count pu (judgement_by circles y s).records)
        (sym (accepted-edition circles ed s whole))

    records-then : (judged old.tables old.state e).verdict ≡ Accepted
        → records_up_to circles ed (opening_by circles ed (s ++ x))
        ≡ noted_at old.state.ops.count (judged old.tables old.state e).state.ops.count pu (records_up_to circles ed (opening_by circles ed s))
    records-then v =
        ap (records_up_to circles ed) (opening-all circles ed (s ++ x) (answered v))
        ∙ records-by ed refl v
        ∙ ap (λ (l : List ℕ). noted_at old.state.ops.count (judged old.tables old.state e).state.ops.count pu (records_up_to circles ed l))
        (sym (opening-all circles ed s whole))

    accepted-to : (judged old.tables old.state e).verdict ≡ Accepted → up_to circles ed (s ++ x) ≡ taken_by before (says e pu)
    unfolding taken_by
    accepted-to v =
        ap₂ (judgement_to ed) (records-then v) (accepted-both v)
        ∙ (λ k. record {
          answer = sym whole k;
          events = one_more old.events (few-to (Takes e pu (length (s ++ x))) refl i) k;
          refused = 0;
          place = sym no_place k;
          edition = ed;
          tables = old.tables;
          state = (judged old.tables old.state e).state;
          records = noted_at old.state.ops.count (judged old.tables old.state e).state.ops.count pu (records_up_to circles ed (opening_by circles ed s));
        })
        ∙ ap (λ (w : Verdict). then_by w before (judged old.tables old.state e).state pu) (sym v)
        ∙ ap (λ (w : Verdict). taken_after w before (says e pu)) (sym whole)

    refused-to : (r : Refusal) → (judged old.tables old.state e).verdict ≡ Refused r → up_to circles ed (s ++ x) ≡ ended_by r (length s) before
    refused-to r v = stopped-to r (refused-both r v)

    asked-both : asked_by before (says e pu) ≡ verdict_number (reading_by circles ed (s ++ x)).answer
    asked-both =
        asked-to e pu
        ∙ verdict-cases (judged old.tables old.state e).verdict
        (λ v. ap verdict_number v ∙ sym (ap (λ (r : Reading). verdict_number r.answer) (accepted-both v)))
        (λ r v. ap verdict_number v ∙ sym (ap (λ (y : Reading). verdict_number y.answer) (refused-both r v)))

  mark-to : MarkBehind ed s x → up_to circles ed (s ++ x) ≡ ended_by NotInTables (length s) before
  mark-to i =
      stopped-to NotInTables
      (goes_to ∙ loop-halt ed (s ++ x) old.tables (length s) old.events old.state (BadMark (length (s ++ x))) (sym i) tt)

  -- both name the same edition
  both-edition : edition_of (s ++ x) ≡ ed
  both-edition =
      let t = accepted-tables circles ed s whole in
      let same = take_at s x (length s) refl in
      edition-read (s ++ x) circles ed t.0
      (ap (λ (y : TablesRead). y.answer)
      (tables-extend circles ed (s ++ x) t.0 (length s) (ap (λ (l : List ℕ). (tables_by circles ed l).answer) same ∙ t.1) ∙ ap (λ (l : List ℕ). tables_by circles ed l) same)
      ∙ t.1)

module _ (circles : Circles) (s x : List ℕ) (fits : length (s ++ x) ≤ most_bytes) where
  up-to-is : (y : List ℕ) → judgement_up_to circles y ≡ up_to circles (edition_of y) y
  unfolding judgement_up_to
  up-to-is y = refl

  up-to-both : (reading_by circles (edition_of s) s).answer ≡ Accepted → judgement_up_to circles (s ++ x) ≡ up_to circles (edition_of s) (s ++ x)
  up-to-both whole = up-to-is (s ++ x) ∙ ap (λ (ed : Edition). up_to circles ed (s ++ x)) (both-edition circles (edition_of s) s x fits whole)

  reads-to-behind : (judgement_up_to circles s).answer ≡ Accepted → ReadsToBehind circles s x
  unfolding judgement_up_to
  reads-to-behind whole =
      let ed = edition_of s in
      let both = up-to-both whole in
      record {
        accepted = λ e pu i v. both ∙ accepted-to circles ed s x fits whole e pu i v;
        refused = λ e pu r i v. both ∙ refused-to circles ed s x fits whole e pu i r v;
        asked = λ e pu i. asked-both circles ed s x fits whole e pu i ∙ ap (λ (j : Judgement). verdict_number j.answer) (sym both);
        bad_mark = λ i. both ∙ mark-to circles ed s x fits whole i;
      }

pub taking-reads : TakingReads
taking-reads =
    record {
      names = names-fields;
      bytes = λ ed s n beside u.
          let x = encodes (event_fields ed n) in
          ap (λ (l : List ℕ). item_at ed (s ++ l) (length s)) (sym (append-nil x))
          ∙ events-back.one ed s [] n beside u
          ∙ ap (Takes n.event n.pupil) (sym (length-append s x));
      on = reads-on-behind;
      to = reads-to-behind;
    }
