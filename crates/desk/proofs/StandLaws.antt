-- A desk that stands for a reading: what its numbers are, and that taking keeps it.
use Prim.Native.Nat.{ℕ, ◌≤◌}
use native.Mathlib.Omega.{arith}
use mathlib.Core.Path.{◌≡◌, refl, sym, ap, ◌∙◌, subst, subst⁻¹}
use mathlib.Core.Bool.{true}
use mathlib.Core.Logic.{◌≢◌}
use mathlib.Core.List.{List, [], ◌∷◌, ◌++◌}
use lib.ListN.{get_or}
use Rattle.terms.specs.Refusals.{verdict_number}
use Rattle.terms.proofs.RefusalLaws.{number-most}
use Rattle.terms.specs.declared.Event.{Event}
use Rattle.terms.specs.declared.Refusal.{Refusal}
use Rattle.terms.specs.declared.Verdict.{Verdict}
use Rattle.terms.specs.declared.Verdict.TheVariants.{Accepted, Refused}
use Rattle.terms.specs.Limits.{most_transactions}
use Rattle.ties.specs.Operations.{most_operations, op_at}
use Rattle.cells.specs.Cells.{WholeOps, fits, ops_in}
use Rattle.cells.proofs.CellLaws.{count-in}
use Rattle.number.specs.Number.{edition_named, edition_number}
use Rattle.number.specs.declared.Edition.{Edition}
use Rattle.number.specs.declared.Edition.TheVariants.{First, Second}
use Rattle.tables.specs.Sorts.{number_of_all}
use Rattle.sheet.specs.Sheet.{Holds}
use Rattle.rules.specs.Lent.{parent_fits, transactions_in}
use Rattle.tables.specs.declared.Tables.{Tables}
use Rattle.rules.specs.States.{empty_state, parent_of}
use Rattle.rules.specs.declared.State.{State}
use Rattle.judge.specs.Judge.{judged, ruling_of}
use Rattle.judge.specs.declared.Ruling.{Ruling}
use Rattle.judge.specs.Lent.{Whole, state_in}
use Rattle.judge.proofs.EventLaws.{next-no}
use Rattle.histories.specs.Histories.{reached, run}
use Rattle.histories.proofs.RunLaws.{run-append}
use Rattle.left.specs.Left.{left_in, left_then}
use Rattle.left.proofs.KeptHolds.{kept}
use Rattle.onward.specs.Onward.{noted_at}
use Rattle.onward.specs.declared.Judgement.{Judgement}
use Rattle.book.proofs.ReadLaws.{verdict-cases}
use Rattle.desk.specs.Desk.{DeskStands, Named, asked_after, asked_by, counts_by, counts_of, desk_of, edition_in, event_then, more, named_by, named_number, named_then, passed_over, taken_after, taken_by, then_by}
use Rattle.desk.specs.Ways.{judged as judged_in}
use Rattle.desk.proofs.FitLaws.{reached-few, reached-fits, reached-parents, reached-whole}
use Rattle.desk.proofs.OriginLaws.{Origin, origin}

-- ---- a reading that was ended, and one that was not

module _ (j : Judgement) (n : ℕ) (is : n ≡ verdict_number j.answer) where
  pub still_open : n ≡ 0 → j.answer ≡ Accepted
  still_open z = verdict-cases j.answer (λ a. a) (λ r e. absurd (omega (arith, (number-most r).0, is ∙ ap verdict_number e)))

  closed-by : n ≢ 0 → (r : Refusal) × (j.answer ≡ Refused r)
  closed-by z = verdict-cases j.answer (λ a. absurd (z (is ∙ ap verdict_number a))) (λ r e. (r, e))

  pub closed-asked : n ≢ 0 → (x : Named) → n ≡ asked_by j x
  unfolding asked_by
  closed-asked z x = let r = closed-by z in is ∙ ap verdict_number r.1 ∙ ap (λ (v : Verdict). asked_after v j x) (sym r.1)

  pub closed-taken : n ≢ 0 → (x : Named) → j ≡ taken_by j x
  unfolding taken_by
  closed-taken z x = ap (λ (v : Verdict). taken_after v j x) (sym (closed-by z).1)

module _ (j : Judgement) (accepted : j.answer ≡ Accepted) (x y : Named) (is : x ≡ y) where
  pub open-asked : named_number j y ≡ asked_by j x
  unfolding asked_by
  open-asked = ap (named_number j) (sym is) ∙ ap (λ (v : Verdict). asked_after v j x) (sym accepted)

  pub open-taken : named_then j y ≡ taken_by j x
  unfolding taken_by
  open-taken = ap (named_then j) (sym is) ∙ ap (λ (v : Verdict). taken_after v j x) (sym accepted)

-- ---- a desk that stands

-- an edition is told by its number
edition-back : (ed : Edition) → edition_named (edition_number ed) ≡ ed
edition-back First = refl
edition-back Second = refl

-- one event more leads on
on-by-one : (tables : Tables) (es : List Event) (e : Event) → (judged tables (reached tables es) e).state ≡ reached tables (es ++ (e ∷ []))
unfolding run
on-by-one tables es e = sym (run-append tables es (e ∷ []) empty_state)

module _ (j : Judgement) (sheet ts ops ws steps counts : List ℕ) (st : DeskStands j (desk_of sheet ts ops ws steps counts)) where
  pub counts-are : counts ≡ counts_by j (left_in j.tables j.state)
  unfolding counts_of
  counts-are = st.counts

  pub count-is : get_or counts 0 0 ≡ j.state.ops.count
  count-is = ap (λ (l : List ℕ). get_or l 0 0) counts-are

  pub accepted-is : get_or counts 1 0 ≡ j.events
  accepted-is = ap (λ (l : List ℕ). get_or l 1 0) counts-are

  pub refused-is : get_or counts 2 0 ≡ j.refused
  refused-is = ap (λ (l : List ℕ). get_or l 2 0) counts-are

  pub left_is : get_or counts 3 0 ≡ left_in j.tables j.state
  left_is = ap (λ (l : List ℕ). get_or l 3 0) counts-are

  pub ended_is : get_or counts 4 0 ≡ verdict_number j.answer
  ended_is = ap (λ (l : List ℕ). get_or l 4 0) counts-are

  pub place_is : get_or counts 5 0 ≡ j.place
  place_is = ap (λ (l : List ℕ). get_or l 5 0) counts-are

  pub sagas-is : get_or counts 6 0 ≡ j.tables.sagas
  sagas-is = ap (λ (l : List ℕ). get_or l 6 0) counts-are

  pub plain-is : get_or counts 7 0 ≡ j.tables.plain
  plain-is = ap (λ (l : List ℕ). get_or l 7 0) counts-are

  pub edition-is : edition_in counts ≡ j.edition
  edition-is = ap edition_in counts-are ∙ edition-back j.edition

  -- what a code says with its fields, by the edition in the counts
  pub named-is : (code a b c d : ℕ) (ed : Edition) → ed ≡ edition_in counts → (x : Named) → x ≡ named_by ed code a b c d → named_by j.edition code a b c d ≡ x
  named-is code a b c d ed e x q = ap (λ (y : Edition). named_by y code a b c d) (sym (e ∙ edition-is)) ∙ sym q

  -- the state that its numbers stand for
  pub state-is : state_in ts ops (get_or counts 0 0) ≡ j.state
  state-is = ap (state_in ts ops) count-is ∙ st.state

  pub is_whole : Whole (state_in ts ops (get_or counts 0 0))
  is_whole = subst⁻¹ Whole (state-is ∙ st.led_to.1) (reached-whole j.tables st.led_to.0)

  -- what is ruled of an event in its numbers
  pub ruled-is : (e : Event) (x : Ruling) → x ≡ ruling_of j.tables (state_in ts ops (get_or counts 0 0)) e → x.verdict ≡ (judged j.tables j.state e).verdict
  unfolding judged
  ruled-is e x q = ap (λ (y : Ruling). y.verdict) q ∙ ap (λ (s : State). (ruling_of j.tables s e).verdict) state-is

  -- with these counts behind the first four, which may have moved
  abbrev pub moved : ℕ → ℕ → ℕ → ℕ → List ℕ
  moved operations accepted refused left =
      operations ∷ accepted ∷ refused ∷ left ∷ get_or counts 4 0 ∷ get_or counts 5 0 ∷ get_or counts 6 0 ∷ get_or counts 7 0 ∷ get_or counts 8 0 ∷ []

  -- one that is refused and passed over is counted
  pub passes : (m : ℕ) → m ≡ more (get_or counts 2 0) → (counts' : List ℕ) → counts' ≡ moved (get_or counts 0 0) (get_or counts 1 0) m (get_or counts 3 0)
      → DeskStands (passed_over j) (desk_of sheet ts ops ws steps counts')
  unfolding counts_of
  passes m q counts' e =
      record {
        tables = st.tables;
        state = st.state;
        records = st.records;
        steps = st.steps;
        counts = e ∙ rw (q, counts-are);
        well = st.well;
        led_to = st.led_to;
      }

  -- an event was taken in the lent numbers, with the sum
  module _ (e : Event) (ts' ops' : List ℕ) (v : Verdict) (n left : ℕ)
      (said : v ≡ (judged j.tables (state_in ts ops (get_or counts 0 0)) e).verdict)
      (then : state_in ts' ops' n ≡ (judged j.tables (state_in ts ops (get_or counts 0 0)) e).state)
      (sum : left ≡ left_then j.tables (state_in ts ops (get_or counts 0 0)) (get_or counts 3 0) e) where
    pub verdict-is : v ≡ (judged j.tables j.state e).verdict
    verdict-is = said ∙ ap (λ (s : State). (judged j.tables s e).verdict) state-is

    after : State
    after = (judged j.tables j.state e).state

    state-then : state_in ts' ops' n ≡ (judged j.tables j.state e).state
    state-then = then ∙ ap (λ (s : State). (judged j.tables s e).state) state-is

    n-is : n ≡ (judged j.tables j.state e).state.ops.count
    n-is = sym (count-in ops' n) ∙ ap (λ (s : State). s.ops.count) state-then

    left-then : left ≡ left_in j.tables (judged j.tables j.state e).state
    left-then =
        sum
        ∙ ap (λ (s : State). left_then j.tables s (get_or counts 3 0) e) state-is
        ∙ ap (λ (k : ℕ). left_then j.tables j.state k e) left_is
        ∙ (kept j.tables st.well).event j.state e

    -- it was accepted
    pub took : v ≡ Accepted → (pu : ℕ) (ws' : List ℕ) → ws' ≡ noted_at (get_or counts 0 0) n pu ws → (m : ℕ) → m ≡ more (get_or counts 1 0) → (counts' : List ℕ) → counts' ≡ moved n m (get_or counts 2 0) left
        → DeskStands (event_then j e pu) (desk_of sheet ts' ops' ws' steps counts')
    unfolding counts_of
    took a pu ws' noted m q counts' c =
        subst⁻¹ (λ (x : Verdict). DeskStands (then_by x j (judged j.tables j.state e).state pu) (desk_of sheet ts' ops' ws' steps counts')) (sym verdict-is ∙ a)
        (record {
          tables = st.tables;
          state = ap (state_in ts' ops') (sym n-is) ∙ state-then;
          records = noted ∙ rw (count-is, n-is, st.records);
          steps = st.steps;
          counts = c ∙ rw (q, n-is, left-then, counts-are);
          well = st.well;
          led_to = (
            st.led_to.0 ++ (e ∷ []),
            ap (λ (s : State). (judged j.tables s e).state) st.led_to.1 ∙ on-by-one j.tables st.led_to.0 e,
          );
        })

    -- it was refused: nothing is changed but the count
    module _ (r : Refusal) (d : v ≡ Refused r) where
      same : (judged j.tables j.state e).state ≡ j.state
      same = next-no j.tables j.state e r (sym verdict-is ∙ d)

      pub denied : (pu m : ℕ) → m ≡ more (get_or counts 2 0) → (counts' : List ℕ) → counts' ≡ moved n (get_or counts 1 0) m left
          → DeskStands (event_then j e pu) (desk_of sheet ts' ops' ws steps counts')
      unfolding counts_of
      denied pu m q counts' c =
          subst⁻¹ (λ (x : Verdict). DeskStands (then_by x j (judged j.tables j.state e).state pu) (desk_of sheet ts' ops' ws steps counts')) (sym verdict-is ∙ d)
          (record {
            tables = st.tables;
            state = ap (state_in ts' ops') (sym (n-is ∙ ap (λ (s : State). s.ops.count) same)) ∙ state-then ∙ same;
            records = st.records;
            steps = st.steps;
            counts = c ∙ rw (q, n-is, left-then, same, counts-are);
            well = st.well;
            led_to = st.led_to;
          })

-- ---- a desk that was just opened

module _ (way : ℕ) (s : List ℕ) (r : Judgement) (read : r ≡ judged_in way s) (sheet ts ops : List ℕ)
    (held : number_of_all r.tables ≤ most_transactions → Holds r.tables sheet)
    (all : ((t : ℕ) → parent_fits (parent_of r.state.transactions t) ≡ true) → transactions_in ts ≡ r.state.transactions)
    (made : WholeOps r.state.ops → r.state.ops.count ≤ most_operations → ((q : ℕ) → fits (op_at r.state.ops q) ≡ true) → ops_in ops r.state.ops.count ≡ r.state.ops)
    (left : ℕ) (sum : left ≡ left_in r.tables r.state) (n : ℕ) (number : n ≡ verdict_number r.answer) (ed : ℕ) (named : ed ≡ edition_number r.edition) where
  from : Origin r
  from = subst⁻¹ Origin read (origin way s)

  led : r.state ≡ reached r.tables from.1.0
  led = from.1.1

  whole : Whole r.state
  whole = subst⁻¹ Whole led (reached-whole r.tables from.1.0)

  few : r.state.ops.count ≤ most_operations
  few = subst⁻¹ (λ (x : State). x.ops.count ≤ most_operations) led (reached-few r.tables from.1.0)

  fit : (q : ℕ) → fits (op_at r.state.ops q) ≡ true
  fit q = ap (λ (x : State). fits (op_at x.ops q)) led ∙ reached-fits r.tables from.1.0 q

  parents : (t : ℕ) → parent_fits (parent_of r.state.transactions t) ≡ true
  parents t = ap (λ (x : State). parent_fits (parent_of x.transactions t)) led ∙ reached-parents r.tables from.1.0 t

  stands : DeskStands r (desk_of sheet ts ops r.records r.tables.steps (r.state.ops.count ∷ r.events ∷ r.refused ∷ left ∷ n ∷ r.place ∷ r.tables.sagas ∷ r.tables.plain ∷ ed ∷ []))
  unfolding counts_of
  stands =
      record {
        tables = held from.0.fits;
        state = λ i. record { transactions = all parents i; ops = made whole.1 few fit i };
        records = refl;
        steps = refl;
        counts = rw (sum, number, named);
        well = from.0;
        led_to = from.1;
      }

  pub opened : DeskStands (judged_in way s) (desk_of sheet ts ops r.records r.tables.steps (r.state.ops.count ∷ r.events ∷ r.refused ∷ left ∷ n ∷ r.place ∷ r.tables.sagas ∷ r.tables.plain ∷ ed ∷ []))
  opened = subst (λ (x : Judgement). DeskStands x (desk_of sheet ts ops r.records r.tables.steps (r.state.ops.count ∷ r.events ∷ r.refused ∷ left ∷ n ∷ r.place ∷ r.tables.sagas ∷ r.tables.plain ∷ ed ∷ []))) read stands
