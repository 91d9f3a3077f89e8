-- Books keep what any run of events keeps, and closing steps can be written behind them.
use Prim.Native.Nat.{ℕ, zero, suc, ◌+◌, ◌*◌, ◌≤◌, ◌<◌}
use native.Mathlib.Omega.{arith}
use mathlib.Core.Path.{◌≡◌, refl, sym, ap, ◌∙◌, subst, subst⁻¹}
use mathlib.Core.Bool.{false, not}
use mathlib.Core.List.{List, [], ◌∷◌, ◌++◌, append_assoc, append-nil}
use mathlib.Core.Option.{some}
use lib.ListN.{length, length-append}
use Rattle.laws.proofs.Bools.{clash}
use Rattle.laws.proofs.Decisions.{lt-or}
use Rattle.terms.specs.Limits.{most_bytes, most_transactions}
use Rattle.terms.specs.declared.Event.{Event}
use Rattle.terms.specs.declared.Event.TheVariants.{Begin, Commit, Abort}
use Rattle.terms.specs.declared.Verdict.TheVariants.{Accepted}
use Rattle.number.specs.declared.Edition.{Edition}
use Rattle.tables.specs.Accepted.{Well}
use Rattle.tables.specs.Reading.{tables_by}
use Rattle.tables.specs.Sorts.{is_known}
use Rattle.tables.specs.declared.Circles.{Circles}
use Rattle.tables.specs.declared.Sort.{Sort}
use Rattle.tables.specs.declared.Tables.{Tables}
use Rattle.tables.proofs.AcceptedWellHolds.{accepted-well}
use Rattle.sheet.proofs.CodeLaws.{sort-past}
use Rattle.rules.specs.declared.State.{State}
use Rattle.judge.specs.Judge.{judged, unknown}
use Rattle.items.specs.Items.{item_at}
use Rattle.items.specs.declared.Item.TheVariants.{Takes}
use Rattle.items.proofs.ShortEvents.{abort-behind, begin-behind, commit-behind}
use Rattle.histories.specs.Histories.{reached}
use Rattle.histories.proofs.AcceptedWhenHolds.{accepted-when}
use Rattle.histories.proofs.JudgePromisesHold.{judge-promises}
use Rattle.histories.proofs.Steps.{commit-passed}
use Rattle.judge.proofs.EventLaws.{lines-off}
use Rattle.histories.proofs.RunLaws.{run_none}
use Rattle.closing.specs.Closing.{closing, event_of, outstanding}
use Rattle.closing.specs.Demand.{all_foreign}
use Rattle.closing.specs.declared.NextStep.{NextStep}
use Rattle.closing.specs.declared.NextStep.TheVariants.{NoStep, ToBegin, ToCommit, ToAbort}
use Rattle.closing.proofs.AlwaysCommitsHolds.{always-commits}
use Rattle.closing.proofs.ClosingSettlesHolds.{closing-settles-read}
use Rattle.closing.proofs.Demand3Holds.{demand3-read}
use Rattle.book.specs.Reading.{reading_by}
use Rattle.book.specs.Demands.{ReadsRun, events_of}
use Rattle.book.specs.declared.Reading.{Reading}
use Rattle.book.proofs.BehindLaws.{one_more}
use Rattle.book.proofs.ReadLaws.{accepted-small, accepted-tables}
use Rattle.book.proofs.RunLaws.{reads-run}
use Rattle.worked.specs.Books.{Behind, BooksKept, ClosedWhole, ClosesWhole, ClosingBehind, owed_after, step_after, step_bytes}

pub books-kept : BooksKept
books-kept circles ed s at e =
    record {
      any_run = judge-promises.any_run (tables_by circles ed s).tables (events_of circles ed s at);
      families = judge-promises.families (tables_by circles ed s).tables (events_of circles ed s at);
      when = accepted-when (tables_by circles ed s).tables (events_of circles ed s at);
      commits = always-commits circles ed s at e (events_of circles ed s at);
      settles = closing-settles-read circles ed s at e (events_of circles ed s at);
      demand = demand3-read circles ed s at e;
    }

-- ---- a closing step behind a book

-- the step's event, by its bytes
pub record StepBehind (ed : Edition) (s : List ℕ) (step : NextStep) (e : Event) : Type 0 where
  pub two : length (step_bytes step) ≡ 2
  pub item : item_at ed (s ++ step_bytes step) (length s) ≡ Takes e 0 (length s + 2)

module _ (ed : Edition) (s : List ℕ) (tables : Tables) (few : (t : ℕ) → unknown tables t ≡ false → t < most_transactions) (st : State) where
  small : (t : ℕ) → unknown tables t ≡ false → t < 128
  small t u = omega (arith, few t u)

  step-behind : (step : NextStep) (e : Event) → event_of step ≡ some e → (judged tables st e).verdict ≡ Accepted → StepBehind ed s step e
  step-behind NoStep e n v = let z : ◌≡◌ {A = ℕ} 0 1 = cc in absurd (omega arith)
  step-behind (ToBegin t) e n v =
      let same : Begin t ≡ e = cc in
      let u = (lines-off tables st (Begin t) (subst⁻¹ (λ (x : Event). (judged tables st x).verdict ≡ Accepted) same v)).0 in
      record { two = refl; item = subst (λ (x : Event). item_at ed (s ++ (1 ∷ t ∷ [])) (length s) ≡ Takes x 0 (length s + 2)) same (begin-behind ed s t (small t u)) }
  step-behind (ToCommit t) e n v =
      let same : Commit t ≡ e = cc in
      let u = (commit-passed tables st t (subst⁻¹ (λ (x : Event). (judged tables st x).verdict ≡ Accepted) same v)).0 in
      record { two = refl; item = subst (λ (x : Event). item_at ed (s ++ (2 ∷ t ∷ [])) (length s) ≡ Takes x 0 (length s + 2)) same (commit-behind ed s t (small t u)) }
  step-behind (ToAbort t) e n v =
      let same : Abort t ≡ e = cc in
      let u = (lines-off tables st (Abort t) (subst⁻¹ (λ (x : Event). (judged tables st x).verdict ≡ Accepted) same v)).0 in
      record { two = refl; item = subst (λ (x : Event). item_at ed (s ++ (3 ∷ t ∷ [])) (length s) ≡ Takes x 0 (length s + 2)) same (abort-behind ed s t (small t u)) }

-- a closing step of the state that a reading returns
pub record Owing (tables : Tables) (st : State) (i : ℕ) : Type 0 where
  pub event : Event
  pub named : event_of (closing tables st i) ≡ some event
  pub accepted : (judged tables st event).verdict ≡ Accepted
  pub lowers : outstanding tables (judged tables st event).state i + 1 ≡ outstanding tables st i

module _ (circles : Circles) (ed : Edition) (s : List ℕ) (whole : (reading_by circles ed s).answer ≡ Accepted) where
  abbrev at : ℕ
  at = (accepted-tables circles ed s whole).0

  abbrev T : Tables
  T = (tables_by circles ed s).tables

  abbrev r : Reading
  r = reading_by circles ed s

  abbrev es : List Event
  es = events_of circles ed s at

  run_of : ReadsRun circles ed s at
  run_of = reads-run circles ed s at (accepted-small circles ed s whole) (accepted-tables circles ed s whole).1

  well : Well T
  well = accepted-well circles ed s at (accepted-tables circles ed s whole).1

  few : (t : ℕ) → unknown r.tables t ≡ false → t < most_transactions
  few t u =
      lt-or t most_transactions (λ l. l)
      (λ l. clash (ap (λ (y : Tables). unknown y t) run_of.tables ∙ ap (λ (x : Sort). not (is_known x)) (sort-past T well.fits t l)) u)

  module _ (i : ℕ) (low : i < r.tables.sagas) (owed : 0 < owed_after circles ed s i) where
    owing-there : Owing T (reached T es) i
    unfolding all_foreign
    owing-there =
        let listed : i < T.sagas = subst (λ (y : Tables). i < y.sagas) run_of.tables low in
        let more : 0 < outstanding T (reached T es) i = subst (λ (y : State). 0 < outstanding T y i) run_of.led_to (subst (λ (y : Tables). 0 < outstanding y r.state i) run_of.tables owed) in
        let d = (demand3-read circles ed s at (accepted-tables circles ed s whole).1 i listed).closes es [] refl more in
        let here = run_none T (reached T es) in
        record {
          event = d.event;
          named = d.named;
          accepted = subst (λ (x : State). (judged T x d.event).verdict ≡ Accepted) here d.accepted;
          lowers = subst (λ (x : State). outstanding T (judged T x d.event).state i + 1 ≡ outstanding T (reached T es) i) here d.lowers;
        }

    owing : Owing r.tables r.state i
    owing = subst⁻¹ (λ (y : Tables). Owing y r.state i) run_of.tables (subst⁻¹ (λ (x : State). Owing T x i) run_of.led_to owing-there)

    behind : length s + 2 ≤ most_bytes → Behind circles ed s i
    behind fits =
        let step = closing r.tables r.state i in
        let b = step-behind ed s r.tables few r.state step owing.event owing.named owing.accepted in
        let long : length (s ++ step_bytes step) ≡ length s + 2 = length-append s (step_bytes step) ∙ ap (λ (k : ℕ). length s + k) b.two in
        let then = one_more circles ed s (step_bytes step) whole (omega (arith, long)) owing.event 0 (length s + 2) b.item long owing.accepted in
        record {
          two = b.two;
          accepted = ap (λ (y : Reading). y.answer) then;
          events = ap (λ (y : Reading). y.events) then;
          tables = ap (λ (y : Reading). y.tables) then;
          owes = ap (λ (y : Reading). outstanding y.tables y.state i + 1) then ∙ owing.lowers;
        }

pub closing-behind : ClosingBehind
closing-behind circles ed s whole fits i low owed = behind circles ed s whole i low owed fits

-- ---- all of them, one behind the other

closed_after : (circles : Circles) (ed : Edition) (k : ℕ) (s : List ℕ) → (reading_by circles ed s).answer ≡ Accepted
    → (i : ℕ) → i < (reading_by circles ed s).tables.sagas → owed_after circles ed s i ≡ k → length s + 2 * k ≤ most_bytes → ClosedWhole circles ed s i
closed_after circles ed zero s whole i low owed fits =
    let same = append-nil s in
    record {
      rest = [];
      long = omega (arith, owed);
      accepted = ap (λ (y : List ℕ). (reading_by circles ed y).answer) same ∙ whole;
      nothing = ap (λ (y : List ℕ). owed_after circles ed y i) same ∙ owed;
    }
closed_after circles ed (suc k) s whole i low owed fits =
    let b = behind circles ed s whole i low (omega (arith, owed)) (omega arith) in
    let x = step_after circles ed s i in
    let long : length (s ++ x) ≡ length s + 2 = length-append s x ∙ ap (λ (j : ℕ). length s + j) b.two in
    let c = closed_after circles ed k (s ++ x) b.accepted i (subst⁻¹ (λ (y : Tables). i < y.sagas) b.tables low) (omega (arith, b.owes, owed)) (omega (arith, long)) in
    let same = append_assoc s x c.rest in
    record {
      rest = x ++ c.rest;
      long = length-append x c.rest ∙ omega (arith, b.two, c.long, b.owes);
      accepted = ap (λ (y : List ℕ). (reading_by circles ed y).answer) (sym same) ∙ c.accepted;
      nothing = ap (λ (y : List ℕ). owed_after circles ed y i) (sym same) ∙ c.nothing;
    }

pub closes-whole : ClosesWhole
closes-whole circles ed s whole i low fits = closed_after circles ed (owed_after circles ed s i) s whole i low refl fits
