-- What a desk names as the next thing to do for a saga is accepted there, and leaves one less.
use Prim.Native.Nat.{ℕ, ◌+◌, ◌≤◌, ◌<◌, min}
use native.Mathlib.Omega.{arith}
use mathlib.Core.Path.{◌≡◌, refl, ap, ◌∙◌, subst, subst⁻¹}
use mathlib.Core.Option.{none, some}
use mathlib.Core.List.{[]}
use lib.ListN.{get_or}
use borrow.Author.Tests.{le-ltb, lt-ltb}
use Rattle.laws.specs.Index.{one}
use Rattle.laws.proofs.Decisions.{lt-or}
use Rattle.terms.specs.Limits.{most_sagas}
use Rattle.terms.specs.Refusals.{verdict_number}
use Rattle.terms.specs.declared.Event.{Event}
use Rattle.terms.specs.declared.Event.TheVariants.{Begin, Commit, Abort}
use Rattle.terms.specs.declared.Verdict.{Verdict}
use Rattle.terms.specs.declared.Verdict.TheVariants.{Accepted}
use Rattle.number.specs.declared.Edition.{Edition}
use Rattle.tables.specs.Counts.{saga_count}
use Rattle.rules.specs.declared.State.{State}
use Rattle.judge.specs.Judge.{judged}
use Rattle.histories.specs.Histories.{reached}
use Rattle.histories.proofs.RunLaws.{run_none}
use Rattle.closing.specs.Closing.{closing, event_of, outstanding, settled}
use Rattle.closing.specs.Demand.{Closes, all_foreign}
use Rattle.closing.specs.declared.NextStep.{NextStep}
use Rattle.closing.specs.declared.NextStep.TheVariants.{NoStep, ToAbort, ToBegin, ToCommit}
use Rattle.closing.proofs.Demand3Holds.{demand3}
use Rattle.onward.specs.declared.Judgement.{Judgement}
use Rattle.desk.specs.Desk.{Desk, DeskStands, asked_after, asked_by, named_by, says, taken_after, taken_by, then_by}
use Rattle.desk.specs.Promises.{NextAccepted, NextTaken, next_named}
use Rattle.desk.specs.Questions.{saga_numbers, saga_numbers_by}

-- the numbers of a step name its event
no-event {ℓ} : {A : Type ℓ} {e : Event} → none ≡ some e → A
no-event q = let z : ◌≡◌ {A = ℕ} 0 1 = cc in absurd (omega arith)

by-step : (ed : Edition) (x : NextStep) (e : Event) (owed done : ℕ) → event_of x ≡ some e
    → named_by ed (get_or (saga_numbers_by x owed done) 0 0) (get_or (saga_numbers_by x owed done) 1 0) 0 0 0 ≡ says e 0
unfolding named_by
by-step ed NoStep e owed done q = no-event q
by-step ed (ToBegin t) e owed done q = let same : Begin t ≡ e = cc in ap (λ (y : Event). says y 0) same
by-step ed (ToCommit t) e owed done q = let same : Commit t ≡ e = cc in ap (λ (y : Event). says y 0) same
by-step ed (ToAbort t) e owed done q = let same : Abort t ≡ e = cc in ap (λ (y : Event). says y 0) same

module _ (j : Judgement) (d : Desk) (st : DeskStands j d) (ok : j.answer ≡ Accepted) (i : ℕ) (owes : 0 < outstanding j.tables j.state i) where
  owes_nothing : j.tables.sagas ≤ i → outstanding j.tables j.state i ≡ 0
  unfolding outstanding
  owes_nothing h = rw (le-ltb i (min j.tables.sagas most_sagas) (omega arith))

  listed : i < j.tables.sagas
  listed = lt-or i j.tables.sagas (λ l. l) (λ h. absurd (omega (arith, owes, owes_nothing h)))

  -- demand 3, at the desk's state
  closes : Closes j.tables i j.state j.state
  unfolding all_foreign
  closes =
      let es = st.led_to.0 in
      let led = st.led_to.1 in
      let there = (demand3 j.tables st.well i listed).closes es [] refl (subst (λ (s : State). 0 < outstanding j.tables s i) led owes) in
      subst⁻¹ (λ (s : State). Closes j.tables i s s) led
      (subst (λ (s : State). Closes j.tables i (reached j.tables es) s) (run_none j.tables (reached j.tables es)) there)

  named-is : next_named j i ≡ says closes.event 0
  unfolding saga_numbers
  named-is =
      rw (lt-ltb i (saga_count j.tables) (omega (arith, listed, st.well.listed)))
      (by-step j.edition (closing j.tables j.state i) closes.event (outstanding j.tables j.state i) (one (settled j.tables j.state i)) closes.named)

  asked_is : asked_by j (says closes.event 0) ≡ 0
  unfolding asked_by
  asked_is = ap (λ (v : Verdict). asked_after v j (says closes.event 0)) ok ∙ ap verdict_number closes.accepted

  taken_is : taken_by j (says closes.event 0) ≡ then_by Accepted j (judged j.tables j.state closes.event).state 0
  unfolding taken_by
  taken_is =
      ap (λ (v : Verdict). taken_after v j (says closes.event 0)) ok
      ∙ ap (λ (v : Verdict). then_by v j (judged j.tables j.state closes.event).state 0) closes.accepted

  taken : NextTaken j i
  taken =
      record {
        accepted = ap (asked_by j) named-is ∙ asked_is;
        less = ap (λ (x : Judgement). outstanding x.tables x.state i + 1) (ap (taken_by j) named-is ∙ taken_is) ∙ closes.lowers;
      }

pub next-accepted : NextAccepted
next-accepted = taken
