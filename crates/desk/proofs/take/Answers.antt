use mathlib.Core.Path.{◌≡◌, ap, ◌∙◌, subst}
use mathlib.Core.List.{List}
use Prim.Native.Nat.{ℕ}
use Rattle.std.specs.Prelude.{Err}
use Rattle.terms.specs.Refusals.{number_of}
use Rattle.terms.specs.declared.Verdict.TheVariants.{Accepted}
use Rattle.onward.specs.declared.Judgement.{Judgement}
use Rattle.desk.specs.Desk.{DeskStands, Named, desk_of, named_by}
use Rattle.desk.specs.declared.Unnamed.{Unnamed}
use Rattle.desk.proofs.StandLaws.{closed-asked, closed-taken, ended_is, named-is, open-asked, open-taken, passes, still_open}
use Rattle.desk.proofs.take.Goals.{After-named_by-taken}
use Rattle.desk.proofs.take.Goals as goal

abbrev unnamed : Unnamed → Named
unnamed why = Err why

-- the desk stood before the event
abbrev Stood : After-named_by-taken → Judgement → List ℕ → Type 0
Stood c j steps = let a = c.args in DeskStands j (desk_of a.sheet.now a.transactions.now a.ops.now a.records.now steps a.counts.now)

-- its reading was not ended
open-at : (c : After-named_by-taken) (j : Judgement) (steps : List ℕ) → Stood c j steps → j.answer ≡ Accepted
open-at c j steps st =
    let a = c.args in
    still_open j _ (ended_is j a.sheet.now a.transactions.now a.ops.now a.records.now steps a.counts.now st) c.if-ended-ne0.false

-- and the code says the same in the edition of the reading
named-at : (c : After-named_by-taken) (j : Judgement) (steps : List ℕ) → Stood c j steps → named_by j.edition c.args.code c.args.a c.args.b c.args.c c.args.d ≡ c.named_by-taken.result
named-at c j steps st =
    let a = c.args in
    named-is j a.sheet.now a.transactions.now a.ops.now a.records.now steps a.counts.now st a.code a.a a.b a.c a.d _ c.edition_in-edition.ensures _ c.named_by-taken.ensures

pub returns-then-ended-ne0 : goal.returns-then-ended-ne0
returns-then-ended-ne0 c =
    λ j steps st.
    let a = c.args in
    let ended = ended_is j a.sheet.now a.transactions.now a.ops.now a.records.now steps a.counts.now st in
    let d = desk_of a.sheet.now a.transactions.now a.ops.now a.records.now steps a.counts.now in
    (closed-asked j _ ended c.if-ended-ne0.true _, subst (λ (x : Judgement). DeskStands x d) (closed-taken j _ ended c.if-ended-ne0.true _) st)

pub returns-in-Ok : goal.returns-in-Ok
returns-in-Ok c =
    λ j steps st.
    let a = c.args in
    let t = c.take_event in
    let is = open-at (goal.at.returns-in-Ok c).After-named_by-taken j steps st in
    let said = named-at (goal.at.returns-in-Ok c).After-named_by-taken j steps st ∙ c.in-Ok.is in
    let e = t.ensures j steps st in
    let d = desk_of a.sheet.now t.new.transactions t.new.ops t.new.records steps t.new.counts in
    (e.0 ∙ open-asked j is _ _ said, subst (λ (x : Judgement). DeskStands x d) (open-taken j is _ _ said) e.1)

pub returns-in-NoCode : goal.returns-in-NoCode
returns-in-NoCode c =
    λ j steps st.
    let a = c.args in
    let is = open-at (goal.at.returns-in-NoCode c).After-named_by-taken j steps st in
    let said = named-at (goal.at.returns-in-NoCode c).After-named_by-taken j steps st ∙ c.in-Err.is in
    let none = said ∙ ap unnamed c.in-NoCode.is in
    let d = desk_of a.sheet.now a.transactions.now a.ops.now a.records.now steps a.counts.now in (
      c.number-number.ensures ∙ ap number_of c.refusal-refusal.ensures ∙ open-asked j is _ _ said,
      subst (λ (x : Judgement). DeskStands x d) (open-taken j is _ _ none) st,
    )

pub returns-in-NoNumber : goal.returns-in-NoNumber
returns-in-NoNumber c =
    λ j steps st.
    let a = c.args in
    let is = open-at (goal.at.returns-in-NoNumber c).After-named_by-taken j steps st in
    let said = named-at (goal.at.returns-in-NoNumber c).After-named_by-taken j steps st ∙ c.in-Err.is in
    let none = said ∙ ap unnamed c.in-NoNumber.is in
    let d = desk_of a.sheet.now a.transactions.now a.ops.now a.records.now steps a.counts.now in (
      c.number-number.ensures ∙ ap number_of c.refusal-refusal.ensures ∙ open-asked j is _ _ said,
      subst (λ (x : Judgement). DeskStands x d) (open-taken j is _ _ none) st,
    )

pub returns-in-NoMark : goal.returns-in-NoMark
returns-in-NoMark c =
    λ j steps st.
    let a = c.args in
    let is = open-at (goal.at.returns-in-NoMark c).After-named_by-taken j steps st in
    let said = named-at (goal.at.returns-in-NoMark c).After-named_by-taken j steps st ∙ c.in-Err.is in
    let none = said ∙ ap unnamed c.in-NoMark.is in
    let over = passes j a.sheet.now a.transactions.now a.ops.now a.records.now steps a.counts.now st _
    c.more-passed.ensures _ c.put_counts.ensures in
    let d = desk_of a.sheet.now a.transactions.now a.ops.now a.records.now steps c.put_counts.new.counts in (
      c.number-number.ensures ∙ ap number_of c.refusal-refusal.ensures ∙ open-asked j is _ _ said,
      subst (λ (x : Judgement). DeskStands x d) (open-taken j is _ _ none) over,
    )
