use mathlib.Core.Path.{ap, ◌∙◌}
use Rattle.terms.specs.Refusals.{number_of, verdict_number}
use Rattle.desk.proofs.StandLaws.{closed-asked, ended_is, named-is, open-asked, ruled-is, still_open}
use Rattle.desk.proofs.ask.Goals as goal

pub returns-then-ended-ne0 : goal.returns-then-ended-ne0
returns-then-ended-ne0 c =
    λ j ws steps st.
    let a = c.args in
    closed-asked j _ (ended_is j a.sheet.now a.transactions.now a.ops.now ws steps a.counts.now st) c.if-ended-ne0.true _

pub returns-in-Ok : goal.returns-in-Ok
returns-in-Ok c =
    λ j ws steps st.
    let a = c.args in
    let is = still_open j _ (ended_is j a.sheet.now a.transactions.now a.ops.now ws steps a.counts.now st)
    c.if-ended-ne0.false in
    c.number.ensures
    ∙ ap verdict_number (ruled-is j a.sheet.now a.transactions.now a.ops.now ws steps a.counts.now st c.in-Ok.event _
    (c.rule-ruled.ensures j.tables st.tables))
    ∙ open-asked j is _ _ (named-is j a.sheet.now a.transactions.now a.ops.now ws steps a.counts.now st a.code a.a a.b a.c
    a.d _ c.edition_in-edition.ensures _ c.named_by-asked.ensures ∙ c.in-Ok.is)

pub returns-in-Err : goal.returns-in-Err
returns-in-Err c =
    λ j ws steps st.
    let a = c.args in
    let is = still_open j _ (ended_is j a.sheet.now a.transactions.now a.ops.now ws steps a.counts.now st)
    c.if-ended-ne0.false in
    c.number-in-Err.ensures
    ∙ ap number_of c.refusal-refusal.ensures
    ∙ open-asked j is _ _ (named-is j a.sheet.now a.transactions.now a.ops.now ws steps a.counts.now st a.code a.a a.b a.c
    a.d _ c.edition_in-edition.ensures _ c.named_by-asked.ensures ∙ c.in-Err.is)
