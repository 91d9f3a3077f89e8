use Rattle.desk.proofs.QuestionLaws.{phase-known, phase-none}
use Rattle.desk.proofs.phase.Goals as goal

pub returns-then-is_known : goal.returns-then-is_known
returns-then-is_known c =
    λ j ops ws steps counts st.
    let a = c.args in
    phase-known j a.sheet.now a.transactions.now ops ws steps counts st a.t _ c.sort_at-sort.ensures _
    c.is_known.ensures c.if-is_known.true _ c.phase_at-phase.ensures _ c.phase_number.ensures

pub returns : goal.returns
returns c =
    λ j ops ws steps counts st.
    let a = c.args in
    phase-none j a.sheet.now a.transactions.now ops ws steps counts st a.t _ c.sort_at-sort.ensures _
    c.is_known.ensures c.if-is_known.false
