use mathlib.Core.Path.{ap, ◌∙◌}
use Rattle.report.specs.Report.{report_of}
use Rattle.report.specs.declared.Report.{Report}
use Rattle.desk.proofs.StandLaws.{is_whole, state-is}
use Rattle.desk.proofs.pairs.Goals as goal

pub returns : goal.returns
returns c =
    λ j sheet ws steps st.
    let a = c.args in
    let whole = is_whole j sheet a.transactions.now a.ops.now ws steps a.counts.now st in
    let there = c.state_of-state.ensures whole ∙ state-is j sheet a.transactions.now a.ops.now ws steps a.counts.now st in
    ap (λ (x : Report). x.before) (c.report_of-told.ensures ∙ ap report_of there)
