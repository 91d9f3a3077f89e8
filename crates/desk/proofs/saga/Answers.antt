use mathlib.Core.Path.{◌∙◌}
use Rattle.desk.proofs.StandLaws.{is_whole}
use Rattle.desk.proofs.QuestionLaws.{saga-is}
use Rattle.desk.proofs.saga.Goals as goal

pub returns : goal.returns
returns c =
    λ j sheet ws st.
    let a = c.args in
    let whole = is_whole j sheet a.transactions.now a.ops.now ws a.steps.now a.counts.now st in
    c.saga_of.ensures
    ∙ saga-is j sheet a.transactions.now a.ops.now ws a.steps.now a.counts.now st _ c.outline-tables.ensures _
    (c.state_of-state.ensures whole) a.index
