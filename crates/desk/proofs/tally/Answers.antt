use Rattle.desk.proofs.QuestionLaws.{tally-is}
use Rattle.desk.proofs.tally.Goals as goal

pub returns : goal.returns
returns c =
    λ j sheet ops ws st.
    let a = c.args in
    tally-is j sheet a.transactions.now ops ws a.steps.now a.counts.now st _
    c.outline-tables.ensures _ _ _ _ _ _ _
    c.saga_count-sagas.ensures
    c.transaction_count-all.ensures
    c.size-operations.ensures c.transactions_of-stand.ensures
    c.active_set-set.ensures c.how_many-active.ensures
    c.lowest-lowest.ensures
