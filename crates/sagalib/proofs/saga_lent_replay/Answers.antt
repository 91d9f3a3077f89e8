use Rattle.desk.specs.Desk.{desk_of}
use Rattle.sagalib.proofs.NumberLaws.{order_is}
use Rattle.sagalib.proofs.saga_lent_replay.Goals as goal

pub returns : goal.returns
returns c =
    λ j sheet transactions ws steps st.
    let a = c.args in
    let d = desk_of sheet transactions a.ops.now ws steps a.counts.now in
    let put = c.replay-copied.ensures j sheet transactions ws steps st in
    let outcome = c.put_outcome-outcome in
    (order_is j d st a.list.now _ put.0 outcome.result outcome.ensures _ c.outcome_numbers-numbers.ensures, put.1)
