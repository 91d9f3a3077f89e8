use Rattle.desk.specs.Desk.{desk_of}
use Rattle.sagalib.proofs.NumberLaws.{line_is}
use Rattle.sagalib.proofs.saga_lent_line.Goals as goal

pub returns : goal.returns
returns c =
    λ j sheet st.
    let a = c.args in
    let d = desk_of sheet a.transactions.now a.ops.now a.records.now a.steps.now a.counts.now in
    let put = c.line-placed.ensures j sheet st in
    let outcome = c.line_outcome-outcome in
    (line_is j d st a.k a.room.now _ put.0 outcome.result outcome.ensures _ c.outcome_numbers-numbers.ensures, put.1)
