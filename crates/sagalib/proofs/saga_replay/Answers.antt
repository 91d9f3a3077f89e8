use mathlib.Core.Path.{ap, ◌∙◌}
use Rattle.onward.specs.declared.Judgement.{Judgement}
use Rattle.replay.specs.Replay.{order_of, copy_room}
use Rattle.sagalib.proofs.NumberLaws.{replay-is}
use Rattle.sagalib.proofs.saga_replay.Goals as goal

pub returns : goal.returns
returns c =
    let a = c.args in
    let read = c.judged-read in
    let put = c.put_order-copied in
    let outcome = c.put_outcome-outcome in (
      replay-is a.way a.book.now read.result read.ensures a.list.now put.result put.ensures.0 outcome.result outcome.ensures
          c.outcome_numbers-numbers.result c.outcome_numbers-numbers.ensures,
      put.ensures.1 ∙ ap (λ (r : Judgement). copy_room (order_of r.state.ops) a.list.now) read.ensures,
    )
