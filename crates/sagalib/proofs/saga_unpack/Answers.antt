use Rattle.sagalib.proofs.NumberLaws.{unpack-is}
use Rattle.sagalib.proofs.saga_unpack.Goals as goal

pub returns : goal.returns
returns c =
    let a = c.args in
    let read = c.read_to_first_refusal-read in
    let unpack = c.unpack-outcome in (
      unpack-is a.book.now read.result read.ensures a.room.now unpack.result unpack.ensures.0 c.outcome_numbers-numbers.result
          c.outcome_numbers-numbers.ensures,
      unpack.ensures.1,
    )
