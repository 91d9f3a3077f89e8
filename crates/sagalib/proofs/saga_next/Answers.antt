use Rattle.sagalib.proofs.NumberLaws.{next-is}
use Rattle.sagalib.proofs.saga_next.Goals as goal

pub returns : goal.returns
returns c =
    let a = c.args in
    let read = c.judged-read in
    next-is a.way a.book.now read.result read.ensures a.saga c.saga_of-numbers.result c.saga_of-numbers.ensures
