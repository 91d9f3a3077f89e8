use Rattle.sagalib.proofs.NumberLaws.{read_is}
use Rattle.sagalib.proofs.saga_read.Goals as goal

pub returns : goal.returns
returns c =
    let read = c.judged-read in
    read_is c.args.way c.args.book.now read.result read.ensures c.number-number.result c.number-number.ensures
