use native.Mathlib.Omega.{arith}
use Rattle.totals.proofs.FiguresLaws.{one_more, one-too-many}
use Rattle.totals.proofs.add.Goals as goal

pub returns-then-totals-ge-BOOKS : goal.returns-then-totals-ge-BOOKS
returns-then-totals-ge-BOOKS c = let a = c.args in one-too-many a.totals a.book.now c.if-totals-ge-BOOKS.true

pub returns : goal.returns
returns c =
    let a = c.args in
    one_more a.totals a.book.now (omega arith) c.read_to_first_refusal-read.result c.read_to_first_refusal-read.ensures c.with_book-sum.result c.with_book-sum.ensures
