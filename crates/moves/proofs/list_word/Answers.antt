use Rattle.moves.proofs.SaidLaws.{word_back, word_moved, word-open}
use Rattle.moves.proofs.list_word.Goals as goal

pub returns-then-saga_committed : goal.returns-then-saga_committed
returns-then-saga_committed c = let a = c.args in word_moved a.tables a.state a.i c.saga_committed.result c.saga_committed.ensures c.if-saga_committed.true

pub returns-then-settled : goal.returns-then-settled
returns-then-settled c = let a = c.args in word_back a.tables a.state a.i c.saga_committed.result c.saga_committed.ensures c.settled.result c.settled.ensures c.if-saga_committed.false c.if-settled.true

pub returns : goal.returns
returns c = let a = c.args in word-open a.tables a.state a.i c.saga_committed.result c.saga_committed.ensures c.settled.result c.settled.ensures c.if-saga_committed.false c.if-settled.false
