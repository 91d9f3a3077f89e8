use Rattle.desk.proofs.StandLaws.{opened}
use Rattle.desk.proofs.open_on.Goals as goal

pub returns : goal.returns
returns c =
    let a = c.args in
    let read = c.judged-read in
    let said = c.sheet_of-said in
    let phases = c.put_transactions in
    let made = c.put_operations in
    let left = c.left_of-left in
    let number = c.number-ended in
    let named = c.number-edition in
    opened a.way a.book.now read.result read.ensures said.result phases.new.transactions made.new.ops said.ensures phases.ensures
    made.ensures
    left.result left.ensures number.result number.ensures named.result named.ensures
