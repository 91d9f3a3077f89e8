use mathlib.Core.Path.{refl}
use Rattle.desk.specs.Desk.{desk_of}
use Rattle.desk.specs.Ways.{judged}
use Rattle.sagalib.proofs.NumberLaws.{opened-is}
use Rattle.sagalib.proofs.saga_lent_open.Goals as goal

pub returns : goal.returns
returns c =
    let a = c.args in
    let o = c.open_on in
    let d = desk_of o.new.sheet o.new.transactions o.new.ops o.new.records o.new.steps o.new.counts in
    (opened-is (judged a.way a.book.now) d o.ensures a.way a.book.now refl, o.ensures)
