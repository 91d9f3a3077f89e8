use mathlib.Core.Path.{sym, ◌∙◌}
use Rattle.desk.proofs.WayLaws.{judged-on, judged-to}
use Rattle.desk.proofs.judged.Goals as goal

pub returns-then-reads_on : goal.returns-then-reads_on
returns-then-reads_on c =
    let a = c.args in
    let circles = c.circles_in-circles in
    c.read_by.ensures ∙ judged-on a.way a.book.now circles.result circles.ensures
    (sym c.reads_on.ensures ∙ c.if-reads_on.true)

pub returns : goal.returns
returns c =
    let a = c.args in
    let circles = c.circles_in-circles in
    c.read_up_to.ensures
    ∙ judged-to a.way a.book.now circles.result circles.ensures
    (sym c.reads_on.ensures ∙ c.if-reads_on.false)
