use mathlib.Core.Path.{sym, ap, ◌∙◌}
use mathlib.Core.List.{List}
use lib.ListN.{length}
use Rattle.onward.specs.Onward.{fitting, listed_in}
use Rattle.onward.specs.declared.No.{No}
use Rattle.sagalib.proofs.NumberLaws.{none_refused, refused-on}
use Rattle.sagalib.proofs.saga_refused.Goals as goal

pub returns-then-reads_on : goal.returns-then-reads_on
returns-then-reads_on c =
    let a = c.args in
    let list = a.list.now in
    let circles = c.circles_in-circles in
    let fill = c.fill_refused in
    let all = refused-on a.way a.book.now circles.result circles.ensures (sym c.reads_on.ensures ∙ c.if-reads_on.true) in
    (fill.ensures.0 ∙ ap (λ (l : List No). length (fitting a.skip (length list) l)) all, fill.ensures.1 ∙ ap (λ (l : List No). listed_in list (fitting a.skip (length list) l)) all)

pub returns : goal.returns
returns c =
    let a = c.args in
    none_refused a.way a.book.now (sym c.reads_on.ensures ∙ c.if-reads_on.false) a.skip a.list.now
