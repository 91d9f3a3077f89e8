use mathlib.Core.Path.{◌∙◌, ap, sym}
use mathlib.Core.List.{[]}
use Rattle.listing.specs.Texts.{with_all}
use Rattle.listing.proofs.ListingLaws.{line_first, line-later, line-whole}
use Rattle.listing.proofs.line.Goals as goal

pub returns-then-k-eq0 : goal.returns-then-k-eq0
returns-then-k-eq0 c =
    let a = c.args in
    line-whole a.judgement a.k
    (c.first_line.ensures ∙ ap (with_all []) (sym (line_first a.judgement a.k c.if-k-eq0.true)))

pub returns : goal.returns
returns c =
    let a = c.args in
    line-whole a.judgement a.k
    (c.later_line.ensures ∙ ap (with_all []) (sym (line-later a.judgement a.k c.if-k-eq0.false)))
