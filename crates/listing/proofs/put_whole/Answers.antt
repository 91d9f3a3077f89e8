use native.Mathlib.Omega.{arith}
use borrow.Author.Tests.{leb-false, leb-true}
use mathlib.Core.Path.{sym, ◌∙◌}
use lib.ListN.{length}
use Rattle.listing.specs.Lines.{listed, listing_of}
use Rattle.listing.proofs.TextLaws.{put_small}
use Rattle.listing.proofs.WholeLaws.{laid-put}
use Rattle.listing.proofs.put_whole.Goals as goal

pub returns-then-not-holds : goal.returns-then-not-holds
returns-then-not-holds c =
    let a = c.args in
    let room = a.room.now in
    let all = listing_of a.judgement (listed a.judgement a.circles a.book.now) in
    put_small all room (leb-false (length all) (length room) (sym c.holds.ensures ∙ c.if-not-holds.true))

pub returns : goal.returns
returns c =
    let a = c.args in
    let room = a.room.now in
    let p = c.put_lines-size in
    let all = listing_of a.judgement (listed a.judgement a.circles a.book.now) in
    let fits = leb-true (length all) (length room) (sym c.holds.ensures ∙ c.if-not-holds.false) in
    laid-put all room p.result p.result p.new.room p.ensures.0 (omega (arith, fits, p.ensures.0)) p.ensures
