use native.Mathlib.Omega.{arith}
use borrow.Author.Tests.{le-leb}
use Prim.Native.Nat.{ℕ}
use mathlib.Core.Path.{sym, ap}
use lib.Dec.{leb}
use lib.ListN.{length}
use Rattle.listing.specs.Lines.{listed, listing_of}
use Rattle.listing.proofs.WholeLaws.{listed-short}
use Rattle.listing.proofs.holds.Goals as goal

pub returns-then-room-ge-MOST : goal.returns-then-room-ge-MOST
returns-then-room-ge-MOST c =
    let a = c.args in
    let short = listed-short a.judgement a.circles a.book.now in
    sym (le-leb (length (listing_of a.judgement (listed a.judgement a.circles a.book.now))) a.room (omega (arith, short)))

pub returns : goal.returns
returns c = ap (λ (k : ℕ). leb k c.args.room) c.listing_size-size.ensures
