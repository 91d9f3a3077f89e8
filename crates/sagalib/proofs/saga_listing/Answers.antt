use Prim.Native.Nat.{ℕ}
use mathlib.Core.Path.{ap, ◌∙◌}
use mathlib.Core.List.{List}
use Rattle.onward.specs.declared.Judgement.{Judgement}
use Rattle.listing.specs.Lines.{listed, listing_of}
use Rattle.listing.specs.Texts.{put_answer, put_room}
use Rattle.sagalib.proofs.NumberLaws.{listing-is, listing-told}
use Rattle.sagalib.proofs.saga_listing.Goals as goal

pub returns : goal.returns
returns c =
    let a = c.args in
    let circles = c.circles_in-circles in
    let read = c.judged-read in
    let put = c.put_whole-put in
    let outcome = c.put_outcome-outcome in
    let all =
    ap (λ (r : Judgement). listing_of r (listed r circles.result a.book.now)) read.ensures
    ∙ listing-told a.way a.book.now circles.result circles.ensures in (
      listing-is a.way a.book.now read.result read.ensures a.room.now put.result (put.ensures.0 ∙ ap (λ (l : List ℕ). put_answer l a.room.now) all) outcome.result outcome.ensures
          c.outcome_numbers-numbers.result c.outcome_numbers-numbers.ensures,
      put.ensures.1 ∙ ap (λ (l : List ℕ). put_room l a.room.now) all,
    )
