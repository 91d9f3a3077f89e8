use Prim.Native.Nat.{ℕ}
use mathlib.Core.Path.{ap, ◌∙◌}
use mathlib.Core.List.{List}
use Rattle.tables.specs.Reading.{edition_of}
use Rattle.onward.specs.Onward.{judgement_by}
use Rattle.onward.specs.declared.Judgement.{Judgement}
use Rattle.listing.specs.Lines.{listed, listing_of}
use Rattle.listing.specs.Texts.{put_answer, put_room}
use Rattle.listing.proofs.WholeLaws.{all_listed}
use Rattle.listing.proofs.put_listing.Goals as goal

pub returns : goal.returns
returns c =
    let a = c.args in
    let room = a.room.now in
    let p = c.put_whole in
    let all =
    ap (λ (r : Judgement). listing_of r (listed r a.circles a.book.now)) c.read_by-judgement.ensures
    ∙ ap (listing_of (judgement_by a.circles (edition_of a.book.now) a.book.now)) (all_listed a.circles (edition_of a.book.now) a.book.now) in
    (p.ensures.0 ∙ ap (λ (l : List ℕ). put_answer l room) all, p.ensures.1 ∙ ap (λ (l : List ℕ). put_room l room) all)
