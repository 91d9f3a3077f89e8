use Prim.Native.Nat.{ℕ}
use mathlib.Core.Path.{ap, ◌∙◌}
use mathlib.Core.List.{List}
use Rattle.onward.specs.Onward.{judgement_up_to}
use Rattle.onward.specs.declared.Judgement.{Judgement}
use Rattle.listing.specs.Lines.{listed, listing_of}
use Rattle.listing.specs.Texts.{put_answer, put_room}
use Rattle.listing.proofs.put_listing_to_first_refusal.Goals as goal

pub returns : goal.returns
unfolding judgement_up_to
returns c =
    let a = c.args in
    let room = a.room.now in
    let p = c.put_whole in
    let all = ap (λ (r : Judgement). listing_of r (listed r a.circles a.book.now)) c.read_up_to-judgement.ensures in
    (p.ensures.0 ∙ ap (λ (l : List ℕ). put_answer l room) all, p.ensures.1 ∙ ap (λ (l : List ℕ). put_room l room) all)
