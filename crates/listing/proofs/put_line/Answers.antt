use mathlib.Core.Path.{ap, ◌∙◌}
use mathlib.Core.List.{List}
use Prim.Native.Nat.{ℕ}
use native.Mathlib.Omega.{arith}
use Rattle.listing.specs.Lines.{placed}
use Rattle.listing.specs.Texts.{put_answer, put_room}
use Rattle.listing.proofs.ListingLaws.{place_none, place-there}
use Rattle.listing.proofs.put_line.Goals as goal

pub returns-then-lines-k : goal.returns-then-lines-k
returns-then-lines-k c =
    let a = c.args in
    place_none a.judgement a.k a.room.now (omega (arith, c.line_count-lines.ensures, c.if-lines-k.true))

pub returns : goal.returns
returns c =
    let a = c.args in
    let room = a.room.now in
    let p = c.put in
    let l = c.line-text in
    let there = place-there a.judgement a.k room (omega (arith, c.line_count-lines.ensures, c.if-lines-k.false)) in (
      c.ok_or.ensures.value ∙ ap placed (p.ensures.0 ∙ ap (λ (x : List ℕ). put_answer x room) l.ensures) ∙ there.0,
      p.ensures.1 ∙ ap (λ (x : List ℕ). put_room x room) l.ensures ∙ there.1,
    )
