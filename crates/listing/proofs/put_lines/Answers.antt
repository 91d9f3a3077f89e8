use native.Mathlib.Omega.{arith}
use Prim.Native.Nat.{ℕ, ◌-◌}
use mathlib.Core.Path.{◌≡◌, ap, subst}
use mathlib.Core.List.{List, ◌++◌}
use lib.ListN.{length}
use Rattle.onward.specs.Rooms.{Lays}
use Rattle.onward.proofs.RoomLaws.{Laying, laying-last, laying-more, laying-next, laying-same, laying-start}
use Rattle.onward.specs.declared.Judgement.{Judgement}
use Rattle.onward.specs.declared.No.{No}
use Rattle.listing.specs.Lines.{line_count, line_of, lines_from, listed, listing_of, no_lines}
use Rattle.listing.proofs.StepLaws.{parts}
use Rattle.listing.proofs.WholeLaws.{listed-short}
use Rattle.listing.proofs.put_lines.Goals as goal

-- nothing was laid yet; then the first line; then those of refused events
at_first : (r : Judgement) (nos : List No) (room : List ℕ)
    → Laying 0 (listing_of r nos) room 0 (line_of r 0 ++ (no_lines nos ++ lines_from r 1 (line_count r - 1))) room
at_first r nos room = laying-same (laying-start 0 (listing_of r nos) room) (parts r nos)

behind-first : (r : Judgement) (nos : List No) (room after line : List ℕ) (end : ℕ) → line ≡ line_of r 0 → Lays 0 line room end after → length after ≡ length room
    → Laying 0 (listing_of r nos) room end (no_lines nos ++ lines_from r 1 (line_count r - 1)) after
behind-first r nos room after line end same lays long =
    laying-more (line_of r 0) _ end after (at_first r nos room) (subst (λ (t : List ℕ). Lays 0 t room end after) same lays) long

pub put_at-behind_first-requires : goal.put_at-behind_first-requires
put_at-behind_first-requires c =
    let a = c.args in
    let r = a.judgement in
    let next = laying-next (line_of r 0) _ (at_first r (listed r a.circles a.book.now) a.room.now) in
    omega (arith, next, listed-short r a.circles a.book.now, ap length c.line-first.ensures)

pub put_no_lines-behind_no-requires : goal.put_no_lines-behind_no-requires
put_no_lines-behind_no-requires c =
    let a = c.args in
    let r = a.judgement in
    let nos = listed r a.circles a.book.now in
    let p = c.put_at-behind_first in
    let next = laying-next (no_lines nos) _ (behind-first r nos a.room.now p.new.room _ p.result c.line-first.ensures p.ensures p.auto.room) in
    omega (arith, next, listed-short r a.circles a.book.now)

pub put_later_lines-requires : goal.put_later_lines-requires
put_later_lines-requires c =
    let a = c.args in
    let r = a.judgement in
    let nos = listed r a.circles a.book.now in
    let p = c.put_at-behind_first in
    let q = c.put_no_lines-behind_no in
    let first = behind-first r nos a.room.now p.new.room _ p.result c.line-first.ensures p.ensures p.auto.room in
    let more = laying-more (no_lines nos) _ q.result q.new.room first q.ensures q.auto.room in
    omega (arith, more.ends, listed-short r a.circles a.book.now)

pub returns : goal.returns
returns c =
    let a = c.args in
    let r = a.judgement in
    let nos = listed r a.circles a.book.now in
    let p = c.put_at-behind_first in
    let q = c.put_no_lines-behind_no in
    let l = c.put_later_lines in
    let first = behind-first r nos a.room.now p.new.room _ p.result c.line-first.ensures p.ensures p.auto.room in
    let more = laying-more (no_lines nos) _ q.result q.new.room first q.ensures q.auto.room in
    laying-last _ l.result l.new.room more l.ensures l.auto.room
