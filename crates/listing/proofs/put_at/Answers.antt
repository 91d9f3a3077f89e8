use borrow.Author.Rules.{rules}
use native.Mathlib.Omega.{arith}
use Prim.Native.Nat.{ℕ, ◌+◌, ◌-◌}
use mathlib.Core.Path.{◌≡◌, refl, sym, ap, ◌∙◌}
use mathlib.Core.List.{List, ◌++◌}
use borrow.Rule.Slice.PartMut.{put_mid}
use lib.ListN.{length, take, drop, length-drop, length-take}
use Rattle.listing.specs.Texts.{text_of}
use Rattle.listing.proofs.PieceLaws.{part-is}
use Rattle.listing.proofs.TextLaws.{text-front, text-length}
use Rattle.listing.proofs.put_at.Goals as goal

pub returns-then-room-end : goal.returns-then-room-end
returns-then-room-end c = (ap (c.args.at +◌) c.size-n.ensures, λ fits. absurd (omega arith))

pub copy-requires : goal.copy-requires
copy-requires c =
    let a = c.args in
    let room = a.room.now in
    let all : length a.text.bytes ≡ 104 = search rules in (
      omega (arith, text-length a.text all, c.size-n.ensures),
      omega (arith, length-take (length room - a.at) (drop a.at room), length-drop a.at room),
    )

pub returns : goal.returns
returns c =
    let a = c.args in
    let room = a.room.now in
    let size = c.size-n in
    let n = size.result in
    let all : length a.text.bytes ≡ 104 = search rules in (
      ap (a.at +◌) size.ensures,
      λ fits.
          ap (put_mid a.at (length room - a.at) room)
          (c.copy.ensures ∙ ap (λ (y : List ℕ). y ++ drop n (take (length room - a.at) (drop a.at room))) (text-front a.text n all size.ensures))
          ∙ part-is room (text_of a.text) a.at n (sym size.ensures) fits _ refl,
    )
