use native.Mathlib.Omega.{arith}
use Prim.Native.Nat.{ℕ}
use mathlib.Core.Path.{sym, ap, ◌∙◌}
use mathlib.Core.List.{List}
use lib.ListN.{get_or}
use lib.Seq.{take_all}
use Rattle.listing.specs.Texts.{text_of, with_byte, with_all}
use Rattle.listing.proofs.TextLaws.{all_none, all_more}
use Rattle.listing.proofs.Text.word.Goals as goal

pub loop-b-init : goal.loop-b-init
loop-b-init c = sym (all_none _)

pub loop-b-preserved : goal.loop-b-preserved
loop-b-preserved c =
    let l = c.loop-b in
    let word = c.args.letters.now in
    c.byte-text.ensures
    ∙ ap (λ (t : List ℕ). with_byte t (get_or word l.b-index 0)) l.invariant
    ∙ sym (all_more (text_of c.args.self) word l.b-index (omega arith))

pub returns : goal.returns
returns c =
    let word = c.args.letters.now in
    c.loop-b.invariant
    ∙ ap (with_all (text_of c.args.self)) (take_all c.loop-b.b-index word (omega arith))
