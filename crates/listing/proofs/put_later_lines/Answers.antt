use native.Mathlib.Omega.{arith}
use Prim.Native.Nat.{ℕ, ◌+◌, ◌-◌}
use mathlib.Core.Path.{◌≡◌, refl, ap, ◌∙◌, subst}
use mathlib.Core.List.{List, ◌++◌}
use lib.ListN.{length}
use Rattle.onward.proofs.RoomLaws.{laying-done, laying-more, laying-next, laying-same, laying-start}
use Rattle.onward.specs.Rooms.{Lays}
use Rattle.listing.specs.Lines.{line_count, line_of, lines_from}
use Rattle.listing.proofs.StepLaws.{lines_end, lines_step, some-line}
use Rattle.listing.proofs.put_later_lines.Goals as goal

pub loop-k-init : goal.loop-k-init
loop-k-init c =
    let a = c.args in
    let r = a.judgement in
    (c.line_count-lines.ensures, refl, laying-start a.at (lines_from r 1 (line_count r - 1)) a.room.now)

pub put_at-end-requires : goal.put_at-end-requires
put_at-end-requires c =
    let one_more : let r = c.args.judgement in let k = c.loop-k.k in lines_from r k (line_count r - k) ≡ line_of r k ++ lines_from r (k + 1) (line_count r - (k + 1)) =
    let l = c.loop-k in lines_step _ l.k _ _ (omega (arith, l.invariant.0)) in
    let l = c.loop-k in
    let next = laying-next (line_of c.args.judgement l.k) _ (laying-same l.invariant.2 one_more) in
    omega (arith, next, c.requires, ap length c.line-text.ensures)

pub loop-k-preserved : goal.loop-k-preserved
loop-k-preserved c =
    let one_more : let r = c.args.judgement in let k = c.loop-k.k in lines_from r k (line_count r - k) ≡ line_of r k ++ lines_from r (k + 1) (line_count r - (k + 1)) =
    let l = c.loop-k in lines_step _ l.k _ _ (omega (arith, l.invariant.0)) in
    let a = c.args in
    let l = c.loop-k in
    let p = c.put_at-end in
    let line = subst (λ (t : List ℕ). Lays l.end t l.room p.result p.new.room) c.line-text.ensures p.ensures in (
      l.invariant.0,
      p.auto.room ∙ l.invariant.1,
      laying-more (line_of a.judgement l.k) _ p.result p.new.room (laying-same l.invariant.2 one_more) line p.auto.room,
    )

pub returns : goal.returns
returns c =
    let l = c.loop-k in
    let r = c.args.judgement in
    laying-done l.invariant.2 (lines_end r l.k _ (omega (arith, l.invariant.0, some-line r)))
