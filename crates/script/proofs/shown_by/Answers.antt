use Rattle.script.proofs.FormLaws.{takes-le, count-more, count_none, shown-more, shown-none}
use Rattle.script.specs.Forms.{piece_of}
use native.Mathlib.Omega.{arith}
use mathlib.Core.Path.{sym, ap, ◌∙◌}
use Prim.Native.Nat.{ℕ, ◌+◌}
use lib.ListN.{get_or, drop}
use mathlib.Core.List.{List, ◌++◌}
use Rattle.listing.specs.Words.{line_feed}
use Rattle.listing.specs.Texts.{text_of, with_all}
use Rattle.script.specs.Forms.{shown}
use Rattle.script.proofs.shown_by.Goals as goal

pub loop-b-init : goal.loop-b-init
loop-b-init c = (omega arith, omega arith, ap (λ (t : List ℕ). with_all t (shown c.args.form.now c.args.fields.now ++ line_feed)) (sym c.empty-text.ensures))

pub overflow_add-n : goal.overflow_add-n
overflow_add-n c = let t = takes-le (get_or c.args.form.now c.loop-b.b-index 0) in omega (arith, c.takes-n.ensures)

pub loop-b-preserved : goal.loop-b-preserved
loop-b-preserved c =
    let form = c.args.form.now in
    let fs = c.args.fields.now in
    let l = c.loop-b in
    let t = takes-le (get_or form l.b-index 0) in
    let n = count-more form fs l.b-index l.n (omega arith) c.takes-n.result c.takes-n.ensures in (
      omega (arith, c.takes-n.ensures),
      omega (arith, l.invariant.1, n),
      l.invariant.2
          ∙ shown-more form fs l.b-index l.n (omega arith) c.takes-n.result (text_of l.text) c.takes-n.ensures
          ∙ ap (λ (u : List ℕ). with_all u (shown (drop (l.b-index + 1) form) (drop (l.n + c.takes-n.result) fs) ++ line_feed))
          (ap (λ (v : ℕ). with_all (text_of l.text) (piece_of (get_or form l.b-index 0) v)) (sym c.field-v.ensures) ∙ sym c.with_piece-text.ensures),
    )

pub returns : goal.returns
returns c =
    let form = c.args.form.now in
    let fs = c.args.fields.now in
    let l = c.loop-b in
    let n = count_none form fs l.b-index l.n (omega arith) in (
      c.end-whole.ensures ∙ sym (l.invariant.2 ∙ ap (λ (u : List ℕ). with_all (text_of l.text) (u ++ line_feed)) (shown-none form fs l.b-index l.n (omega arith))),
      (omega (arith, l.invariant.1, n), c.allows-loose.ensures),
    )
