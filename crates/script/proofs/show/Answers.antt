use Rattle.script.proofs.ShowLaws.{says-few}
use borrow.Rule.Slice.PartMut.{same_len_mid}
use Rattle.script.specs.Scripts.{form_due}
use Rattle.script.specs.Stages.{letter_of}
use Rattle.script.specs.Forms.{shown, count_of, allows, loose_letter}
use Rattle.listing.specs.Texts.{text_of}
use Rattle.listing.specs.Words.{line_feed}
use Rattle.plan.proofs.TextLaws.{drop-whole}
use Rattle.script.proofs.ShowLaws.{laid-first, laid_end, laid_none, laid-fits, laid_more, line-shown, says-one, Small, small-drop}
use native.Mathlib.Omega.{arith}
use mathlib.Core.Path.{◌≡◌, sym, ◌∙◌}
use mathlib.Core.List.{◌++◌}
use Prim.Native.Nat.{◌-◌}
use lib.ListN.{length, take, drop}
use Rattle.script.proofs.show.Goals.{After-put}
use Rattle.script.proofs.show.Goals as goal

-- the line that is put is that of the fields which are left
line-at : (c : After-put) → (text_of c.first_line-line.result.text ≡ shown (form_due c.loop-at.due (drop c.loop-at.at c.args.fields.now)) (drop c.loop-at.at c.args.fields.now) ++ line_feed) × ((c.first_line-line.result.fields ≡ count_of (form_due c.loop-at.due (drop c.loop-at.at c.args.fields.now))) × (c.first_line-line.result.loose ≡ allows (form_due c.loop-at.due (drop c.loop-at.at c.args.fields.now)) loose_letter))
line-at c =
    let fs = c.args.fields.now in
    let small : Small fs = λ i. omega (arith, c.type_inv.fields i) in
    line-shown c.letter-letter.result (letter_of c.loop-at.due.stage c.loop-at.due.edition) (take (length fs - c.loop-at.at) (drop c.loop-at.at fs)) (drop c.loop-at.at fs) c.first_line-line.result
    c.letter-letter.ensures (drop-whole fs c.loop-at.at) (small-drop fs c.loop-at.at small) c.first_line-line.ensures

pub loop-at-init : goal.loop-at-init
loop-at-init c = laid-first c.args.fields.now c.args.room.now c.first-due.result c.first-due.ensures

pub slice_bounds-put-count : goal.slice_bounds-put-count
slice_bounds-put-count c = c.loop-at.invariant.2

pub slice_bounds-put-start : goal.slice_bounds-put-start
slice_bounds-put-start c = c.loop-at.invariant.2

pub slice_bounds-put-end : goal.slice_bounds-put-end
slice_bounds-put-end c = omega arith

pub returns-in_err-more : goal.returns-in_err-more
returns-in_err-more c =
    let line = line-at (goal.at.returns-in_err-more c).After-put in
    let l = c.loop-at in
    rw c.from_residual.ensures
    (laid_none c.args.fields.now (length c.args.room.now) l.room l.due l.n l.at l.invariant (omega arith) (text_of c.first_line-line.result.text) line.0
    (sym c.in_err-more.was ∙ c.put.ensures.0))

pub overflow_add-n : goal.overflow_add-n
overflow_add-n c =
    let line = line-at (goal.at.overflow_add-n c).After-put in
    let l = c.loop-at in
    let fits = laid-fits c.args.fields.now (length c.args.room.now) l.room l.due l.n l.at l.invariant (omega arith) (text_of c.first_line-line.result.text) line.0
    c.put.new.room c.in_ok-more.more
    (sym c.in_ok-more.was ∙ c.put.ensures.0) c.put.ensures.1 (same_len_mid l.n (length l.room - l.n) l.room c.put.new.room c.put.auto.room) in
    omega (arith, fits)

pub overflow_cast-fields : goal.overflow_cast-fields
overflow_cast-fields c = omega (arith, c.type_inv.fields c.loop-at.at)

pub overflow_add-at : goal.overflow_add-at
overflow_add-at c =
    let line = line-at (goal.at.overflow_add-at c).After-put in
    let l = c.loop-at in
    omega (arith, line.1.0, says-few (letter_of l.due.stage l.due.edition) (drop l.at c.args.fields.now))

pub loop-at-smaller : goal.loop-at-smaller
loop-at-smaller c =
    let line = line-at (goal.at.loop-at-smaller c).After-put in
    let l = c.loop-at in
    omega (arith, line.1.0, says-one (letter_of l.due.stage l.due.edition) (drop l.at c.args.fields.now))

pub loop-at-preserved : goal.loop-at-preserved
loop-at-preserved c =
    let line = line-at (goal.at.loop-at-preserved c).After-put in
    let l = c.loop-at in
    laid_more c.args.fields.now (length c.args.room.now) l.room l.due l.n l.at l.invariant (omega arith) (text_of c.first_line-line.result.text) line.0
    c.put.new.room c.in_ok-more.more
    (sym c.in_ok-more.was ∙ c.put.ensures.0) c.put.ensures.1 (same_len_mid l.n (length l.room - l.n) l.room c.put.new.room c.put.auto.room)
    c.after-due.result c.first_line-line.result.fields c.first_line-line.result.loose line.1.0 line.1.1 c.after-due.ensures

pub returns : goal.returns
returns c = laid_end c.args.fields.now (length c.args.room.now) c.loop-at.room c.loop-at.due c.loop-at.n c.loop-at.at c.loop-at.invariant (omega arith)
