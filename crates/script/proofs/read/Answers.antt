use Rattle.script.proofs.ReadLaws.{told-as}
use lib.Seq.{length-take-le}
use Rattle.script.specs.Scripts.{line_says, line_in}
use Rattle.script.specs.Stages.{letter_of}
use native.Mathlib.Omega.{arith}
use mathlib.Core.Path.{◌≡◌, refl, sym, ap, ◌∙◌}
use Prim.Native.Nat.{ℕ, ◌+◌, ◌-◌, ◌≤◌}
use lib.ListN.{length, take, drop}
use Rattle.script.proofs.ReadLaws.{told-first, told-end, told-unclear, told-passed, told_more, told-takes, script-small, script-room}
use Rattle.plan.proofs.EntryLaws.{end-within}
use Rattle.script.proofs.read.Goals.{After-letter-letter, After-line_says-line, in-Takes+else-most-m, in-Passed}
use Rattle.script.proofs.read.Goals as goal

-- a line lies inside the text
inside-at : (c : After-letter-letter) → (c.loop-at.at ≤ c.line_end-end.result) × (c.line_end-end.result ≤ length c.args.text.now)
inside-at c =
    end-within c.args.text.now c.loop-at.at c.line_end-end.result c.line_end-end.ensures (omega arith)

-- and says what it says at the stage that is due
said-at : (c : After-line_says-line) → line_in c.line_says-line.result c.line_says-line.new.room ≡ line_says (letter_of c.loop-at.due.stage c.loop-at.due.edition) (take (c.line_end-end.result - c.loop-at.at) (drop c.loop-at.at c.args.text.now)) (take c.loop-at.n c.loop-at.room)
said-at c =
    c.line_says-line.ensures.room_after
    ∙ ap (λ (k : ℕ). line_says k (take (c.line_end-end.result - c.loop-at.at) (drop c.loop-at.at c.args.text.now)) (take c.loop-at.n c.loop-at.room)) c.letter-letter.ensures

pub returns-then-room-lt-FIELDS : goal.returns-then-room-lt-FIELDS
returns-then-room-lt-FIELDS c = script-small _ _ _ (omega arith)

pub returns-then-room-most : goal.returns-then-room-most
returns-then-room-most c = script-small _ _ _ (omega arith)

pub loop-at-init : goal.loop-at-init
loop-at-init c = let a = c.args in (omega arith, told-as a.text.now a.most (length a.room.now) a.room.now 1 0 c.first-due.ensures refl (told-first a.text.now a.room.now a.most (omega arith)))

pub slice_bounds-line_says-count : goal.slice_bounds-line_says-count
slice_bounds-line_says-count c =
    let inside = inside-at (goal.at.slice_bounds-line_says-count c).After-letter-letter in
    inside.0

pub slice_bounds-line_says-start : goal.slice_bounds-line_says-start
slice_bounds-line_says-start c =
    let inside = inside-at (goal.at.slice_bounds-line_says-start c).After-letter-letter in
    inside.0

pub slice_bounds-line_says-end : goal.slice_bounds-line_says-end
slice_bounds-line_says-end c =
    let inside = inside-at (goal.at.slice_bounds-line_says-end c).After-letter-letter in
    inside.1

pub returns-then-most-m : goal.returns-then-most-m
returns-then-most-m c =
    let inside = inside-at (goal.at.returns-then-most-m c).After-letter-letter in
    let said = said-at (goal.at.returns-then-most-m c).After-line_says-line in
    let a = c.args in
    let l = c.loop-at in
    sym (told_more a.text.now a.most (length a.room.now) l.room l.due l.n l.number l.at l.invariant.1
    c.line_end-end.result c.line_end-end.ensures (omega arith) inside.1 _ c.line_says-line.ensures.room_unchanged c.line_says-line.auto.room c.line_says-line.result said
    c.in-Takes.m c.in-Takes.loose c.in-Takes.is (omega arith))
    ∙ script-room a.most (length a.room.now) a.text.now l.invariant.0

pub slice_bounds-field-end : goal.slice_bounds-field-end
slice_bounds-field-end c = let k = c.line_says-line.auto.room in omega (arith, k, c.loop-at.invariant.0, c.loop-at.invariant.1.3)

pub slice_bounds-field-end-in-Takes : goal.slice_bounds-field-end-in-Takes
slice_bounds-field-end-in-Takes c = let k = c.line_says-line.auto.room in sym (length-take-le _ _ (omega (arith, k, c.loop-at.invariant.0, c.loop-at.invariant.1.3)))

pub returns-in-Unclear : goal.returns-in-Unclear
returns-in-Unclear c =
    let inside = inside-at (goal.at.returns-in-Unclear c).After-letter-letter in
    let said = said-at (goal.at.returns-in-Unclear c).After-line_says-line in
    let a = c.args in
    let l = c.loop-at in
    sym (told-unclear a.text.now a.most (length a.room.now) l.room l.due l.n l.number l.at l.invariant.1
    c.line_end-end.result c.line_end-end.ensures (omega arith) inside.1 _ c.line_says-line.ensures.room_unchanged c.line_says-line.auto.room c.line_says-line.result said c.in-Unclear.is)
    ∙ script-room a.most (length a.room.now) a.text.now l.invariant.0

pub overflow_add-at : goal.overflow_add-at
overflow_add-at c =
    let inside = inside-at (goal.at.overflow_add-at c).After-letter-letter in
    omega arith

pub loop-at-smaller : goal.loop-at-smaller
loop-at-smaller c =
    let inside = inside-at (goal.at.loop-at-smaller c).After-letter-letter in
    omega arith

pub loop-at-preserved : goal.loop-at-preserved
loop-at-preserved c =
    let inside = inside-at (goal.at.loop-at-preserved c).After-letter-letter in
    let said = said-at (goal.at.loop-at-preserved c).After-line_says-line in
    let a = c.args in
    let l = c.loop-at in (
      l.invariant.0,
      elim c.match-line.branch [
        | in-Takes+else-most-m w ↦ told-as a.text.now a.most (length a.room.now) _ (l.number + 1) (c.line_end-end.result + 1) (w.due-is ∙ w.after-due.ensures) w.n-is
            (told-takes a.text.now a.most (length a.room.now) l.room l.due l.n l.number l.at l.invariant.1
            c.line_end-end.result c.line_end-end.ensures (omega arith) inside.1 _ c.line_says-line.ensures.room_unchanged c.line_says-line.auto.room c.line_says-line.result said
            w.in-Takes.m w.in-Takes.loose w.in-Takes.is (omega (arith, w.if-most-m.false)) w.field-first.result w.field-first.ensures)
        | in-Passed w ↦ told-as a.text.now a.most (length a.room.now) _ (l.number + 1) (c.line_end-end.result + 1) w.due-is w.n-is
            (told-passed a.text.now a.most (length a.room.now) l.room l.due l.n l.number l.at l.invariant.1
            c.line_end-end.result c.line_end-end.ensures (omega arith) inside.1 _ c.line_says-line.ensures.room_unchanged c.line_says-line.auto.room c.line_says-line.result said
            w.in-Passed.is)
      ],
    )

pub returns : goal.returns
returns c =
    let a = c.args in
    let l = c.loop-at in
    sym (told-end a.text.now a.most (length a.room.now) l.room l.due l.n l.number l.at l.invariant.1 (omega arith))
    ∙ script-room a.most (length a.room.now) a.text.now l.invariant.0
