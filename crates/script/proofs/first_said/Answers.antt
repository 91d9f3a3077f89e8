use Rattle.script.proofs.RowLaws.{first-kept, first_next, first-none, kept-takes, kept-passed, few-first}
use Rattle.script.specs.declared.Line.{Line}
use Rattle.script.specs.Scripts.{line_in, one_says}
use native.Mathlib.Omega.{arith}
use mathlib.Core.Path.{◌≡◌, refl, sym, ap, ◌∙◌}
use mathlib.Core.List.{List, ◌∷◌}
use Prim.Native.Nat.{ℕ, ◌+◌, ◌-◌, ◌≤◌}
use lib.ListN.{length, take, drop}
use Rattle.plan.specs.Lines.{lines_of}
use Rattle.plan.proofs.EntryLaws.{end-within}
use Rattle.script.specs.Scripts.{first_says}
use Rattle.script.proofs.RowLaws.{rows_are, all-few, few, every, line-more, no_lines}
use Rattle.script.proofs.first_said.Goals.{After-line_end-end}
use Rattle.script.proofs.first_said.Goals as goal

-- a row lies inside the table
inside-at : (c : After-line_end-end) → (c.loop-at.at ≤ c.line_end-end.result) × (c.line_end-end.result ≤ length c.args.rows.now)
inside-at c =
    end-within c.args.rows.now c.loop-at.at c.line_end-end.result c.line_end-end.ensures (omega arith)

-- and what is left of the table begins with it
split-at : (c : After-line_end-end) → lines_of (drop c.loop-at.at c.args.rows.now) ≡ take (c.line_end-end.result - c.loop-at.at) (drop c.loop-at.at c.args.rows.now) ∷ lines_of (drop (c.line_end-end.result + 1) c.args.rows.now)
split-at c =
    line-more c.args.rows.now c.loop-at.at c.line_end-end.result c.line_end-end.ensures (omega arith)

pub loop-at-init : goal.loop-at-init
loop-at-init c =
    let a = c.args in
    let e = rows_are a.rows.now c.requires.0 in
    (refl, refl, c.requires.1, sym (ap (every few) e) ∙ all-few, ap (λ (l : List (List ℕ)). first_says l a.letter a.line.now (take a.from a.room.now)) e)

pub slice_bounds-one_says-count : goal.slice_bounds-one_says-count
slice_bounds-one_says-count c =
    let inside = inside-at (goal.at.slice_bounds-one_says-count c).After-line_end-end in
    inside.0

pub slice_bounds-one_says-start : goal.slice_bounds-one_says-start
slice_bounds-one_says-start c =
    let inside = inside-at (goal.at.slice_bounds-one_says-start c).After-line_end-end in
    inside.0

pub slice_bounds-one_says-end : goal.slice_bounds-one_says-end
slice_bounds-one_says-end c =
    let inside = inside-at (goal.at.slice_bounds-one_says-end c).After-line_end-end in
    inside.1

pub one_says-one-requires : goal.one_says-one-requires
one_says-one-requires c =
    let split = split-at (goal.at.one_says-one-requires c).After-line_end-end in
    omega (arith, (few-first _ _ _ split c.loop-at.invariant.3).0, c.loop-at.invariant.2)

pub returns-in-Takes : goal.returns-in-Takes
returns-in-Takes c =
    let split = split-at (goal.at.returns-in-Takes c).After-line_end-end in
    let a = c.args in
    let l = c.loop-at in
    let s = a.line.now in
    let form = take (c.line_end-end.result - l.at) (drop l.at a.rows.now) in
    let was = ap (one_says form a.letter s) l.invariant.1 in record {
      room_after = sym (l.invariant.4 ∙ first-kept form _ _ a.letter s (take a.from a.room.now) split _ (c.one_says-one.ensures.room_after ∙ was) (kept-takes _ _ _ _ c.in-Takes.is));
      room_unchanged = c.one_says-one.ensures.room_unchanged ∙ l.invariant.1;
    }

pub returns-in-Passed : goal.returns-in-Passed
returns-in-Passed c =
    let split = split-at (goal.at.returns-in-Passed c).After-line_end-end in
    let a = c.args in
    let l = c.loop-at in
    let s = a.line.now in
    let form = take (c.line_end-end.result - l.at) (drop l.at a.rows.now) in
    let was = ap (one_says form a.letter s) l.invariant.1 in record {
      room_after = sym (l.invariant.4 ∙ first-kept form _ _ a.letter s (take a.from a.room.now) split _ (c.one_says-one.ensures.room_after ∙ was) (kept-passed _ _ c.in-Passed.is));
      room_unchanged = c.one_says-one.ensures.room_unchanged ∙ l.invariant.1;
    }

pub overflow_add-at : goal.overflow_add-at
overflow_add-at c =
    let inside = inside-at (goal.at.overflow_add-at c).After-line_end-end in
    omega arith

pub loop-at-smaller : goal.loop-at-smaller
loop-at-smaller c =
    let inside = inside-at (goal.at.loop-at-smaller c).After-line_end-end in
    omega arith

pub loop-at-preserved : goal.loop-at-preserved
loop-at-preserved c =
    let split = split-at (goal.at.loop-at-preserved c).After-line_end-end in
    let a = c.args in
    let l = c.loop-at in
    let s = a.line.now in
    let form = take (c.line_end-end.result - l.at) (drop l.at a.rows.now) in
    let exit = c.one_says-one.new.room in
    let was = ap (one_says form a.letter s) l.invariant.1 in
    let none = sym (ap (λ (r : Line). line_in r exit) c.in-Unclear.is) ∙ c.one_says-one.ensures.room_after ∙ was in (
      c.one_says-one.auto.room ∙ l.invariant.0,
      c.one_says-one.ensures.room_unchanged ∙ l.invariant.1,
      omega (arith, l.invariant.2, c.one_says-one.auto.room),
      (few-first form _ _ split l.invariant.3).1,
      l.invariant.4 ∙ first_next form _ _ a.letter s (take a.from a.room.now) split none,
    )

pub returns : goal.returns
returns c =
    let a = c.args in
    let l = c.loop-at in record {
      room_after = sym (l.invariant.4 ∙ ap (λ (x : List (List ℕ)). first_says x a.letter a.line.now (take a.from a.room.now)) (no_lines a.rows.now l.at (omega arith)) ∙ first-none _ _ _);
      room_unchanged = l.invariant.1;
    }
