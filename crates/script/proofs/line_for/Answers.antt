use Rattle.script.proofs.RowLaws.{shown-as}
use Rattle.script.proofs.RowLaws.{line-some}
use native.Mathlib.Omega.{arith}
use mathlib.Core.Path.{◌≡◌, sym, ap, ap₂, ◌∙◌}
use mathlib.Core.Bool.{Bool, ◌&&◌}
use mathlib.Core.List.{List, ◌∷◌}
use Prim.Native.Nat.{ℕ, ◌+◌, ◌-◌, ◌≤◌}
use lib.ListN.{length, take, drop}
use Rattle.plan.specs.Lines.{lines_of}
use Rattle.plan.proofs.EntryLaws.{end-within}
use Rattle.script.specs.Forms.{forms, form_for}
use Rattle.script.proofs.RowLaws.{rows_are, rows-some, line-more, no_lines, form-last, form-own, form-other}
use Rattle.script.proofs.line_for.Goals.{After-line_end-end}
use Rattle.script.proofs.line_for.Goals as goal

-- the row of a turn
abbrev row : List ℕ → ℕ → ℕ → List ℕ
row rows at end = take (end - at) (drop at rows)

-- a row lies inside the table
inside-at : (c : After-line_end-end) → (c.loop-form.at ≤ c.line_end-end.result) × (c.line_end-end.result ≤ length c.args.rows.now)
inside-at c =
    end-within c.args.rows.now c.loop-form.at c.line_end-end.result c.line_end-end.ensures (omega arith)

-- and the form is looked for among it and those behind it
split-at : (c : After-line_end-end) → form_for forms c.args.letter c.args.fields.now ≡ form_for (row c.args.rows.now c.loop-form.at c.line_end-end.result ∷ lines_of (drop (c.line_end-end.result + 1) c.args.rows.now)) c.args.letter c.args.fields.now
split-at c =
    c.loop-form.invariant.1 ∙ ap (λ (l : List (List ℕ)). form_for l c.args.letter c.args.fields.now) (line-more c.args.rows.now c.loop-form.at c.line_end-end.result c.line_end-end.ensures (omega arith))

pub loop-form-init : goal.loop-form-init
loop-form-init c = let a = c.args in (rows-some a.rows.now c.requires, ap (λ (l : List (List ℕ)). form_for l a.letter a.fields.now) (rows_are a.rows.now c.requires))

pub slice_bounds-form-count : goal.slice_bounds-form-count
slice_bounds-form-count c =
    let inside = inside-at (goal.at.slice_bounds-form-count c).After-line_end-end in
    inside.0

pub slice_bounds-form-start : goal.slice_bounds-form-start
slice_bounds-form-start c =
    let inside = inside-at (goal.at.slice_bounds-form-start c).After-line_end-end in
    inside.0

pub slice_bounds-form-end : goal.slice_bounds-form-end
slice_bounds-form-end c =
    let inside = inside-at (goal.at.slice_bounds-form-end c).After-line_end-end in
    inside.1

pub overflow_add-next : goal.overflow_add-next
overflow_add-next c =
    let inside = inside-at (goal.at.overflow_add-next c).After-line_end-end in
    omega arith

pub returns-then-rows-next : goal.returns-then-rows-next
returns-then-rows-next c =
    let split = split-at (goal.at.returns-then-rows-next c).After-line_end-end in
    let a = c.args in
    shown-as (row c.args.rows.now c.loop-form.at c.line_end-end.result) _ a.fields.now c.shown_by.result (split ∙ form-last a.letter a.fields.now (row c.args.rows.now c.loop-form.at c.line_end-end.result) _ (no_lines a.rows.now (c.line_end-end.result + 1) (omega arith))) c.shown_by.ensures

pub returns-then-allows-fits : goal.returns-then-allows-fits
returns-then-allows-fits c =
    let split = split-at (goal.at.returns-then-allows-fits c).After-line_end-end in
    let a = c.args in
    let tests = ap₂ (λ (u v : Bool). u && v) (sym c.allows.ensures) (sym c.fits.ensures) in
    shown-as (row c.args.rows.now c.loop-form.at c.line_end-end.result) _ a.fields.now c.shown_by-then-allows-fits.result
    (split ∙ form-own a.letter a.fields.now (row c.args.rows.now c.loop-form.at c.line_end-end.result) _ _ _ (line-some a.rows.now (c.line_end-end.result + 1) (omega arith)) (tests ∙ c.if-allows-fits.true))
    c.shown_by-then-allows-fits.ensures

pub loop-form-smaller : goal.loop-form-smaller
loop-form-smaller c =
    let inside = inside-at (goal.at.loop-form-smaller c).After-line_end-end in
    omega arith

pub loop-form-preserved : goal.loop-form-preserved
loop-form-preserved c =
    let split = split-at (goal.at.loop-form-preserved c).After-line_end-end in
    let a = c.args in
    let tests = ap₂ (λ (u v : Bool). u && v) (sym c.allows.ensures) (sym c.fits.ensures) in
    (omega arith, split ∙ form-other a.letter a.fields.now (row c.args.rows.now c.loop-form.at c.line_end-end.result) _ _ _ (line-some a.rows.now (c.line_end-end.result + 1) (omega arith)) (tests ∙ c.if-allows-fits.false))
