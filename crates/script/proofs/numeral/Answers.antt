use Rattle.script.proofs.ByteLaws.{figure-low}
use Rattle.script.proofs.ByteLaws.{figure-none, figure-some, figures-none, figures-stop, figures-large, figures-more}
use Rattle.plan.proofs.TextLaws.{drop-whole}
use Rattle.script.specs.Forms.{is_figure, speaks}
use native.Mathlib.Omega.{arith}
use Prim.Native.Nat.{ℕ}
use lib.ListN.{length, get_or, drop}
use mathlib.Core.Bool.{true}
use mathlib.Core.Path.{◌≡◌, sym, ap, ◌∙◌}
use Rattle.script.proofs.numeral.Goals as goal

pub returns-then-not-figure_first : goal.returns-then-not-figure_first
returns-then-not-figure_first c = sym (figure-none c.args.line.now (sym c.figure_first.ensures ∙ c.if-not-figure_first.true))

pub loop-i-init : goal.loop-i-init
loop-i-init c = (omega arith, figure-some c.args.line.now (sym c.figure_first.ensures ∙ c.if-not-figure_first.false))

pub returns-then-not-is_figure : goal.returns-then-not-is_figure
returns-then-not-is_figure c = ap (speaks c.loop-i.v) (drop-whole c.args.line.now c.loop-i.i) ∙ sym (c.loop-i.invariant.1 ∙ figures-stop c.args.line.now c.loop-i.i c.loop-i.v (omega arith) (sym c.is_figure.ensures ∙ c.if-not-is_figure.true))

pub overflow_sub-figure : goal.overflow_sub-figure
overflow_sub-figure c =
    let figure : is_figure (get_or c.args.line.now c.loop-i.i 0) ≡ true =
    sym c.is_figure.ensures ∙ c.if-not-is_figure.false in
    (figure-low _ figure).0

pub overflow_cast-figure : goal.overflow_cast-figure
overflow_cast-figure c =
    let figure : is_figure (get_or c.args.line.now c.loop-i.i 0) ≡ true =
    sym c.is_figure.ensures ∙ c.if-not-is_figure.false in
    let f = figure-low (get_or c.args.line.now c.loop-i.i 0) figure in
    omega arith

pub overflow_add-more : goal.overflow_add-more
overflow_add-more c =
    let figure : is_figure (get_or c.args.line.now c.loop-i.i 0) ≡ true =
    sym c.is_figure.ensures ∙ c.if-not-is_figure.false in
    let f = figure-low (get_or c.args.line.now c.loop-i.i 0) figure in
    omega arith

pub returns-then-more-gt-LARGEST : goal.returns-then-more-gt-LARGEST
returns-then-more-gt-LARGEST c =
    let figure : is_figure (get_or c.args.line.now c.loop-i.i 0) ≡ true =
    sym c.is_figure.ensures ∙ c.if-not-is_figure.false in
    sym (c.loop-i.invariant.1 ∙ figures-large c.args.line.now c.loop-i.i c.loop-i.v (omega arith) figure (omega arith))

pub loop-i-preserved : goal.loop-i-preserved
loop-i-preserved c =
    let figure : is_figure (get_or c.args.line.now c.loop-i.i 0) ≡ true =
    sym c.is_figure.ensures ∙ c.if-not-is_figure.false in
    (omega arith, c.loop-i.invariant.1 ∙ figures-more c.args.line.now c.loop-i.i c.loop-i.v (omega arith) figure (omega arith))

pub returns : goal.returns
returns c =
    let s = c.args.line.now in
    let l = c.loop-i in
    let whole : l.i ≡ length s = omega arith in
    ap (speaks l.v) (drop-whole s (length s)) ∙ sym (l.invariant.1 ∙ figures-none s l.i l.v (omega arith) ∙ ap (λ (k : ℕ). speaks l.v (drop k s)) whole)
