use Rattle.std.proofs.Common.{◌≡◌, ℕ, ◌+◌, ◌-◌, take, refl, sym, ap, ◌∙◌, arith}
use lib.Seq.{take-length}
use Rattle.plan.specs.Lines.{up_to_blanks}
use Rattle.plan.proofs.TextLaws.{up_more, up-stop, up_none}
use Rattle.plan.proofs.up_to_blanks.Goals as goal

pub loop-last-init : goal.loop-last-init
loop-last-init c = ap up_to_blanks (sym (take-length c.args.line.now))

pub returns-then-not-is_blank : goal.returns-then-not-is_blank
returns-then-not-is_blank c =
    let line = c.args.line.now in
    let l = c.loop-last in
    let other = sym c.is_blank.ensures ∙ c.if-not-is_blank.true in
    let whole : l.last - 1 + 1 ≡ l.last = omega arith in
    ap (λ (n : ℕ). take n line) whole ∙ sym (l.invariant ∙ up-stop line l.last (l.last - 1) (omega arith) (omega (arith, l.auto.last)) other)

pub loop-last-preserved : goal.loop-last-preserved
loop-last-preserved c =
    let line = c.args.line.now in
    let l = c.loop-last in
    let blank = sym c.is_blank.ensures ∙ c.if-not-is_blank.false in
    l.invariant ∙ up_more line l.last (l.last - 1) (omega arith) (omega (arith, l.auto.last)) blank

pub returns : goal.returns
returns c =
    let l = c.loop-last in
    let line = c.args.line.now in
    let none : ◌≡◌ {A = ℕ} l.last 0 = omega arith in
    sym (l.invariant ∙ ap (λ (n : ℕ). up_to_blanks (take n line)) none ∙ up_none line 0 refl)
