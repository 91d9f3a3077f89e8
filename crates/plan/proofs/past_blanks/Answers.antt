use Rattle.std.proofs.Common.{◌≡◌, ℕ, length, drop, ap, sym, ◌∙◌, arith}
use Rattle.plan.specs.Lines.{past_blanks}
use Rattle.plan.proofs.TextLaws.{past_more, past_stop, past_end, drop-whole}
use Rattle.plan.proofs.past_blanks.Goals as goal

pub returns-then-not-is_blank : goal.returns-then-not-is_blank
returns-then-not-is_blank c =
    let a = c.args in
    let l = c.loop-i in
    let other = sym c.is_blank.ensures ∙ c.if-not-is_blank.true in
    drop-whole a.line.now l.i ∙ sym (l.invariant ∙ past_stop a.around a.line.now l.i (omega arith) other)

pub loop-i-preserved : goal.loop-i-preserved
loop-i-preserved c =
    let a = c.args in
    let l = c.loop-i in
    let blank = sym c.is_blank.ensures ∙ c.if-not-is_blank.false in
    l.invariant ∙ past_more a.around a.line.now l.i (omega arith) blank

pub returns : goal.returns
returns c =
    let a = c.args in
    let n = length a.line.now in
    let l = c.loop-i in
    let all : ◌≡◌ {A = ℕ} l.i n = omega arith in
    let rest = l.invariant ∙ ap (λ (i : ℕ). past_blanks a.around (drop i a.line.now)) all in
    drop-whole a.line.now n ∙ sym (rest ∙ past_end a.around a.line.now n (omega arith))
