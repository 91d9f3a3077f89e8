use Rattle.std.proofs.Common.{length, arith}
use Rattle.laws.proofs.Decisions.{lt-or}
use Rattle.plan.proofs.TextLaws.{length-stop, length_more, length-end}
use Rattle.plan.proofs.line_end.Goals as goal

pub returns-then-text-end-eq10 : goal.returns-then-text-end-eq10
returns-then-text-end-eq10 c = let e = length-stop c.args.text.now c.loop-end.end (omega arith) c.if-text-end-eq10.true in omega (arith, e, c.loop-end.invariant)

pub loop-end-preserved : goal.loop-end-preserved
loop-end-preserved c = let e = length_more c.args.text.now c.loop-end.end (omega arith) c.if-text-end-eq10.false in omega (arith, e, c.loop-end.invariant)

-- a place past the end is the end of its line
pub returns : goal.returns
returns c =
    let text = c.args.text.now in
    let l = c.loop-end in
    lt-or c.args.at (length text)
    (λ h. let e = length-end text l.end (omega arith) in omega (arith, e, l.invariant, l.auto.end-end (omega arith), c.max.ensures))
    (λ h. let e = length-end text c.args.at (omega arith) in omega (arith, e, c.max.ensures))
