use Rattle.std.proofs.Common.{arith, ◌∙◌}
use Rattle.plan.proofs.TextLaws.{begins-short, begins-other, begins-same}
use Rattle.plan.proofs.begins_with.Goals as goal
use Rattle.plan.proofs.begins_with.Goals.{then-line-n-via-then-line-n, then-line-n-via-else-line-n+then-ne}

pub returns-then-line-n : goal.returns-then-line-n
returns-then-line-n c =
    let word = c.args.word.now in
    let line = c.args.line.now in
    elim c.then-line-n.branch [
      | then-line-n-via-then-line-n w ↦ begins-short word line (omega (arith, w.if-line-n.true))
      | then-line-n-via-else-line-n+then-ne w ↦ begins-other word line (omega (arith, w.if-line-n.false)) w.ne.ensures w.if-ne.true
    ]

pub returns : goal.returns
returns c = c.is_blank.ensures ∙ begins-same c.args.word.now c.args.line.now (omega (arith, c.if-line-n.false)) c.ne.ensures c.if-ne.false
