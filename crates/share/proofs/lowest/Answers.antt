use native.Mathlib.Omega.{arith}
use Rattle.share.proofs.DivisorLaws.{divisor-positive, lowest-none, lowest-some}
use Rattle.share.proofs.lowest.Goals as goal

pub returns-then-whole-eq0 : goal.returns-then-whole-eq0
returns-then-whole-eq0 c = lowest-none c.args.part c.args.whole c.if-whole-eq0.true

pub nonzero_div-result : goal.nonzero_div-result
nonzero_div-result c = omega (arith, divisor-positive c.args.part c.args.whole (omega arith), c.common_divisor-divisor.ensures)

pub nonzero_div-result-2 : goal.nonzero_div-result-2
nonzero_div-result-2 c = omega (arith, divisor-positive c.args.part c.args.whole (omega arith), c.common_divisor-divisor.ensures)

pub returns : goal.returns
returns c = lowest-some c.args.part c.args.whole _ (omega arith) c.common_divisor-divisor.ensures
