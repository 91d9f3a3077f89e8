use native.Mathlib.Omega.{arith}
use mathlib.Core.Path.{◌∙◌}
use Rattle.share.proofs.DivisorLaws.{divisor-none, divisor-step}
use Rattle.share.proofs.+common_divisor.Goals as goal

pub returns-then-b-eq0 : goal.returns-then-b-eq0
returns-then-b-eq0 t c = divisor-none c.args.a c.args.b c.if-b-eq0.true

pub returns : goal.returns
returns t c = c.common_divisor.ensures ∙ divisor-step c.args.a c.args.b (omega arith)
