use native.Mathlib.Omega.{arith}
use mathlib.Core.Path.{ap, ◌∙◌}
use Rattle.ties.specs.Operations.{given_to}
use Rattle.rows.proofs.given_at.Goals as goal

pub returns-then-q-lt-MOST : goal.returns-then-q-lt-MOST
returns-then-q-lt-MOST c = λ h. c.given_to.ensures ∙ ap (given_to c.args.receiver) c.op_in-op.ensures

pub returns : goal.returns
returns c = λ h. absurd (omega arith)
