use native.Mathlib.Omega.{arith}
use Rattle.script.proofs.ByteLaws.{sign-number, sign-blank, sign-fixed, sign-letter, sign-low, sign-middle, sign-high}
use Rattle.script.proofs.sign_of.Goals as goal

pub returns-in-35 : goal.returns-in-35
returns-in-35 c = sign-number c.args.b c.in-35.is

pub returns-in-32 : goal.returns-in-32
returns-in-32 c = sign-blank c.args.b c.in-32.is

pub returns-in-48-to-63 : goal.returns-in-48-to-63
returns-in-48-to-63 c = sign-fixed c.args.b (omega arith) (omega arith)

pub returns-in-97-to-122 : goal.returns-in-97-to-122
returns-in-97-to-122 c = sign-letter c.args.b (omega arith) (omega arith)

pub returns-in_default : goal.returns-in_default
returns-in_default c = sign-low c.args.b (λ e. absurd (omega arith)) (λ e. absurd (omega arith)) (omega arith)

pub returns-in_default-2 : goal.returns-in_default-2
returns-in_default-2 c = sign-middle c.args.b (omega arith) (omega arith)

pub returns-in_default-3 : goal.returns-in_default-3
returns-in_default-3 c = sign-high c.args.b (omega arith)
