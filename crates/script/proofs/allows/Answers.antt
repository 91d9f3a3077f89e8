use native.Mathlib.Omega.{arith}
use Rattle.script.proofs.ByteLaws.{allows-short, allows-long}
use Rattle.script.proofs.allows.Goals as goal

pub returns-then-form-lt2 : goal.returns-then-form-lt2
returns-then-form-lt2 c = allows-short c.args.form.now c.args.letter (omega arith)

pub returns : goal.returns
returns c = allows-long c.args.form.now c.args.letter (omega arith)
