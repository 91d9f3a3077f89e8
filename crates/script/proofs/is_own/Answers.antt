use native.Mathlib.Omega.{arith}
use mathlib.Core.Path.{◌∙◌}
use lib.ListN.{drop}
use Rattle.script.proofs.ByteLaws.{own-as, own-none, own-some, own-number}
use Rattle.script.proofs.is_own.Goals as goal

pub returns-then-fields-n : goal.returns-then-fields-n
returns-then-fields-n c = own-none c.args.fields.now c.args.n _ (omega arith) ∙ own-as _ _ _ c.sign_of-sign.ensures c.in-Fixed.is _

pub returns-else-fields-n : goal.returns-else-fields-n
returns-else-fields-n c = own-some c.args.fields.now c.args.n _ (omega arith) ∙ own-as _ _ _ c.sign_of-sign.ensures c.in-Fixed.is _

pub returns-in-Number : goal.returns-in-Number
returns-in-Number c = own-number c.args.fields.now c.args.n ∙ own-as _ _ _ c.sign_of-sign.ensures c.in-Number.is _

pub returns-in-Blank : goal.returns-in-Blank
returns-in-Blank c = own-as _ _ _ c.sign_of-sign.ensures c.in-Blank.is (drop c.args.n c.args.fields.now)

pub returns-in-Letter : goal.returns-in-Letter
returns-in-Letter c = own-as _ _ _ c.sign_of-sign.ensures c.in-Letter.is (drop c.args.n c.args.fields.now)

pub returns-in-Nothing : goal.returns-in-Nothing
returns-in-Nothing c = own-as _ _ _ c.sign_of-sign.ensures c.in-Nothing.is (drop c.args.n c.args.fields.now)
