use Rattle.script.proofs.ByteLaws.{takes-as}
use Rattle.script.proofs.takes.Goals as goal

pub returns-in-Fixed : goal.returns-in-Fixed
returns-in-Fixed c = takes-as _ _ _ c.sign_of-sign.ensures c.in-Fixed.is

pub returns-in-Number : goal.returns-in-Number
returns-in-Number c = takes-as _ _ _ c.sign_of-sign.ensures c.in-Number.is

pub returns-in-Blank : goal.returns-in-Blank
returns-in-Blank c = takes-as _ _ _ c.sign_of-sign.ensures c.in-Blank.is

pub returns-in-Letter : goal.returns-in-Letter
returns-in-Letter c = takes-as _ _ _ c.sign_of-sign.ensures c.in-Letter.is

pub returns-in-Nothing : goal.returns-in-Nothing
returns-in-Nothing c = takes-as _ _ _ c.sign_of-sign.ensures c.in-Nothing.is
