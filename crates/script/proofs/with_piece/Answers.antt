use mathlib.Core.Path.{sym, ap, ◌∙◌}
use Rattle.listing.specs.Texts.{text_of, with_all}
use Rattle.script.proofs.ByteLaws.{piece-as}
use Rattle.listing.proofs.TextLaws.{all_none, all_one}
use Rattle.script.proofs.with_piece.Goals as goal

pub returns-in-Fixed : goal.returns-in-Fixed
returns-in-Fixed c = sym (all_none _) ∙ ap (with_all (text_of c.args.text)) (piece-as _ _ _ c.sign_of-sign.ensures c.in-Fixed.is _)

pub returns-in-Number : goal.returns-in-Number
returns-in-Number c = c.number.ensures ∙ ap (with_all (text_of c.args.text)) (piece-as _ _ _ c.sign_of-sign.ensures c.in-Number.is _)

pub returns-in-Blank : goal.returns-in-Blank
returns-in-Blank c = c.byte.ensures ∙ sym (all_one _ _) ∙ ap (with_all (text_of c.args.text)) (piece-as _ _ _ c.sign_of-sign.ensures c.in-Blank.is c.args.v)

pub returns-in-Letter : goal.returns-in-Letter
returns-in-Letter c = c.byte-in-Letter.ensures ∙ sym (all_one _ _) ∙ ap (with_all (text_of c.args.text)) (piece-as _ _ _ c.sign_of-sign.ensures c.in-Letter.is c.args.v)

pub returns-in-Nothing : goal.returns-in-Nothing
returns-in-Nothing c = sym (all_none _) ∙ ap (with_all (text_of c.args.text)) (piece-as _ _ _ c.sign_of-sign.ensures c.in-Nothing.is c.args.v)
