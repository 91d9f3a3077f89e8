use mathlib.Core.Path.{◌∙◌, ap, sym}
use Rattle.number.specs.declared.Edition.{Edition}
use Rattle.listing.specs.Texts.{text_of, with_all}
use Rattle.listing.specs.Lines.{record_words}
use Rattle.listing.proofs.TextLaws.{all_none, then}
use Rattle.listing.proofs.Text.beside.Goals as goal

pub returns-in-First : goal.returns-in-First
returns-in-First c =
    let a = c.args in
    sym (all_none (text_of a.self)) ∙ ap (λ (ed : Edition). with_all (text_of a.self) (record_words ed a.pupil)) (sym c.in-First.is)

pub returns-in-Second : goal.returns-in-Second
returns-in-Second c =
    let a = c.args in
    then _ _ _ c.blank.ensures c.number.ensures
    ∙ ap (λ (ed : Edition). with_all (text_of a.self) (record_words ed a.pupil)) (sym c.in-Second.is)
