use Rattle.rules.specs.declared.Phase.{Phase}
use Rattle.listing.specs.Lines.{phase_word}
use mathlib.Core.Path.{◌∙◌, ap}
use Rattle.listing.specs.Texts.{text_of, with_all}
use Rattle.listing.proofs.TextLaws.{first, then}
use Rattle.listing.proofs.transaction_line.Goals as goal

pub returns : goal.returns
returns c =
    let phase = c.phase.ensures ∙ ap (λ (x : Phase). with_all (text_of c.blank.result) (phase_word x)) c.phase_of-phase.ensures in
    first _ c.empty.ensures
    (then _ _ _ c.word.ensures
    (then _ _ _ c.number.ensures
    (then _ _ _ c.blank.ensures
    (then _ _ _ phase
    c.end.ensures))))
