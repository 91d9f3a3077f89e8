use Prim.Native.Nat.{ℕ}
use Rattle.closing.specs.declared.NextStep.{NextStep}
use Rattle.listing.specs.Words.{decimal}
use Rattle.listing.specs.Lines.{step_words}
use mathlib.Core.Path.{◌∙◌, ap}
use Rattle.listing.specs.Texts.{text_of, with_all}
use Rattle.listing.proofs.TextLaws.{first, then}
use Rattle.listing.proofs.saga_line.Goals as goal

pub returns : goal.returns
returns c =
    let owed = c.number-2.ensures ∙ ap (λ (n : ℕ). with_all (text_of c.blank.result) (decimal n)) c.outstanding-owed.ensures in
    let step = c.step.ensures ∙ ap (λ (x : NextStep). with_all (text_of c.blank-2.result) (step_words x)) c.closing-step.ensures in
    first _ c.empty.ensures
    (then _ _ _ c.word.ensures
    (then _ _ _ c.number.ensures
    (then _ _ _ c.blank.ensures
    (then _ _ _ owed
    (then _ _ _ c.blank-2.ensures
    (then _ _ _ step
    c.end.ensures))))))
