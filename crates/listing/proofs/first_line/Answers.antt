use Prim.Native.Nat.{ℕ}
use mathlib.Core.List.{[]}
use Rattle.terms.specs.declared.Verdict.{Verdict}
use Rattle.listing.specs.Words.{decimal}
use Rattle.listing.specs.Lines.{first_line_by}
use mathlib.Core.Path.{◌∙◌, ap, sym}
use Rattle.listing.specs.Texts.{text_of, with_all}
use Rattle.listing.proofs.TextLaws.{first, then}
use Rattle.listing.proofs.first_line.Goals as goal

pub returns-in-Accepted : goal.returns-in-Accepted
returns-in-Accepted c =
    let a = c.args in
    first _ c.empty-text.ensures
    (then _ _ _ c.word.ensures
    (then _ _ _ c.number.ensures
    c.end.ensures))
    ∙ ap (λ (x : Verdict). with_all [] (first_line_by x a.events a.place)) (sym c.in-Accepted.is)

pub returns-in-Refused : goal.returns-in-Refused
returns-in-Refused c =
    let a = c.args in
    let number = c.number-in-Refused.ensures ∙ ap (λ (n : ℕ). with_all (text_of c.word-in-Refused.result) (decimal n)) c.number-n.ensures in
    first _ c.empty-text.ensures
    (then _ _ _ c.word-in-Refused.ensures
    (then _ _ _ number
    (then _ _ _ c.blank.ensures
    (then _ _ _ c.number-in-Refused-2.ensures
    (then _ _ _ c.blank-in-Refused.ensures
    (then _ _ _ c.number-in-Refused-3.ensures
    c.end-in-Refused.ensures))))))
    ∙ ap (λ (x : Verdict). with_all [] (first_line_by x a.events a.place)) (sym c.in-Refused.is)
