use mathlib.Core.Path.{◌∙◌, ap, sym}
use Rattle.listing.specs.Texts.{text_of, with_all}
use Rattle.moves.proofs.SaidLaws.{then}
use Rattle.moves.specs.Lines.{part_letters}
use Rattle.moves.specs.declared.Part.{Part}
use Rattle.moves.proofs.with_part.Goals as goal

pub returns-in-OfStep : goal.returns-in-OfStep
returns-in-OfStep c = let a = c.args in then _ _ _ c.word-in-OfStep.ensures c.with_step.ensures ∙ ap (λ (x : Part). with_all (text_of a.text) (part_letters a.plan.names.now a.plan.ends.now a.plan.steps.now a.i x)) (sym c.in-OfStep.is)

pub returns-in-OfUndo : goal.returns-in-OfUndo
returns-in-OfUndo c = let a = c.args in then _ _ _ c.word-in-OfUndo.ensures c.with_step-in-OfUndo.ensures ∙ ap (λ (x : Part). with_all (text_of a.text) (part_letters a.plan.names.now a.plan.ends.now a.plan.steps.now a.i x)) (sym c.in-OfUndo.is)
