use mathlib.Core.Path.{◌∙◌, ap}
use Rattle.listing.specs.Texts.{text_of, with_all}
use Rattle.moves.proofs.SaidLaws.{step-numbered, then}
use Rattle.moves.proofs.with_step.Goals as goal

pub returns-then-planned-k : goal.returns-then-planned-k
returns-then-planned-k c = let a = c.args in then _ _ _ c.word.ensures c.number.ensures ∙ ap (with_all (text_of a.text)) (step-numbered a.plan.names.now a.plan.ends.now a.plan.steps.now a.i a.k c.planned.result c.planned.ensures c.if-planned-k.true)
