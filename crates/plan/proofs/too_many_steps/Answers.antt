use Rattle.std.proofs.Common.{rules, tests, ltb, ◌∙◌}
use Rattle.std.proofs.lemmas.Iterator.{YieldsList-from_slice}
use Rattle.std.proofs.lemmas.Iterator.Search.{any_from_yields_List}
use Rattle.plan.specs.Verdict.{most_steps}
use Rattle.plan.proofs.VerdictLaws.{any_listed}
use Rattle.plan.proofs.too_many_steps.Goals as goal

pub returns : goal.returns
returns c =
    let steps = c.args.steps.now in
    any_from_yields_List (ltb most_steps) _ _ _ c.any.ensures.ran (YieldsList-from_slice steps cc) (λ x b q k. search (rules, tests)) ∙ any_listed (ltb most_steps) steps
