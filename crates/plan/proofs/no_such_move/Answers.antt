use Rattle.std.proofs.Common.{rules, tests, leb, length, ◌∙◌}
use Rattle.std.proofs.lemmas.Iterator.{YieldsList-from_slice}
use Rattle.std.proofs.lemmas.Iterator.Search.{any_from_yields_List}
use Rattle.plan.proofs.VerdictLaws.{any_listed}
use Rattle.plan.proofs.no_such_move.Goals as goal

pub returns : goal.returns
returns c =
    let lists = c.args.lists.now in
    let moves = length c.args.steps.now in
    any_from_yields_List (leb moves) _ _ _ c.any.ensures.ran (YieldsList-from_slice lists cc) (λ x b q k. search (rules, tests)) ∙ any_listed (leb moves) lists
