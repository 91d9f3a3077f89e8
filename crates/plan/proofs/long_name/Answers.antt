use Rattle.std.proofs.Common.{rules, tests, length, arith, refl, ◌∙◌}
use Rattle.std.proofs.lemmas.Iterator.{YieldsList-from_range}
use Rattle.std.proofs.lemmas.Iterator.Search.{any_from_yields_List}
use Rattle.plan.proofs.VerdictLaws.{any_ranged, is_long}
use Rattle.plan.proofs.long_name.Goals as goal

pub returns : goal.returns
returns c =
    let a = c.args in
    let long = is_long a.names.now a.ends.now in
    let n = length a.ends.now in
    any_from_yields_List long _ _ _ c.any.ensures.ran (YieldsList-from_range 0 n n refl (omega arith)) (λ x b q k. search (rules, tests)) ∙ any_ranged long n
