use Rattle.std.proofs.Common.{◌≡◌, ℕ, ◌-◌, take, drop, arith, ap, ◌∙◌}
use Rattle.plan.proofs.NameLaws.{name-between}
use Rattle.plan.proofs.name.Goals as goal

-- an end before the begin counts as the begin
pub returns : goal.returns
returns c =
    let a = c.args in
    let b = c.name_begin-begin.result in
    let same : c.max.result - b ≡ c.name_end-end.result - b = omega (arith, c.max.ensures) in
    ap (λ (n : ℕ). take n (drop b a.names.now)) same ∙ name-between a.names.now a.ends.now a.k c.name_begin-begin.ensures c.name_end-end.ensures
