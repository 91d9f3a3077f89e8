use Rattle.std.proofs.Common.{◌≡◌, ℕ, ◌+◌, ◌<◌, get_or, take, length, length-take, ap, ◌∙◌, arith}
use Rattle.std.proofs.lemmas.List.{get_or-take}
use Rattle.plan.specs.Names.{index}
use Rattle.plan.proofs.NameLaws.{names-none, move-more}
use Rattle.plan.proofs.move_name.Goals as goal

pub loop-own-init : goal.loop-own-init
loop-own-init c = names-none c.args.steps.now

pub loop-own-preserved : goal.loop-own-preserved
loop-own-preserved c =
    let steps = c.args.steps.now in
    let l = c.loop-own in
    let before = c.min-before.result in
    let inside : l.own-index < length (take before steps) = c.loop-own-test.true in
    let short = length-take before steps in
    let own : get_or (take before steps) l.own-index 0 ≡ get_or steps l.own-index 0 = get_or-take before steps l.own-index 0 (omega (arith, short)) in
    move-more steps l.own-index l.invariant (omega (arith, short)) (c.saturating_add-at.ensures ∙ ap (λ (n : ℕ). index (l.at + (n + 1))) own)
