use native.Mathlib.Omega.{arith}
use mathlib.Core.Path.{refl, sym, ap, ap₂, ◌∙◌}
use mathlib.Core.Bool.{Bool, not, ◌&&◌}
use Rattle.rules.specs.States.{is_committed}
use Rattle.closing.specs.Closing.{next_undo}
use Rattle.laws.proofs.StepLaws.{down-hit, down-miss, down-end}
use Rattle.closing.proofs.next_undo.Goals as goal

pub loop-i-init : goal.loop-i-init
loop-i-init g c = refl

pub returns-then-is_committed : goal.returns-then-is_committed
unfolding next_undo
returns-then-is_committed g c =
    let told = ap₂ (λ (a b : Bool). a && not b) (c.is_committed.ensures ∙ ap is_committed c.own-step.ensures) (c.is_committed-in-loop-i.ensures ∙ ap is_committed c.own-undo.ensures) in
    sym (down-hit _ _ _ c.loop-i.invariant told c.if-is_committed.true (omega arith))

pub loop-i-preserved : goal.loop-i-preserved
loop-i-preserved g c =
    let told = ap₂ (λ (a b : Bool). a && not b) (c.is_committed.ensures ∙ ap is_committed c.own-step.ensures) (c.is_committed-in-loop-i.ensures ∙ ap is_committed c.own-undo.ensures) in
    down-miss _ _ _ c.loop-i.invariant told c.if-is_committed.false (omega arith)

pub returns : goal.returns
unfolding next_undo
returns g c = sym (down-end _ _ _ c.loop-i.invariant (omega arith))
