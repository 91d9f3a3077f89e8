use native.Mathlib.Omega.{arith}
use mathlib.Core.Path.{refl, sym, ap, ◌∙◌}
use Rattle.rules.specs.States.{is_active}
use Rattle.closing.specs.Closing.{active_step}
use Rattle.laws.proofs.StepLaws.{down-hit, down-miss, down-end}
use Rattle.closing.proofs.active_step.Goals as goal

pub loop-i-init : goal.loop-i-init
loop-i-init g c = refl

pub returns-then-is_active : goal.returns-then-is_active
unfolding active_step
returns-then-is_active g c = sym (down-hit _ _ _ c.loop-i.invariant (c.is_active.ensures ∙ ap is_active c.own-step.ensures) c.if-is_active.true (omega arith))

pub loop-i-preserved : goal.loop-i-preserved
loop-i-preserved g c = down-miss _ _ _ c.loop-i.invariant (c.is_active.ensures ∙ ap is_active c.own-step.ensures) c.if-is_active.false (omega arith)

pub returns : goal.returns
unfolding active_step
returns g c = sym (down-end _ _ _ c.loop-i.invariant (omega arith))
