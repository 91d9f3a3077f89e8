use native.Mathlib.Omega.{arith}
use mathlib.Core.Path.{refl, sym, ap, ap₂, ◌∙◌}
use mathlib.Core.Bool.{Bool, not, ◌&&◌}
use Prim.Native.Nat.{ℕ}
use lib.Dec.{eqb, ltb}
use borrow.Author.Tests.{ne_eqb}
use Rattle.rules.specs.States.{is_committed}
use Rattle.laws.proofs.StepLaws.{down-hit, down-miss, down-end}
use Rattle.closing.proofs.all_undone.Goals as goal

pub loop-i-init : goal.loop-i-init
loop-i-init g c = refl

pub returns-then-is_committed-i : goal.returns-then-is_committed-i
returns-then-is_committed-i g c =
    let told =
    ap₂ (λ (a b : Bool). a && not (ltb c.loop-i.i c.args.n && b))
    (c.is_committed.ensures ∙ ap is_committed c.own-step.ensures)
    (c.is_committed-in-loop-i.ensures ∙ ap is_committed c.own-undo.ensures)
    in
    let found = down-hit _ _ _ c.loop-i.invariant told c.if-is_committed-i.true (omega arith) in
    sym (ap (λ (k : ℕ). eqb k 0) found ∙ ne_eqb c.loop-i.i 0 (omega arith))

pub loop-i-preserved : goal.loop-i-preserved
loop-i-preserved g c =
    let told =
    ap₂ (λ (a b : Bool). a && not (ltb c.loop-i.i c.args.n && b))
    (c.is_committed.ensures ∙ ap is_committed c.own-step.ensures)
    (c.is_committed-in-loop-i.ensures ∙ ap is_committed c.own-undo.ensures)
    in
    down-miss _ _ _ c.loop-i.invariant told c.if-is_committed-i.false (omega arith)

pub returns : goal.returns
returns g c = sym (ap (λ (k : ℕ). eqb k 0) (down-end _ _ _ c.loop-i.invariant (omega arith)))
