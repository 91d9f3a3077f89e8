use native.Mathlib.Omega.{arith}
use Prim.Native.Nat.{ℕ}
use mathlib.Core.Path.{sym, ap, ap₂, ◌∙◌}
use mathlib.Core.Bool.{◌&&◌, ◌||◌}
use Rattle.laws.specs.Index.{any_below}
use Rattle.laws.proofs.IndexLaws.{any_none, any-more}
use Rattle.rules.specs.Lent.{transactions_in}
use Rattle.rules.specs.Rules.{active_child, child_active}
use Rattle.rules.specs.States.{is_active, is_under}
use Rattle.rules.proofs.LentLaws.{parent-low, phase-low}
use Rattle.rules.proofs.child_active.Goals as goal

pub loop-c-init : goal.loop-c-init
loop-c-init c = sym (any_none _)

pub loop-c-preserved : goal.loop-c-preserved
loop-c-preserved c =
    let a = c.args in
    let l = c.loop-c in
    let ts = transactions_in a.transactions.now in
    let under = c.is_under.ensures ∙ ap (is_under a.m) (c.parent_in-parent.ensures ∙ sym (parent-low a.transactions.now l.c-index (omega arith))) in
    let active = c.is_active.ensures ∙ ap is_active (c.phase_in-phase.ensures ∙ sym (phase-low a.transactions.now l.c-index (omega arith))) in
    ap₂ ◌||◌ l.invariant (ap₂ ◌&&◌ under active) ∙ sym (any-more l.c-index (active_child ts a.m))

pub returns : goal.returns
unfolding child_active
returns c =
    let a = c.args in
    let l = c.loop-c in
    l.invariant ∙ ap (λ (n : ℕ). any_below n (active_child (transactions_in a.transactions.now) a.m)) (omega arith)
