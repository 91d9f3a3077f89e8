use native.Mathlib.Omega.{arith}
use Prim.Native.Nat.{ℕ}
use mathlib.Core.Path.{sym, ap, ap₂, ◌∙◌}
use mathlib.Core.Bool.{◌&&◌, ◌||◌}
use Rattle.laws.specs.Index.{any_below}
use Rattle.laws.proofs.IndexLaws.{any_none, any-more}
use Rattle.tables.specs.Sorts.{is_undo}
use Rattle.rules.specs.Lent.{transactions_in}
use Rattle.rules.specs.Rules.{undo_on}
use Rattle.rules.specs.States.{is_active}
use Rattle.rules.proofs.LentLaws.{phase-low}
use Rattle.rules.proofs.some_undo_active.Goals as goal

pub loop-t-init : goal.loop-t-init
loop-t-init c = sym (any_none _)

pub loop-t-preserved : goal.loop-t-preserved
loop-t-preserved c =
    let a = c.args in
    let l = c.loop-t in
    let ts = transactions_in a.transactions.now in
    let undo = c.is_undo.ensures ∙ ap is_undo c.sort_at-sort.ensures in
    let active = c.is_active.ensures ∙ ap is_active (c.phase_in-phase.ensures ∙ sym (phase-low a.transactions.now l.t (omega arith))) in
    ap₂ ◌||◌ l.invariant (ap₂ ◌&&◌ undo active) ∙ sym (any-more l.t (undo_on a.sheet.now ts))

pub returns : goal.returns
returns c =
    let a = c.args in
    let l = c.loop-t in
    l.invariant ∙ ap (λ (n : ℕ). any_below n (undo_on a.sheet.now (transactions_in a.transactions.now))) (omega arith)
