use native.Mathlib.Omega.{arith}
use Prim.Native.Nat.{ℕ}
use mathlib.Core.Path.{sym, ap, ◌∙◌}
use mathlib.Core.Bool.{and-false}
use Rattle.laws.proofs.Bools.{and_on}
use Rattle.sets.specs.Sets.{set_of}
use Rattle.sets.proofs.SetLaws.{set-of-none, set-of-in, set-of-out}
use Rattle.tables.specs.Sorts.{is_undo}
use Rattle.sheet.specs.Sheet.{sort_at}
use Rattle.rules.specs.Lent.{transactions_in}
use Rattle.rules.specs.Rules.{undo_on}
use Rattle.rules.specs.States.{is_active, phase_of}
use Rattle.rules.proofs.LentLaws.{phase-low}
use Rattle.rules.proofs.RuleLaws.{nobody-active, undos-held}
use Rattle.rules.proofs.active_undos.Goals.{then-is_active+then-is_undo, then-is_active+else-is_undo, else-is_active}
use Rattle.rules.proofs.active_undos.Goals as goal

pub returns-then-not-some_undo_active : goal.returns-then-not-some_undo_active
returns-then-not-some_undo_active c tables holds =
    let a = c.args in
    let n = c.count_in-owned in
    let ts = transactions_in a.transactions.now in
    nobody-active (undo_on a.sheet.now ts) n.result (sym c.some_undo_active.ensures ∙ c.if-not-some_undo_active.true)
    ∙ undos-held a.sheet.now ts n.result tables holds n.ensures

pub loop-t-init : goal.loop-t-init
loop-t-init c = (sym (set-of-none _), c.count_in-owned.ensures)

pub loop-t-preserved : goal.loop-t-preserved
loop-t-preserved c =
    let a = c.args in
    let l = c.loop-t in
    let ts = transactions_in a.transactions.now in
    let f = undo_on a.sheet.now ts in
    let active = c.is_active.ensures ∙ ap is_active (c.phase_in-phase.ensures ∙ sym (phase-low a.transactions.now l.t (omega (arith, l.invariant.1)))) in (
      elim c.if-is_active.branch [
        | then-is_active+then-is_undo w ↦
            w.set-is ∙ w.with_member-set.ensures
            ∙ set-of-in f l.t l.set l.invariant.0
            (and_on (is_undo (sort_at a.sheet.now l.t)) (is_active (phase_of ts l.t)) (sym (w.is_undo.ensures ∙ ap is_undo w.sort_at-sort.ensures) ∙ w.if-is_undo.true) (sym active ∙ w.if-is_active.true))
        | then-is_active+else-is_undo w ↦ w.set-is ∙ set-of-out f l.t l.set l.invariant.0 (rw (sym (w.is_undo.ensures ∙ ap is_undo w.sort_at-sort.ensures) ∙ w.if-is_undo.false))
        | else-is_active w ↦ w.set-is ∙ set-of-out f l.t l.set l.invariant.0 (rw (sym active ∙ w.if-is_active.false, and-false (is_undo (sort_at a.sheet.now l.t))))
      ],
      l.invariant.1,
    )

pub returns : goal.returns
returns c tables holds =
    let a = c.args in
    let l = c.loop-t in
    let f = undo_on a.sheet.now (transactions_in a.transactions.now) in
    l.invariant.0 ∙ ap (λ (n : ℕ). set_of n f) (omega arith)
    ∙ undos-held a.sheet.now (transactions_in a.transactions.now) c.count_in-owned.result tables holds l.invariant.1
