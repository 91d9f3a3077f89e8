use native.Mathlib.Omega.{arith}
use mathlib.Core.Path.{◌≡◌, sym, ap, ◌∙◌}
use Prim.Native.Nat.{ℕ}
use Rattle.terms.specs.Limits.{most_transactions}
use Rattle.sets.specs.Sets.{set_of}
use Rattle.sets.proofs.SetLaws.{set-of-none, set-of-in, set-of-out}
use Rattle.report.specs.Report.{active_in, active_set}
use Rattle.report.proofs.active_set.Goals as goal
use Rattle.report.proofs.active_set.Goals.{then-is_active, else-is_active}

pub loop-t-init : goal.loop-t-init
loop-t-init c = sym (set-of-none _)

pub loop-t-preserved : goal.loop-t-preserved
loop-t-preserved c =
    let ts = c.args.transactions in
    let l = c.loop-t in
    let test = c.is_active.ensures in
    elim c.if-is_active.branch [ then-is_active w ↦ w.set-is ∙ w.with_member-set.ensures ∙ set-of-in (active_in ts) l.t l.set l.invariant (sym test ∙ w.if-is_active.true) | else-is_active w ↦ w.set-is ∙ set-of-out (active_in ts) l.t l.set l.invariant (sym test ∙ w.if-is_active.false) ]

pub returns : goal.returns
unfolding active_set
returns c =
    let l = c.loop-t in
    let all : l.t ≡ most_transactions = omega arith in
    l.invariant ∙ ap (λ (n : ℕ). set_of n (active_in c.args.transactions)) all
