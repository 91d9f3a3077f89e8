use native.Mathlib.Omega.{arith}
use mathlib.Core.Path.{ap, ◌∙◌}
use Prim.Native.Nat.{ℕ, ◌+◌, ◌-◌}
use Rattle.laws.proofs.HighestLaws.{sum-le}
use Rattle.rules.specs.States.{own}
use Rattle.closing.specs.Closing.{owed}
use Rattle.closing.proofs.OutstandingLaws.{owed-le}
use Rattle.closing.proofs.ReturnLaws.{undo-no-active, undo-active}
use Rattle.closing.proofs.to_undo.Goals as goal

pub returns-then-active-eq0 : goal.returns-then-active-eq0
returns-then-active-eq0 g c =
    let a = c.args in
    let d = c.active_step-active in
    c.owed_by_steps-sum.ensures ∙ undo-no-active a.n (own (g.S.Standing.transactions a.stand.now) a.first) d.result d.ensures (omega arith)

pub overflow_add-result : goal.overflow_add-result
overflow_add-result g c =
    let a = c.args in
    let P = own (g.S.Standing.transactions a.stand.now) a.first in
    omega (arith, sum-le (a.n - 1) 2 (owed a.n P) (owed-le a.n P), c.owed_by_steps-sum.ensures)

pub returns : goal.returns
returns g c =
    let a = c.args in
    let d = c.active_step-active in
    ap (λ (k : ℕ). 1 + k) c.owed_by_steps-sum.ensures
    ∙ undo-active a.n (own (g.S.Standing.transactions a.stand.now) a.first) d.result d.ensures (omega arith)
