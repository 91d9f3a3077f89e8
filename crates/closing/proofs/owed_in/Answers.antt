use native.Mathlib.Omega.{arith}
use Prim.Native.Nat.{ℕ, ◌+◌}
use mathlib.Core.Path.{sym, ap, ◌∙◌}
use Rattle.laws.proofs.Bools.{told}
use Rattle.rules.specs.States.{is_committed, own}
use Rattle.closing.proofs.OutstandingLaws.{to_undo-le}
use Rattle.closing.proofs.ReturnLaws.{owed-active, owed-ready}
use Rattle.closing.proofs.owed_in.Goals as goal

pub returns-then-is_committed : goal.returns-then-is_committed
returns-then-is_committed g c = owed-ready c.args.n (own (g.S.Standing.transactions c.args.stand.now) c.args.first) (sym c.own-phase.ensures ∙ c.in-Active.is) (told is_committed c.is_committed.ensures c.own-last.ensures c.if-is_committed.true)

pub overflow_add-result : goal.overflow_add-result
overflow_add-result g c =
    let a = c.args in
    omega (arith, to_undo-le a.n (own (g.S.Standing.transactions a.stand.now) a.first), c.to_undo-rest.ensures)

pub returns-in-Idle : goal.returns-in-Idle
returns-in-Idle g c = rw (sym c.own-phase.ensures ∙ c.in-Idle.is)

pub returns-else-is_committed : goal.returns-else-is_committed
returns-else-is_committed g c =
    ap (λ (k : ℕ). 1 + k) c.to_undo-rest.ensures
    ∙ owed-active c.args.n (own (g.S.Standing.transactions c.args.stand.now) c.args.first) (sym c.own-phase.ensures ∙ c.in-Active.is) (told is_committed c.is_committed.ensures c.own-last.ensures c.if-is_committed.false)

pub returns-in-Committed : goal.returns-in-Committed
returns-in-Committed g c = rw (sym c.own-phase.ensures ∙ c.in-Committed.is)

pub returns-in-Aborted : goal.returns-in-Aborted
returns-in-Aborted g c = c.to_undo.ensures ∙ rw (sym c.own-phase.ensures ∙ c.in-Aborted.is)
