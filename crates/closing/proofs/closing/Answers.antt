use mathlib.Core.Path.{sym, ◌∙◌}
use Rattle.laws.proofs.Bools.{told}
use Rattle.rules.specs.States.{is_committed}
use Rattle.rules.specs.declared.Phase.TheVariants.{Idle, Active, Committed, Aborted}
use Rattle.closing.proofs.ReturnLaws.{closing-unlisted, closing_at}
use Rattle.closing.proofs.closing.Goals as goal

pub returns-then-not-is_listed : goal.returns-then-not-is_listed
returns-then-not-is_listed c = closing-unlisted c.args.tables c.args.state c.args.saga c.is_listed.ensures c.if-not-is_listed.true

pub returns-then-is_committed : goal.returns-then-is_committed
returns-then-is_committed c =
    let a = c.args in
    let s = c.saga_at-s in
    rw (
      ← closing_at a.tables a.state a.saga c.is_listed.ensures c.if-not-is_listed.false s.result s.ensures Active (sym c.in-Active.is ∙ c.own-phase.ensures),
      told is_committed c.is_committed.ensures c.own-last.ensures c.if-is_committed.true,
    )

pub returns-in-Idle : goal.returns-in-Idle
returns-in-Idle c =
    let a = c.args in
    let s = c.saga_at-s in
    closing_at a.tables a.state a.saga c.is_listed.ensures c.if-not-is_listed.false s.result s.ensures Idle (sym c.in-Idle.is ∙ c.own-phase.ensures)

pub returns-else-is_committed : goal.returns-else-is_committed
returns-else-is_committed c =
    let a = c.args in
    let s = c.saga_at-s in
    rw (
      ← closing_at a.tables a.state a.saga c.is_listed.ensures c.if-not-is_listed.false s.result s.ensures Active (sym c.in-Active.is ∙ c.own-phase.ensures),
      told is_committed c.is_committed.ensures c.own-last.ensures c.if-is_committed.false,
    )

pub returns-in-Committed : goal.returns-in-Committed
returns-in-Committed c =
    let a = c.args in
    let s = c.saga_at-s in
    closing_at a.tables a.state a.saga c.is_listed.ensures c.if-not-is_listed.false s.result s.ensures Committed (sym c.in-Committed.is ∙ c.own-phase.ensures)

pub returns-in-Aborted : goal.returns-in-Aborted
returns-in-Aborted c =
    let a = c.args in
    let s = c.saga_at-s in
    c.back_step.ensures
    ∙ closing_at a.tables a.state a.saga c.is_listed.ensures c.if-not-is_listed.false s.result s.ensures Aborted (sym c.in-Aborted.is ∙ c.own-phase.ensures)
