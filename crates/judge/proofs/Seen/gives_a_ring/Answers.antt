use mathlib.Core.Path.{sym, ◌∙◌}
use Rattle.laws.proofs.Bools.{on-not, off-not}
use Rattle.ties.specs.Operations.{is_active, op_at}
use Rattle.ties.specs.Ties.{before_given}
use Rattle.cells.specs.Cells.{ops_in}
use Rattle.rules.specs.Lent.{transactions_in}
use Rattle.rules.proofs.RuleLaws.{ring-some, ring-nobody}
use Rattle.judge.proofs.Seen.gives_a_ring.Goals as goal

pub returns-then-already_ended : goal.returns-then-already_ended
returns-then-already_ended c tables h =
    let a = c.args in
    let gone = on-not (is_active (op_at (ops_in a.self.ops.now a.self.count) a.q).fate) (sym (c.already_ended.ensures) ∙ c.if-already_ended.true) in
    rw gone

pub returns-then-undos-eq0 : goal.returns-then-undos-eq0
returns-then-undos-eq0 c tables h =
    let a = c.args in
    let u = c.active_undos-undos in
    let there = off-not (is_active (op_at (ops_in a.self.ops.now a.self.count) a.q).fate) (sym (c.already_ended.ensures) ∙ c.if-already_ended.false) in
    rw there
    (ring-nobody (before_given (ops_in a.self.ops.now a.self.count) a.q a.receiver) tables (transactions_in a.self.transactions.now) u.result a.receiver (u.ensures tables h) c.if-undos-eq0.true)

pub returns : goal.returns
returns c tables h =
    let a = c.args in
    let u = c.active_undos-undos in
    let there = off-not (is_active (op_at (ops_in a.self.ops.now a.self.count) a.q).fate) (sym (c.already_ended.ensures) ∙ c.if-already_ended.false) in
    rw there
    (c.ring_given.ensures ∙ ring-some (before_given (ops_in a.self.ops.now a.self.count) a.q a.receiver) tables (transactions_in a.self.transactions.now) u.result a.receiver (u.ensures tables h))
