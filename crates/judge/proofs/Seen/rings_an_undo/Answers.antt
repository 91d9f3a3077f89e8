use mathlib.Core.Path.{◌∙◌}
use Rattle.ties.specs.Ties.{before_made}
use Rattle.cells.specs.Cells.{ops_in}
use Rattle.rules.specs.Lent.{transactions_in}
use Rattle.rules.proofs.RuleLaws.{ring-some, ring-nobody}
use Rattle.judge.proofs.Seen.rings_an_undo.Goals as goal

pub returns-then-undos-eq0 : goal.returns-then-undos-eq0
returns-then-undos-eq0 c tables h =
    let a = c.args in
    let u = c.active_undos-undos in
    ring-nobody (before_made (ops_in a.self.ops.now a.self.count) a.op) tables (transactions_in a.self.transactions.now) u.result a.op.responsible (u.ensures tables h) c.if-undos-eq0.true

pub returns : goal.returns
returns c tables h =
    let a = c.args in
    let u = c.active_undos-undos in
    c.ring_made.ensures ∙ ring-some (before_made (ops_in a.self.ops.now a.self.count) a.op) tables (transactions_in a.self.transactions.now) u.result a.op.responsible (u.ensures tables h)
