use mathlib.Core.Path.{◌∙◌}
use Rattle.ties.specs.Ties.{before_handed}
use Rattle.cells.specs.Cells.{ops_in}
use Rattle.rules.specs.Lent.{transactions_in}
use Rattle.rules.proofs.RuleLaws.{ring-some, ring-nobody}
use Rattle.judge.proofs.Seen.hands_a_ring.Goals as goal

pub returns-then-undos-eq0 : goal.returns-then-undos-eq0
returns-then-undos-eq0 c tables h =
    let a = c.args in
    let u = c.active_undos-undos in
    ring-nobody (before_handed (ops_in a.self.ops.now a.self.count) a.t a.m) tables (transactions_in a.self.transactions.now) u.result a.m (u.ensures tables h) c.if-undos-eq0.true

pub returns : goal.returns
returns c tables h =
    let a = c.args in
    let u = c.active_undos-undos in
    c.ring_handed.ensures ∙ ring-some (before_handed (ops_in a.self.ops.now a.self.count) a.t a.m) tables (transactions_in a.self.transactions.now) u.result a.m (u.ensures tables h)
