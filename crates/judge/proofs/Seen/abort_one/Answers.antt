use mathlib.Core.Path.{sym, ◌∙◌}
use mathlib.Core.Bool.{false}
use mathlib.Core.List.{[]}
use Rattle.terms.specs.declared.Event.TheVariants.{AbortOne}
use Rattle.cells.specs.Cells.{ops_in}
use Rattle.rules.specs.Lent.{transactions_in}
use Rattle.judge.specs.Judge.{change_of, single_lines}
use Rattle.judge.proofs.RuleLaws.{shared-refused, shared-passed}
use Rattle.judge.proofs.Seen.abort_one.Goals as goal

pub returns-in-Refused : goal.returns-in-Refused
returns-in-Refused c tables h =
    let a = c.args in
    c.refused.ensures ∙ shared-refused (single_lines tables (transactions_in a.self.transactions.now) (ops_in a.self.ops.now a.self.count) a.t a.q false) [] (change_of tables (transactions_in a.self.transactions.now) (AbortOne a.t a.q)) (c.single.ensures tables h) c.in-Refused.refusal c.in-Refused.is

pub returns : goal.returns
returns c tables h =
    let a = c.args in
    c.accepted.ensures
    ∙ sym (shared-passed (single_lines tables (transactions_in a.self.transactions.now) (ops_in a.self.ops.now a.self.count) a.t a.q false) [] (change_of tables (transactions_in a.self.transactions.now) (AbortOne a.t a.q)) (c.single.ensures tables h) c.in_default.is)
