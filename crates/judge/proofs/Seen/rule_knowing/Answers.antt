use mathlib.Core.Path.{sym, ap, ◌∙◌}
use Rattle.judge.specs.Judge.{ruling_of}
use Rattle.judge.specs.Lent.{state_in}
use Rattle.judge.proofs.Seen.rule_knowing.Goals as goal

pub returns-in-Begin : goal.returns-in-Begin
unfolding ruling_of
returns-in-Begin c tables h k =
    let a = c.args in
    c.begin.ensures tables h ∙ ap (ruling_of tables (state_in a.self.transactions.now a.self.ops.now a.self.count)) (sym c.in-Begin.is)

pub returns-in-Commit : goal.returns-in-Commit
unfolding ruling_of
returns-in-Commit c tables h k =
    let a = c.args in
    c.commit.ensures tables h k ∙ ap (ruling_of tables (state_in a.self.transactions.now a.self.ops.now a.self.count)) (sym c.in-Commit.is)

pub returns-in-Abort : goal.returns-in-Abort
unfolding ruling_of
returns-in-Abort c tables h k =
    let a = c.args in
    c.abort.ensures tables h ∙ ap (ruling_of tables (state_in a.self.transactions.now a.self.ops.now a.self.count)) (sym c.in-Abort.is)

pub returns-in-Operation : goal.returns-in-Operation
unfolding ruling_of
returns-in-Operation c tables h k =
    let a = c.args in
    c.operation.ensures tables h ∙ ap (ruling_of tables (state_in a.self.transactions.now a.self.ops.now a.self.count)) (sym c.in-Operation.is)

pub returns-in-Delegate : goal.returns-in-Delegate
unfolding ruling_of
returns-in-Delegate c tables h k =
    let a = c.args in
    c.delegate.ensures tables h ∙ ap (ruling_of tables (state_in a.self.transactions.now a.self.ops.now a.self.count)) (sym c.in-Delegate.is)

pub returns-in-CommitOne : goal.returns-in-CommitOne
unfolding ruling_of
returns-in-CommitOne c tables h k =
    let a = c.args in
    c.commit_one.ensures tables h k ∙ ap (ruling_of tables (state_in a.self.transactions.now a.self.ops.now a.self.count)) (sym c.in-CommitOne.is)

pub returns-in-AbortOne : goal.returns-in-AbortOne
unfolding ruling_of
returns-in-AbortOne c tables h k =
    let a = c.args in
    c.abort_one.ensures tables h ∙ ap (ruling_of tables (state_in a.self.transactions.now a.self.ops.now a.self.count)) (sym c.in-AbortOne.is)

pub returns-in-Spawn : goal.returns-in-Spawn
unfolding ruling_of
returns-in-Spawn c tables h k =
    let a = c.args in
    c.spawn.ensures tables h ∙ ap (ruling_of tables (state_in a.self.transactions.now a.self.ops.now a.self.count)) (sym c.in-Spawn.is)
