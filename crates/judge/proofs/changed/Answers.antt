use mathlib.Core.Path.{refl, ◌∙◌, subst}
use Rattle.cells.specs.Cells.{ops_in}
use Rattle.rules.specs.Lent.{transactions_in}
use Rattle.judge.specs.Lent.{Fitting}
use Rattle.judge.specs.declared.Change.TheVariants.{Nothing, Enters, Ends, EndsOne, Makes, Gives, Hands, Spawns}
use Rattle.judge.proofs.ChangeLaws.{after, made-fits, given-fits, handed-fits, spawned-fits}
use Rattle.judge.proofs.changed.Goals as goal

pub returns-in-Nothing : goal.returns-in-Nothing
returns-in-Nothing c f =
    let a = c.args in
    after a.transactions.now a.transactions.now a.ops.now a.ops.now a.n a.n a.change (Nothing) c.in-Nothing.is (refl) (refl)

pub returns-in-Enters : goal.returns-in-Enters
returns-in-Enters c f =
    let a = c.args in
    after a.transactions.now c.enters.new.transactions a.ops.now a.ops.now a.n a.n a.change (Enters c.in-Enters.t c.in-Enters.phase) c.in-Enters.is c.enters.ensures (refl)

pub returns-in-Ends : goal.returns-in-Ends
returns-in-Ends c f =
    let a = c.args in
    after a.transactions.now c.enters-in-Ends.new.transactions a.ops.now c.ended.new.ops a.n a.n a.change (Ends c.in-Ends.t c.in-Ends.phase c.in-Ends.fate) c.in-Ends.is c.enters-in-Ends.ensures c.ended.ensures

pub returns-in-EndsOne : goal.returns-in-EndsOne
returns-in-EndsOne c f =
    let a = c.args in
    after a.transactions.now a.transactions.now a.ops.now c.ended_one.new.ops a.n a.n a.change (EndsOne c.in-EndsOne.q c.in-EndsOne.fate) c.in-EndsOne.is (refl) c.ended_one.ensures

pub returns-in-Makes : goal.returns-in-Makes
returns-in-Makes c f =
    let a = c.args in
    let op = c.in-Makes.op in
    let made = c.made.ensures ∙ made-fits op (ops_in a.ops.now a.n) (subst Fitting c.in-Makes.is f) in
    after a.transactions.now a.transactions.now a.ops.now c.made.new.ops a.n c.made.result a.change (Makes op) c.in-Makes.is (refl) (made)

pub returns-in-Gives : goal.returns-in-Gives
returns-in-Gives c f =
    let a = c.args in
    let q = c.in-Gives.q in
    let r = c.in-Gives.receiver in
    let given = c.given.ensures ∙ given-fits q r (ops_in a.ops.now a.n) (subst Fitting c.in-Gives.is f) in
    after a.transactions.now a.transactions.now a.ops.now c.given.new.ops a.n a.n a.change (Gives q r) c.in-Gives.is (refl) (given)

pub returns-in-Hands : goal.returns-in-Hands
returns-in-Hands c f =
    let a = c.args in
    let t = c.in-Hands.t in
    let m = c.in-Hands.m in
    let given = c.handed.ensures ∙ handed-fits t m (ops_in a.ops.now a.n) (subst Fitting c.in-Hands.is f) in
    after a.transactions.now c.enters-in-Hands.new.transactions a.ops.now c.handed.new.ops a.n a.n a.change (Hands t m) c.in-Hands.is c.enters-in-Hands.ensures (given)

pub returns-in-Spawns : goal.returns-in-Spawns
returns-in-Spawns c f =
    let a = c.args in
    let m = c.in-Spawns.m in
    let t = c.in-Spawns.c in
    let spawned = c.spawns.ensures ∙ spawned-fits m t (transactions_in a.transactions.now) (subst Fitting c.in-Spawns.is f) in
    after a.transactions.now c.spawns.new.transactions a.ops.now a.ops.now a.n a.n a.change (Spawns m t) c.in-Spawns.is (spawned) (refl)
