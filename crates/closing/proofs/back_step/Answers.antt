use native.Mathlib.Omega.{arith}
use Prim.Native.Nat.{◌+◌}
use mathlib.Core.Path.{ap, ◌∙◌}
use Rattle.rules.specs.States.{own}
use Rattle.rules.specs.declared.Phase.{Phase}
use Rattle.closing.specs.Closing.{undo_step}
use Rattle.closing.proofs.ReturnLaws.{back-abort, back_none, back-undo}
use Rattle.closing.proofs.back_step.Goals as goal

pub returns-then-active-ne0 : goal.returns-then-active-ne0
returns-then-active-ne0 g c =
    let a = c.args in
    let d = c.active_step-active in
    back-abort a.first a.n (own (g.S.Standing.transactions a.stand.now) a.first) d.result d.ensures (omega arith)

pub returns-then-next-eq0 : goal.returns-then-next-eq0
returns-then-next-eq0 g c =
    let a = c.args in
    let d = c.active_step-active in
    let u = c.next_undo-next in
    back_none a.first a.n (own (g.S.Standing.transactions a.stand.now) a.first) d.result d.ensures (omega arith) u.result u.ensures (omega arith)

pub returns : goal.returns
returns g c =
    let a = c.args in
    let d = c.active_step-active in
    let u = c.next_undo-next in
    let t = a.first + (a.n + u.result) in
    c.undo_step.ensures
    ∙ ap (λ (p : Phase). undo_step p t) c.own-undo.ensures
    ∙ back-undo a.first a.n (own (g.S.Standing.transactions a.stand.now) a.first) d.result d.ensures (omega arith) u.result u.ensures (omega arith)
