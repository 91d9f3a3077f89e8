use native.Mathlib.Omega.{arith}
use Rattle.laws.proofs.IndexLaws.{any_none}
use Rattle.cells.proofs.DirtyLaws.{none_read, found-dirty, not-dirty, none-dirty}
use Rattle.cells.proofs.dirty_at.Goals as goal

pub loop-i-init : goal.loop-i-init
loop-i-init c = any_none _

pub returns-then-dirties : goal.returns-then-dirties
returns-then-dirties c =
    let a = c.args in
    found-dirty a.ops.now a.t a.j c.op_in-q.result c.op_in-q.ensures c.read_by.ensures c.loop-i.i c.op_in-p.result c.op_in-p.ensures c.dirties.ensures
    c.if-read_by.true c.if-dirties.true (omega arith)

pub loop-i-preserved : goal.loop-i-preserved
loop-i-preserved c =
    let a = c.args in
    let l = c.loop-i in
    not-dirty a.ops.now a.t a.j c.op_in-q.result c.op_in-q.ensures c.read_by.ensures l.i c.op_in-p.result c.op_in-p.ensures c.dirties.ensures
    l.invariant c.if-dirties.false

pub returns-after-loop-i : goal.returns-after-loop-i
returns-after-loop-i c =
    let a = c.args in
    none-dirty a.ops.now a.t a.j c.loop-i.i c.loop-i.invariant (omega arith)

pub returns-else-read_by : goal.returns-else-read_by
returns-else-read_by c =
    let a = c.args in
    none_read a.ops.now a.t a.j c.op_in-q.result c.op_in-q.ensures c.read_by.ensures c.if-read_by.false
