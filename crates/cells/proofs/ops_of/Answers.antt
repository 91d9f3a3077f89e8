use native.Mathlib.Omega.{arith}
use Rattle.cells.proofs.CellLaws.{copied_none, copied_more, copied_all}
use Rattle.cells.proofs.ops_of.Goals as goal

pub loop-i-init : goal.loop-i-init
loop-i-init c = (c.size-accepted.ensures, copied_none c.args.ops.now c.none-all.result c.none-all.ensures)

pub loop-i-preserved : goal.loop-i-preserved
loop-i-preserved c =
    let a = c.args in
    let l = c.loop-i in
    (l.invariant.0, copied_more a.ops.now l.i l.all c.op_in.result l.invariant.1 (omega arith) c.op_in.ensures)

pub returns : goal.returns
returns c w =
    let a = c.args in
    let l = c.loop-i in
    copied_all a.ops.now a.n l.i l.all l.invariant.1 (omega arith) w
