use native.Mathlib.Omega.{arith}
use mathlib.Core.Path.{ap, ◌∙◌}
use lib.ListN.{get_or}
use Rattle.cells.specs.Cells.{fits, found_in}
use Rattle.cells.proofs.CellLaws.{op_fits}
use Rattle.cells.proofs.NextLaws.{passed-more, next_here, next-none}
use Rattle.cells.proofs.next.Goals as goal

pub returns-then-passes : goal.returns-then-passes
returns-then-passes g c is h =
    let a = c.args in
    let l = c.loop-i in
    let told = h c.op_in.result c.passes.result (ap fits c.op_in.ensures ∙ op_fits (get_or a.ops.now l.i 0)) c.passes.ensures ∙ ap is c.op_in.ensures in
    next_here (found_in a.ops.now is) a.from l.i a.to (l.invariant is h) told c.if-passes.true (omega arith) (omega arith)

pub loop-i-preserved : goal.loop-i-preserved
loop-i-preserved g c is h =
    let a = c.args in
    let l = c.loop-i in
    let told = h c.op_in.result c.passes.result (ap fits c.op_in.ensures ∙ op_fits (get_or a.ops.now l.i 0)) c.passes.ensures ∙ ap is c.op_in.ensures in
    passed-more (found_in a.ops.now is) a.from l.i (l.invariant is h) told c.if-passes.false

pub returns : goal.returns
returns g c is h =
    let a = c.args in
    let l = c.loop-i in
    next-none (found_in a.ops.now is) a.from l.i a.to (l.invariant is h) (omega arith) (omega arith)
