use native.Mathlib.Omega.{arith}
use mathlib.Core.Path.{sym, ap, ◌∙◌}
use Rattle.laws.proofs.IndexLaws.{any_none, search-hit, search-miss, search-end}
use Rattle.ties.specs.Operations.{size}
use Rattle.ties.specs.Ties.{waits_for, must_wait}
use Rattle.cells.specs.Cells.{ops_in}
use Rattle.cells.proofs.CellLaws.{op-at, size_in}
use Rattle.cells.proofs.must_wait.Invariants.{waits}
use Rattle.cells.proofs.must_wait.Goals as goal

pub loop-i-init : goal.loop-i-init
loop-i-init c = any_none _

pub returns-then-awaited_by : goal.returns-then-awaited_by
unfolding must_wait
returns-then-awaited_by c =
    let a = c.args in
    let l = c.loop-i in
    let told = c.awaited_by.ensures ∙ ap (waits_for a.t a.object a.mark) (c.op_in-p.ensures ∙ sym (op-at a.ops.now a.n l.i)) in
    search-hit (waits a.ops.now a.n a.t a.object a.mark) (size (ops_in a.ops.now a.n)) l.i told c.if-awaited_by.true (omega (arith, size_in a.ops.now a.n))

pub loop-i-preserved : goal.loop-i-preserved
loop-i-preserved c =
    let a = c.args in
    let l = c.loop-i in
    let told = c.awaited_by.ensures ∙ ap (waits_for a.t a.object a.mark) (c.op_in-p.ensures ∙ sym (op-at a.ops.now a.n l.i)) in
    search-miss (waits a.ops.now a.n a.t a.object a.mark) l.i l.invariant told c.if-awaited_by.false

pub returns : goal.returns
unfolding must_wait
returns c =
    let a = c.args in
    let l = c.loop-i in
    search-end (waits a.ops.now a.n a.t a.object a.mark) (size (ops_in a.ops.now a.n)) l.i l.invariant (omega (arith, size_in a.ops.now a.n))
