use native.Mathlib.Omega.{arith}
use Prim.Native.Nat.{◌+◌}
use Rattle.laws.proofs.IndexLaws.{any_none, search-hit, search-miss, search-end}
use Rattle.ties.specs.Operations.{size}
use Rattle.ties.specs.Ties.{dirty_at, dirty}
use Rattle.cells.specs.Cells.{ops_in, read_in}
use Rattle.cells.proofs.CellLaws.{size_in}
use Rattle.cells.proofs.DirtyLaws.{not-read}
use Rattle.cells.proofs.NextLaws.{any-skipped}
use Rattle.cells.proofs.dirty.Goals as goal

pub loop-j-init : goal.loop-j-init
loop-j-init c =
    let a = c.args in
    let x = c.next_read-j in
    let dirt = dirty_at (ops_in a.ops.now a.n) a.t in
    (omega (arith, x.ensures.high), omega arith, any-skipped dirt (read_in a.ops.now a.t) 0 c.size-all.result x.result (any_none dirt) x.ensures (λ k h. not-read a.ops.now a.t k a.n h))

pub returns-then-dirty_at : goal.returns-then-dirty_at
unfolding dirty
returns-then-dirty_at c =
    let a = c.args in
    let l = c.loop-j in
    search-hit (dirty_at (ops_in a.ops.now a.n) a.t) (size (ops_in a.ops.now a.n)) l.j (c.dirty_at.ensures a.n) c.if-dirty_at.true (omega (arith, size_in a.ops.now a.n))

pub loop-j-preserved : goal.loop-j-preserved
loop-j-preserved c =
    let a = c.args in
    let l = c.loop-j in
    let x = c.next_read-j-in-loop-j in
    let dirt = dirty_at (ops_in a.ops.now a.n) a.t in
    let clean = search-miss dirt l.j l.invariant.2 (c.dirty_at.ensures a.n) c.if-dirty_at.false in
    (omega (arith, x.ensures.high), omega arith, any-skipped dirt (read_in a.ops.now a.t) (l.j + 1) c.size-all.result x.result clean x.ensures (λ k h. not-read a.ops.now a.t k a.n h))

pub returns : goal.returns
unfolding dirty
returns c =
    let a = c.args in
    let l = c.loop-j in
    search-end (dirty_at (ops_in a.ops.now a.n) a.t) (size (ops_in a.ops.now a.n)) l.j l.invariant.2 (omega (arith, size_in a.ops.now a.n))
