use native.Mathlib.Omega.{arith}
use Prim.Native.Nat.{◌+◌}
use mathlib.Core.Path.{◌≡◌, ap, ◌∙◌}
use mathlib.Core.Bool.{true}
use lib.ListN.{get_or, set}
use Rattle.ties.specs.Operations.{held_by}
use Rattle.cells.specs.Cells.{fits}
use Rattle.cells.proofs.CellLaws.{op_fits, done_none, done_held, done_next, done_all}
use Rattle.cells.proofs.rewritten.Goals as goal

pub loop-i-init : goal.loop-i-init
loop-i-init g c =
    let a = c.args in
    let all = c.size-all.result in
    let x = c.next_held-i in (
      omega (arith, x.ensures.high),
      omega arith,
      λ makes h. done_next a.t makes a.ops.now 0 all x.result a.ops.now (done_none a.t makes a.ops.now) x.ensures,
      x.ensures.here,
    )

pub cell_of-requires : goal.cell_of-requires
cell_of-requires g c =
    let l = c.loop-i in
    c.requires.kept c.op_in-op.result c.how.result (ap fits c.op_in-op.ensures ∙ op_fits (get_or l.ops l.i 0)) c.how.ensures

pub loop-i-preserved : goal.loop-i-preserved
loop-i-preserved g c =
    let a = c.args in
    let l = c.loop-i in
    let all = c.size-all.result in
    let op = c.op_in-op in
    let cell = c.cell_of in
    let x = c.next_held-i-in-loop-i in
    let held = ap (held_by a.t) op.ensures ∙ l.invariant.3 (omega arith) in
    let stands : fits op.result ≡ true = ap fits op.ensures ∙ op_fits (get_or l.ops l.i 0) in (
      omega (arith, x.ensures.high),
      omega arith,
      λ makes h.
          let done = done_held a.t makes a.ops.now l.i l.ops (l.invariant.2 makes h) op.result op.ensures cell.result held (cell.ensures ∙ h op.result c.how.result stands c.how.ensures) in
          done_next a.t makes a.ops.now (l.i + 1) all x.result (set l.ops l.i cell.result) done x.ensures,
      x.ensures.here,
    )

pub returns : goal.returns
returns g c makes h =
    let a = c.args in
    let l = c.loop-i in
    done_all a.t makes a.ops.now a.n l.i l.ops (l.invariant.2 makes h) (omega (arith, c.size-all.ensures))
