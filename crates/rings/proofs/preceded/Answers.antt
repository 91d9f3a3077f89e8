use native.Mathlib.Omega.{arith}
use mathlib.Core.Path.{sym, ◌∙◌}
use Rattle.rings.specs.Passes.{read_at}
use Rattle.rings.proofs.PrecededLaws.{free-first, free-gone, free_own, free_other, free-met, free-end}
use Rattle.rings.proofs.preceded.Goals.{then-not-is_gone+then-b-t+else-crossed, then-not-is_gone+else-b-t, else-not-is_gone}
use Rattle.rings.proofs.preceded.Goals as goal

pub loop-i-init : goal.loop-i-init
loop-i-init c = rw c.none-others.ensures (free-first c.args.total (read_at c.args.ops.now) c.args.t)

pub returns-then-crossed : goal.returns-then-crossed
returns-then-crossed c =
    let a = c.args in
    let l = c.loop-i in
    let q = c.op_in-q in
    let live = sym c.is_gone.ensures ∙ c.if-not-is_gone.true in
    free-met a.total (read_at a.ops.now) a.t l.i l.others.used l.others.written l.invariant q.result q.ensures live (omega arith) c.if-b-t.true (sym c.crossed.ensures ∙ c.if-crossed.true)

pub loop-i-preserved : goal.loop-i-preserved
loop-i-preserved c =
    let a = c.args in
    let l = c.loop-i in
    let q = c.op_in-q in
    let op = read_at a.ops.now in
    elim c.if-not-is_gone.branch [
      | then-not-is_gone+then-b-t+else-crossed w ↦
          rw (w.others-is)
          (free_own a.total op a.t l.i l.others.used l.others.written l.invariant q.result q.ensures (sym c.is_gone.ensures ∙ w.if-not-is_gone.true) w.if-b-t.true (sym w.crossed.ensures ∙ w.if-crossed.false))
      | then-not-is_gone+else-b-t w ↦
          rw (w.others-is, w.with-others.ensures)
          (free_other a.total op a.t l.i l.others.used l.others.written l.invariant q.result q.ensures (sym c.is_gone.ensures ∙ w.if-not-is_gone.true) w.if-b-t.false)
      | else-not-is_gone w ↦
          rw (w.others-is) (free-gone a.total op a.t l.i l.others.used l.others.written l.invariant q.result q.ensures (sym c.is_gone.ensures ∙ w.if-not-is_gone.false))
    ]

pub returns : goal.returns
returns c =
    let a = c.args in
    let l = c.loop-i in
    free-end a.total (read_at a.ops.now) a.t l.i l.others.used l.others.written l.invariant (omega arith)
