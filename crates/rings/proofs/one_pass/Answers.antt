use native.Mathlib.Omega.{arith}
use Prim.Native.Nat.{ℕ}
use mathlib.Core.Path.{ap, ◌∙◌}
use Rattle.rings.specs.Passes.{pass_to, read_at}
use Rattle.rings.proofs.LentLaws.{pass-more}
use Rattle.rings.proofs.one_pass.Goals as goal

pub loop-i-init : goal.loop-i-init
unfolding pass_to
loop-i-init c = c.first-p.ensures

pub loop-i-preserved : goal.loop-i-preserved
loop-i-preserved c =
    let a = c.args in
    let l = c.loop-i in
    let q = c.op_in-q in
    c.passed-p.ensures ∙ pass-more (read_at a.ops.now) a.start a.from l.i q.result l.p q.ensures l.invariant

pub returns : goal.returns
returns c =
    let a = c.args in
    let l = c.loop-i in
    l.invariant ∙ ap (λ (k : ℕ). pass_to k (read_at a.ops.now) a.start a.from) (omega arith)
