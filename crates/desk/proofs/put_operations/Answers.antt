use native.Mathlib.Omega.{arith}
use mathlib.Core.Path.{refl}
use Rattle.desk.proofs.PutLaws.{put_all, put-more, put-none}
use Rattle.desk.proofs.put_operations.Goals as goal

pub loop-i-init : goal.loop-i-init
loop-i-init c = (c.size-total.ensures, λ f. put-none c.args.made)

pub loop-i-preserved : goal.loop-i-preserved
loop-i-preserved c =
    let l = c.loop-i in
    let made = c.args.made in
    (l.invariant.0, λ f. put-more made l.i l.ops _ l.n _ _ (omega arith) refl (f l.i) c.made-n.ensures (l.invariant.1 f))

pub returns : goal.returns
returns c = λ w few f. let l = c.loop-i in put_all c.args.made l.i l.ops l.n (l.invariant.1 f) (omega arith) w few
