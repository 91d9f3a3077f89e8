use native.Mathlib.Omega.{arith}
use Prim.Native.Nat.{ℕ, ◌+◌}
use mathlib.Core.Path.{◌≡◌, sym, ◌∙◌, subst, subst⁻¹}
use Rattle.replay.proofs.CodeLaws.{BehindOf, behind-none, behind-in, behind-out}
use Rattle.replay.proofs.behind.Goals as goal
use Rattle.replay.proofs.behind.Goals.{then-member, else-member}

pub loop-a-init : goal.loop-a-init
loop-a-init c = behind-none c.args.rows.now c.args.some

pub loop-a-preserved : goal.loop-a-preserved
loop-a-preserved c =
    let a = c.args in
    let l = c.loop-a in
    let test = c.member.ensures in
    elim c.if-member.branch [ then-member w ↦ subst⁻¹ (BehindOf a.rows.now a.some (l.a + 1)) w.set-is (behind-in a.rows.now a.some l.a l.set l.invariant (sym test ∙ w.if-member.true)) | else-member w ↦ subst⁻¹ (BehindOf a.rows.now a.some (l.a + 1)) w.set-is (behind-out a.rows.now a.some l.a l.set l.invariant (sym test ∙ w.if-member.false)) ]

pub returns : goal.returns
returns c =
    let a = c.args in
    let l = c.loop-a in
    let all : l.a ≡ 64 = omega arith in
    subst (λ (n : ℕ). BehindOf a.rows.now a.some n l.set) all l.invariant
