use Prim.Native.Nat.{ℕ, ◌+◌}
use mathlib.Core.Path.{◌≡◌, sym, ap, ◌∙◌, subst, subst⁻¹}
use mathlib.Core.Bool.{Bool, ◌&&◌}
use native.Mathlib.Omega.{arith}
use lib.Dec.{eqb}
use Rattle.ties.specs.Operations.{op_at, size}
use Rattle.replay.specs.Replay.{kept_by, holds}
use Rattle.replay.proofs.CodeLaws.{HoldersOf, holders-none, holders-in, holders-out}
use Rattle.replay.proofs.holders.Goals as goal
use Rattle.replay.proofs.holders.Goals.{then-is_kept, else-is_kept}

pub loop-i-init : goal.loop-i-init
loop-i-init c = (c.size-total.ensures, holders-none c.args.ops)

pub loop-i-preserved : goal.loop-i-preserved
loop-i-preserved c =
    let ops = c.args.ops in
    let l = c.loop-i in
    let b = c.is_kept.result in
    let test : (t : ℕ) → kept_by t (op_at ops l.i) ≡ (b && eqb (op_at ops l.i).responsible t) =
    λ t. ap (λ (x : Bool). x && eqb (op_at ops l.i).responsible t) (sym c.is_kept.ensures)
    in (
      l.invariant.0,
      elim c.if-is_kept.branch [ then-is_kept w ↦ subst⁻¹ (HoldersOf ops (l.i + 1)) (w.set-is ∙ w.with_member-set.ensures) (holders-in ops l.i l.set l.invariant.1 b test w.if-is_kept.true) | else-is_kept w ↦ subst⁻¹ (HoldersOf ops (l.i + 1)) w.set-is (holders-out ops l.i l.set l.invariant.1 b test w.if-is_kept.false) ],
    )

pub returns : goal.returns
unfolding holds
returns c =
    let l = c.loop-i in
    let all : l.i ≡ size c.args.ops = omega arith in
    subst (λ (i : ℕ). HoldersOf c.args.ops i l.set) all l.invariant.1
