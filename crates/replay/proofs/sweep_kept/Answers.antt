use native.Mathlib.Omega.{arith}
use Prim.Native.Nat.{◌+◌, ◌-◌, ℕ}
use mathlib.Core.Path.{◌≡◌, sym, subst, subst⁻¹}
use Rattle.ties.specs.Operations.{size}
use Rattle.rows.specs.Rows.{Swept}
use Rattle.rows.proofs.SweepLaws.{swept_all}
use Rattle.replay.specs.Replay.{comes_before}
use Rattle.replay.proofs.sweep_kept.Invariants.{kept_at}
use Rattle.replay.proofs.sweep_kept.Goals as goal

pub loop-i-init : goal.loop-i-init
loop-i-init c =
    let ops = c.args.ops in
    (omega (arith, c.size-i.ensures), λ nothing. subst⁻¹ (λ (i : ℕ). Swept (size ops) (kept_at ops) i c.args.met.now) c.size-i.ensures (nothing (size ops) (kept_at ops)))

pub loop-i-preserved : goal.loop-i-preserved
loop-i-preserved c =
    let l = c.loop-i in
    let ops = c.args.ops in
    let back : l.i - 1 + 1 ≡ l.i = omega arith in (
      omega arith,
      λ nothing. c.sweep_one.ensures (size ops) (kept_at ops) (l.i - 1) (omega arith) (sym c.kept-op.ensures)
          (subst⁻¹ (λ (k : ℕ). Swept (size ops) (kept_at ops) k l.met) back (l.invariant.1 nothing)),
    )

pub returns : goal.returns
unfolding comes_before
returns c nothing =
    let ops = c.args.ops in
    let l = c.loop-i in
    let all : l.i ≡ 0 = omega arith in
    swept_all (size ops) (kept_at ops) _ (subst (λ (k : ℕ). Swept (size ops) (kept_at ops) k l.met) all (l.invariant.1 nothing))
