use native.Mathlib.Omega.{arith}
use Prim.Native.Nat.{ℕ, ◌+◌, ◌-◌}
use mathlib.Core.Path.{◌≡◌, sym, ◌∙◌, subst, subst⁻¹}
use Rattle.rows.specs.Rows.{Swept}
use Rattle.rows.proofs.Handed.sweep.Goals as goal

pub loop-i-init : goal.loop-i-init
loop-i-init c = (omega arith, λ n op h e s. s)

pub loop-i-preserved : goal.loop-i-preserved
loop-i-preserved c =
    let l = c.loop-i in
    let b = c.args in
    let back : l.i - 1 + 1 ≡ l.i = omega arith in (
      omega arith,
      λ n op h e s. c.sweep_one.ensures n op (l.i - 1) (omega arith) (e (l.i - 1) (omega arith) (omega arith) ∙ sym c.at-p.ensures)
          (subst⁻¹ (λ (k : ℕ). Swept n op k l.met) back (l.invariant.1 n op h e s)),
    )

pub returns : goal.returns
returns c n op h e s =
    let a = c.args in
    let l = c.loop-i in
    let last : l.i ≡ a.from = omega arith in
    subst (λ (k : ℕ). Swept n op k l.met) last (l.invariant.1 n op h e s)
