use native.Mathlib.Omega.{arith}
use mathlib.Core.Path.{◌≡◌, sym, ap, ap₂, ◌∙◌}
use Prim.Native.Nat.{ℕ, ◌+◌, ◌-◌}
use Rattle.laws.specs.Index.{sum_to}
use Rattle.laws.proofs.HighestLaws.{sum-le}
use Rattle.rules.specs.States.{own}
use Rattle.closing.specs.Closing.{owed}
use Rattle.closing.proofs.OutstandingLaws.{owed-le}
use Rattle.laws.proofs.StepLaws.{sum-none, sum_more}
use Rattle.closing.proofs.owed_by_steps.Goals as goal

pub loop-i-init : goal.loop-i-init
loop-i-init g c = (omega arith, sym (sum-none _))

pub overflow_add-sum : goal.overflow_add-sum
overflow_add-sum g c =
    let a = c.args in
    let l = c.loop-i in
    let P = own (g.S.Standing.transactions a.stand.now) a.first in
    omega (arith, sum-le (l.i - 1) 2 (owed a.n P) (owed-le a.n P), owed-le a.n P l.i, c.owed-sum.ensures)

pub loop-i-preserved : goal.loop-i-preserved
loop-i-preserved g c =
    let a = c.args in
    let l = c.loop-i in
    let v = owed a.n (own (g.S.Standing.transactions a.stand.now) a.first) in
    let e : l.i ≡ l.i + 1 - 1 = omega arith in (
      omega arith,
      ap₂ (λ (x y : ℕ). x + y) l.invariant.1 c.owed-sum.ensures ∙ sum_more v l.i (omega arith) ∙ ap (λ (k : ℕ). sum_to k v) e,
    )

pub returns : goal.returns
returns g c =
    let a = c.args in
    let e : c.loop-i.i - 1 ≡ a.n - 1 = omega arith in
    c.loop-i.invariant.1 ∙ ap (λ (k : ℕ). sum_to k (owed a.n (own (g.S.Standing.transactions a.stand.now) a.first))) e
