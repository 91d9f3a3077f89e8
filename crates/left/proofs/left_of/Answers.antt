use native.Mathlib.Omega.{arith}
use Prim.Native.Nat.{◌+◌, ◌≤◌}
use mathlib.Core.Path.{◌≡◌, ap, ap₂, ◌∙◌}
use mir.Val.{Fits}
use mir.Syntax.{w8}
use lib.ListN.{get_or}
use Rattle.tables.specs.Counts.{saga_count}
use Rattle.closing.specs.Settling.{owed_below}
use Rattle.left.specs.Left.{left_in}
use Rattle.left.proofs.SumLaws.{below_more, below_none, outstanding-le}
use borrow.Author.Rules.{rules}
use Rattle.left.proofs.left_of.Goals as goal

-- what one saga owes
small : (c : goal.After-outstanding-sum) → c.outstanding-sum.result ≤ 600
small c =
    let a = c.args in
    let l = c.loop-i in
    let b : Fits w8 (get_or a.tables.steps l.i 0) = search rules in
    omega (arith, outstanding-le a.tables a.state l.i (omega arith), c.outstanding-sum.ensures)

pub loop-i-init : goal.loop-i-init
loop-i-init c = (c.saga_count-sagas.ensures, omega arith, below_none _ _)

pub overflow_add-sum : goal.overflow_add-sum
overflow_add-sum c = omega (arith, small c)

pub loop-i-preserved : goal.loop-i-preserved
loop-i-preserved c =
    let l = c.loop-i in
    (l.invariant.0, omega (arith, small c), ap₂ ◌+◌ l.invariant.2 c.outstanding-sum.ensures ∙ below_more c.args.tables c.args.state l.i)

pub returns : goal.returns
unfolding left_in
returns c =
    let l = c.loop-i in
    let e : l.i ≡ saga_count c.args.tables = omega arith in
    l.invariant.2 ∙ ap (owed_below c.args.tables c.args.state) e
