use Rattle.sets.proofs.SetLaws.{less-members}
use native.Mathlib.Omega.{arith}
use Prim.Native.Nat.{ℕ, ◌<◌, ◌^◌}
use mathlib.Core.Path.{◌≡◌, sym, ◌∙◌}
use mathlib.Core.List.{List}
use Rattle.rings.specs.Passes.{pass_to, read_at}
use Rattle.rings.specs.declared.Pass.{Pass}
use Rattle.rings.proofs.PassLaws.{Passed, pass-done}
use Rattle.rings.proofs.SpreadLaws.{known-first, known_more, spread-met, spread-done, spread-less}
use Rattle.rings.proofs.spread.Invariants.{Order}
use Rattle.rings.proofs.spread.Goals as goal

-- what a pass has found
found : (l : List ℕ) (total start from : ℕ) (p : Pass) → p ≡ pass_to total (read_at l) start from → Passed (Order l total) start from p.reached p.missed
found l total start from p e = rw e (pass-done total (read_at l) start from)

pub loop-total-init : goal.loop-total-init
loop-total-init c = (omega arith, known-first (Order c.args.ops.now c.args.total) c.args.start 0)

pub returns-then-member : goal.returns-then-member
returns-then-member c =
    let a = c.args in
    let l = c.loop-total in
    let p = c.one_pass-p in
    spread-met (Order a.ops.now a.total) a.start 0 a.start l.reached p.result.reached p.result.missed l.invariant.1 (found a.ops.now a.total a.start l.reached p.result p.ensures)
    (sym c.member.ensures ∙ c.if-member.true)

pub returns-then-whole-next : goal.returns-then-whole-next
returns-then-whole-next c =
    let a = c.args in
    let l = c.loop-total in
    let p = c.one_pass-p in
    let w = c.without-whole in
    spread-done (Order a.ops.now a.total) a.start 0 a.start l.reached p.result.reached p.result.missed l.invariant.1 (found a.ops.now a.total a.start l.reached p.result p.ensures)
    w.result (less-members _ _ w.result w.ensures) c.if-whole-next.true

pub loop-total-smaller : goal.loop-total-smaller
loop-total-smaller c =
    let a = c.args in
    let l = c.loop-total in
    let p = c.one_pass-p in
    let w = c.without-whole in
    let less : l.reached < p.result.reached = spread-less (Order a.ops.now a.total) a.start 0 a.start l.reached p.result.reached p.result.missed l.invariant.1 (found a.ops.now a.total a.start l.reached p.result p.ensures)
    w.result (less-members _ _ w.result w.ensures) (omega arith) (omega arith) c.if-whole-next.false in
    let most : p.result.reached < 2 ^ 64 = omega arith in
    omega arith

pub loop-total-preserved : goal.loop-total-preserved
loop-total-preserved c =
    let a = c.args in
    let l = c.loop-total in
    let p = c.one_pass-p in (
      omega arith,
      known_more (Order a.ops.now a.total) a.start 0 a.start l.reached p.result.reached p.result.missed l.invariant.1 (found a.ops.now a.total a.start l.reached p.result p.ensures),
    )
