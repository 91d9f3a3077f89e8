use native.Mathlib.Omega.{arith}
use mathlib.Core.Path.{◌≡◌, ◌∙◌, subst}
use Prim.Native.Nat.{ℕ}
use Rattle.replay.proofs.CodeLaws.{Known, Begun, begun-none, begun_more, begun-done, begun-full, next-is}
use Rattle.replay.proofs.order_of.Goals as goal

pub loop-count-init : goal.loop-count-init
loop-count-init c = λ ops known. begun-none ops _ _ known

pub returns-then-t-ge-TRANSACTIONS : goal.returns-then-t-ge-TRANSACTIONS
returns-then-t-ge-TRANSACTIONS c =
    let ops = c.args.ops in
    let l = c.loop-count in
    let known : Known ops _ _ = record { ties = c.sweep_kept.ensures c.nothing_met-met.ensures; holders = c.holders-left.ensures } in
    let next = c.lowest-t.ensures ∙ next-is ops l.left l.numbers l.count (l.invariant ops known) _ _ _ _ known c.behind-waiting.ensures c.without-free.ensures in
    (begun-done _ _ _ _ (l.invariant ops known) (omega (arith, next)), omega arith)

pub loop-count-preserved : goal.loop-count-preserved
loop-count-preserved c =
    λ ops known.
    let l = c.loop-count in
    let next = c.lowest-t.ensures ∙ next-is ops l.left l.numbers l.count (l.invariant ops known) _ _ _ _ known c.behind-waiting.ensures c.without-free.ensures in
    begun_more _ _ _ _ (l.invariant ops known) _ next (omega arith) (omega arith) _ _ c.with_member-listed.ensures c.without-left.ensures

pub returns : goal.returns
returns c =
    let ops = c.args.ops in
    let l = c.loop-count in
    let known : Known ops c.sweep_kept.new.met.rows c.holders-left.result = record { ties = c.sweep_kept.ensures c.nothing_met-met.ensures; holders = c.holders-left.ensures } in
    let all : l.count ≡ 64 = omega arith in
    (begun-full _ _ _ _ (subst (λ (n : ℕ). Begun ops l.left l.numbers n) all (l.invariant ops known)) (omega arith), omega arith)
