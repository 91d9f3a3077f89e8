use native.Mathlib.Omega.{arith}
use mathlib.Core.Path.{◌≡◌, sym, ap, ◌∙◌}
use mathlib.Core.Bool.{Bool, false}
use Prim.Native.Nat.{ℕ}
use lib.ListN.{get_or}
use Rattle.terms.specs.Limits.{most_transactions}
use Rattle.sets.specs.Sets.{set_of}
use Rattle.sets.proofs.SetLaws.{set-of-none, set-of-in, set-of-out}
use Rattle.report.proofs.set_in.Goals as goal
use Rattle.report.proofs.set_in.Goals.{then-marked, else-marked}

pub loop-b-init : goal.loop-b-init
loop-b-init c = sym (set-of-none _)

pub loop-b-preserved : goal.loop-b-preserved
loop-b-preserved c =
    let l = c.loop-b in
    let f : ℕ → Bool = λ k. get_or c.args.row.now k false in
    elim c.if-marked.branch [ then-marked w ↦ w.set-is ∙ w.with_member-set.ensures ∙ set-of-in f l.b l.set l.invariant w.if-marked.true | else-marked w ↦ w.set-is ∙ set-of-out f l.b l.set l.invariant w.if-marked.false ]

pub returns : goal.returns
returns c =
    let l = c.loop-b in
    let all : l.b ≡ most_transactions = omega arith in
    l.invariant ∙ ap (λ (n : ℕ). set_of n (λ k. get_or c.args.row.now k false)) all
