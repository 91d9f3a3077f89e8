use native.Mathlib.Omega.{arith}
use Prim.Native.Nat.{ℕ}
use mathlib.Core.Path.{◌≡◌, sym, ap, ◌∙◌}
use mathlib.Core.Bool.{Bool, true}
use mathlib.Core.List.{List, []}
use lib.ListN.{get_or, set}
use Rattle.laws.specs.Index.{grid}
use Rattle.terms.specs.Limits.{most_transactions}
use Rattle.ties.specs.Operations.{op_at}
use Rattle.ties.proofs.TieLaws.{counts-small}
use Rattle.ties.proofs.TableLaws.{into, by-none, by_all, into-none, into-all, into-mark, into-skip}
use Rattle.ties.proofs.Ops.pairs.Goals as goal
use Rattle.ties.proofs.Ops.pairs.Goals.{then-counts_with, else-counts_with}

pub loop-j-init : goal.loop-j-init
loop-j-init c = by-none c.args.self

pub loop-i-init : goal.loop-i-init
loop-i-init c = c.loop-j.invariant ∙ into-none c.args.self c.loop-j.j

pub bounds-table-a : goal.bounds-table-a
bounds-table-a c = (counts-small _ _ (sym c.counts_with.ensures ∙ c.if-counts_with.true)).0

pub bounds-table-b : goal.bounds-table-b
bounds-table-b c = (counts-small _ _ (sym c.counts_with.ensures ∙ c.if-counts_with.true)).1

pub loop-i-preserved : goal.loop-i-preserved
loop-i-preserved c =
    let ops = c.args.self in
    let j = c.loop-j.j in
    let i = c.loop-i.i in
    let told = c.counts_with.ensures in
    elim c.if-counts_with.branch [
      | then-counts_with w ↦
          w.table-is
          ∙ ap (λ (l : List (List Bool)). set l (op_at ops i).responsible (set (get_or l (op_at ops i).responsible []) (op_at ops j).responsible true)) c.loop-i.invariant
          ∙ into-mark ops j i (sym told ∙ w.if-counts_with.true)
      | else-counts_with w ↦ w.table-is ∙ c.loop-i.invariant ∙ into-skip ops j i (sym told ∙ w.if-counts_with.false)
    ]

pub loop-j-preserved : goal.loop-j-preserved
loop-j-preserved c =
    let ops = c.args.self in
    let j = c.loop-j.j in
    let there : c.loop-i.i ≡ j = omega arith in
    c.loop-i.invariant ∙ ap (λ (n : ℕ). grid most_transactions (into ops j n)) there ∙ into-all ops j

pub returns : goal.returns
returns c = c.loop-j.invariant ∙ by_all _ _ (omega arith)
