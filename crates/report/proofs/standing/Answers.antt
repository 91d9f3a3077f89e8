use native.Mathlib.Omega.{arith}
use mathlib.Core.Path.{◌≡◌, ap, ap₂, ◌∙◌}
use mathlib.Core.Bool.{Bool}
use mathlib.Core.List.{List}
use lib.ListN.{set}
use Prim.Native.Nat.{ℕ}
use Rattle.laws.specs.Index.{tabulate}
use Rattle.terms.specs.Limits.{most_transactions}
use Rattle.ties.specs.Ties.{before, pairs_of}
use Rattle.report.proofs.RowLaws.{filled, rows_none, rows_more, rows_all}
use Rattle.report.proofs.standing.Goals as goal

pub loop-a-init : goal.loop-a-init
loop-a-init c = rows_none c.pairs-table.result

pub loop-a-preserved : goal.loop-a-preserved
loop-a-preserved c =
    let table = c.pairs-table.result in
    let l = c.loop-a in
    ap₂ (λ (rows : List ℕ) (v : ℕ). set rows l.a v) l.invariant c.set_in.ensures ∙ rows_more table l.a

pub returns : goal.returns
unfolding pairs_of
returns c =
    let l = c.loop-a in
    let p = c.pairs-table in
    let all : l.a ≡ most_transactions = omega arith in
    l.invariant
    ∙ ap (λ (n : ℕ). tabulate most_transactions (filled p.result n)) all
    ∙ ap (λ (t : List (List Bool)). tabulate most_transactions (filled t most_transactions)) p.ensures
    ∙ rows_all (before c.args.ops)
