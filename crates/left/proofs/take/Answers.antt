use mathlib.Core.Path.{◌∙◌}
use Rattle.judge.specs.Lent.{state_in}
use Rattle.left.proofs.TakeLaws.{sum_moved}
use Rattle.left.proofs.take.Goals as goal

pub returns : goal.returns
returns c tables h =
    let t = c.take-taken in
    let a = c.args in
    let s = state_in a.transactions.now a.ops.now a.n in
    let s' = state_in t.new.transactions t.new.ops t.result.count in
    let e = t.ensures tables h in (
      e.0,
      (
        e.1,
        c.moved.ensures
            ∙ sum_moved tables a.sheet.now h a.event c.moves_on-sort.result c.moves_on-sort.ensures s s' e.1 a.left
            c.owed_by_sort-before.result c.owed_by_sort-after.result c.owed_by_sort-before.ensures c.owed_by_sort-after.ensures,
      ),
    )
