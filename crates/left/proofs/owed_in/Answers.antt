use native.Mathlib.Omega.{arith}
use Rattle.rules.specs.Lent.{transactions_in}
use Rattle.rules.specs.States.{own}
use Rattle.left.proofs.SumLaws.{by-steps}
use Rattle.left.proofs.owed_in.Goals as goal

pub overflow_cast-result : goal.overflow_cast-result
overflow_cast-result c =
    let a = c.args in
    let P = own (transactions_in a.transactions.now) a.first in
    omega (arith, by-steps (P 0) a.n P, c.owed_in.ensures)
