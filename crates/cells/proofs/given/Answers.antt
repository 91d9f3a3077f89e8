use native.Mathlib.Omega.{arith}
use mathlib.Core.Path.{ap, ◌∙◌}
use lib.ListN.{get_or}
use Rattle.ties.specs.Operations.{given_to}
use Rattle.cells.specs.Cells.{op_in}
use Rattle.cells.proofs.CellLaws.{op_fits, given-fits, given-stored, given-past, given-none}
use Rattle.cells.proofs.given.Goals as goal

pub cell_of-requires : goal.cell_of-requires
cell_of-requires c =
    let a = c.args in
    rw (c.given_to.ensures, c.op_in-op.ensures) (given-fits a.receiver (op_in (get_or a.ops.now a.q 0)) (omega arith) (op_fits (get_or a.ops.now a.q 0)))

pub returns-then-q-size : goal.returns-then-q-size
returns-then-q-size c =
    let a = c.args in
    given-stored a.ops.now a.n a.q a.receiver c.cell_of.result (omega arith) (omega arith) (c.cell_of.ensures ∙ c.given_to.ensures ∙ ap (given_to a.receiver) c.op_in-op.ensures)

pub returns-else-q-size : goal.returns-else-q-size
returns-else-q-size c = let a = c.args in given-past a.ops.now a.n a.q a.receiver (omega arith) (omega arith)

pub returns-else-to-lt-TRANSACTIONS : goal.returns-else-to-lt-TRANSACTIONS
returns-else-to-lt-TRANSACTIONS c = let a = c.args in given-none a.ops.now a.n a.q a.receiver (omega arith)
