use native.Mathlib.Omega.{arith}
use mathlib.Core.Path.{ap, ◌∙◌}
use lib.ListN.{get_or}
use Rattle.ties.specs.Operations.{ended_alone}
use Rattle.cells.specs.Cells.{op_in}
use Rattle.cells.proofs.CellLaws.{op_fits, alone-fits, ended-one-stored, ended-one-past}
use Rattle.cells.proofs.ended_one.Goals as goal

pub cell_of-requires : goal.cell_of-requires
cell_of-requires c =
    let a = c.args in
    rw (c.ended_alone.ensures, c.op_in-op.ensures) (alone-fits a.fate c.size-all.result (op_in (get_or a.ops.now a.q 0)) (omega arith) (op_fits (get_or a.ops.now a.q 0)))

pub returns-then-q-all : goal.returns-then-q-all
returns-then-q-all c =
    let a = c.args in
    ended-one-stored a.ops.now a.n a.q a.fate c.size-all.result c.cell_of.result c.size-all.ensures (omega arith)
    (c.cell_of.ensures ∙ c.ended_alone.ensures ∙ ap (ended_alone a.fate c.size-all.result) c.op_in-op.ensures)

pub returns-else-q-all : goal.returns-else-q-all
returns-else-q-all c = let a = c.args in ended-one-past a.ops.now a.n a.q a.fate (omega arith)
