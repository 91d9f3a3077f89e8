use Rattle.cells.proofs.CellLaws.{cell-back}
use Rattle.cells.proofs.cell_of.Goals as goal

pub returns : goal.returns
returns c =
    let op = c.args.op in
    rw (c.mark_code.ensures, c.fate_code.ensures) (cell-back op c.requires)
