use Rattle.cells.specs.Cells.{op_in}
use Rattle.cells.proofs.op_in.Goals as goal

pub returns : goal.returns
unfolding op_in
returns c = cc
