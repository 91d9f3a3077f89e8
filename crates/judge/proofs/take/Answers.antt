use Rattle.cells.specs.Cells.{ops_in}
use Rattle.judge.proofs.KnownLaws.{none-ringed}
use Rattle.judge.proofs.take.Goals as goal

pub returns : goal.returns
returns c = λ tables h. c.take_knowing.ensures tables h (none-ringed (ops_in c.args.ops.now c.args.n))
