use Rattle.sets.proofs.SetLaws.{trailing-first}
use Rattle.sets.proofs.lowest.Goals as goal

pub returns : goal.returns
returns c = trailing-first 64 c.args.set
