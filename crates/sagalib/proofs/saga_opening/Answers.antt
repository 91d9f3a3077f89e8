use mathlib.Core.Path.{ap}
use lib.ListN.{length}
use Rattle.sagalib.proofs.saga_opening.Goals as goal

pub returns : goal.returns
returns c = ap length c.opening-opening.ensures
