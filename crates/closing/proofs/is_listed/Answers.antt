use mathlib.Core.Path.{ap}
use lib.Dec.{ltb}
use Rattle.closing.proofs.is_listed.Goals as goal

pub returns : goal.returns
returns c = ap (ltb c.before.args.saga) c.saga_count.ensures
