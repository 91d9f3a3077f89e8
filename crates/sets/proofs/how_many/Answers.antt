use Rattle.sets.proofs.SetLaws.{ones-count}
use Rattle.sets.proofs.how_many.Goals as goal

pub returns : goal.returns
returns c = ones-count 64 c.args.set c.ranges.set.fits
