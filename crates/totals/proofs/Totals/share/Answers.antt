use Rattle.totals.specs.Figures.{share_of}
use Rattle.totals.proofs.Totals.share.Goals as goal

pub returns : goal.returns
unfolding share_of
returns c = c.lowest.ensures
