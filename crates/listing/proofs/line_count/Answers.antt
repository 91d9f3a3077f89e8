use Rattle.listing.specs.Lines.{line_count}
use Rattle.listing.proofs.line_count.Goals as goal

pub returns : goal.returns
unfolding line_count
returns c = cc
