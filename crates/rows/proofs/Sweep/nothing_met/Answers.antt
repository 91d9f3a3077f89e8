use Rattle.rows.proofs.SweepLaws.{swept_none}
use Rattle.rows.proofs.Sweep.nothing_met.Goals as goal

pub returns : goal.returns
returns c n op = swept_none n op
