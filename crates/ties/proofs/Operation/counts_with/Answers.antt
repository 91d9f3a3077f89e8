use Rattle.ties.specs.Ties.{counts}
use Rattle.ties.proofs.Operation.counts_with.Goals as goal

pub returns : goal.returns
unfolding counts
returns c = rw (c.conflicts.ensures, c.is_gone.ensures, c.is_gone-2.ensures)
