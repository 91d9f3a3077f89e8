use Rattle.ties.specs.Ties.{tied_to}
use Rattle.ties.proofs.Operation.tied_to.Goals as goal

pub returns : goal.returns
unfolding tied_to
returns c = rw (c.conflicts.ensures, c.is_aborted.ensures)
