use Rattle.moves.proofs.SaidLaws.{first, then}
use Rattle.moves.proofs.left_line.Goals as goal

pub returns : goal.returns
returns c = first _ c.empty.ensures (then _ _ _ c.word.ensures (then _ _ _ c.number.ensures c.end.ensures))
