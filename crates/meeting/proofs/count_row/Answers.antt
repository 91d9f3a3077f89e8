use Rattle.meeting.proofs.RowLaws.{first, then}
use Rattle.meeting.proofs.count_row.Goals as goal

pub returns : goal.returns
returns c = first _ c.empty.ensures (then _ _ _ c.word.ensures (then _ _ _ c.number.ensures c.end.ensures))
