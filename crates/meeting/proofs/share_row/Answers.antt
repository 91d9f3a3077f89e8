use Rattle.meeting.proofs.RowLaws.{first, then}
use Rattle.meeting.proofs.share_row.Goals as goal

pub returns : goal.returns
returns c = first _ c.empty.ensures (then _ _ _ c.word.ensures (then _ _ _ c.number.ensures (then _ _ _ c.word-2.ensures (then _ _ _ c.number-2.ensures c.end.ensures))))
