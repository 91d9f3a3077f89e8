use Rattle.script.proofs.ByteLaws.{ended_by, remark-none, remark-some}
use Rattle.script.proofs.ended.Goals as goal

pub returns-in-empty : goal.returns-in-empty
returns-in-empty c = ended_by _ _ _ c.past_blanks.ensures (remark-none _ c.in-empty.len_below)

pub returns-in-len1-up : goal.returns-in-len1-up
returns-in-len1-up c = ended_by _ _ _ c.past_blanks.ensures (remark-some _ c.in-len1-up.len_at_least)
