use Rattle.plan.proofs.WordLaws.{name_is, past_word}
use Rattle.plan.proofs.name_of.Goals as goal

pub returns : goal.returns
returns c = name_is c.args.line.now c.past_blanks.ensures (past_word c.args.line.now c.min-letters.ensures)
