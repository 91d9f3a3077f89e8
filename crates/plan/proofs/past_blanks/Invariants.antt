use Rattle.std.proofs.Common.{◌≡◌, drop}
use Rattle.plan.specs.Lines.{past_blanks}
use Rattle.plan.proofs.past_blanks.Given as goal

abbrev pub invariant-loop-i : goal.invariant-loop-i
invariant-loop-i l = past_blanks l.around l.line ≡ past_blanks l.around (drop l.i l.line)
