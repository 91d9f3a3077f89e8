use Rattle.std.proofs.Common.{◌≡◌, take}
use Rattle.plan.specs.Lines.{up_to_blanks}
use Rattle.plan.proofs.up_to_blanks.Given as goal

abbrev pub invariant-loop-last : goal.invariant-loop-last
invariant-loop-last l = up_to_blanks l.line ≡ up_to_blanks (take l.last l.line)
