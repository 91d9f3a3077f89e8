use Rattle.std.proofs.Common.{◌≡◌, ◌+◌, drop}
use Rattle.plan.specs.Passes.{line_length}
use Rattle.plan.proofs.line_end.Given as goal

abbrev pub invariant-loop-end : goal.invariant-loop-end
invariant-loop-end l = l.end + line_length (drop l.end l.text) ≡ l.at + line_length (drop l.at l.text)
