use mathlib.Core.Path.{◌≡◌}
use Rattle.ties.specs.Operations.{size}
use Rattle.replay.proofs.CodeLaws.{HoldersOf}
use Rattle.replay.proofs.holders.Given as goal

abbrev pub invariant-loop-i : goal.invariant-loop-i
invariant-loop-i l = (l.total ≡ size l.ops) × HoldersOf l.ops l.i l.set
