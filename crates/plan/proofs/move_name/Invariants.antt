use Rattle.std.proofs.Common.{◌≡◌}
use Rattle.plan.specs.Names.{move_name}
use Rattle.plan.proofs.move_name.Given as goal

abbrev pub invariant-loop-own : goal.invariant-loop-own
invariant-loop-own l = l.at ≡ move_name l.steps l.own-index
