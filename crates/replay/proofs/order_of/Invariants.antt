use Rattle.ties.specs.declared.Ops.{Ops}
use Rattle.replay.proofs.CodeLaws.{Known, Begun}
use Rattle.replay.proofs.order_of.Given as goal

abbrev pub invariant-loop-count : goal.invariant-loop-count
invariant-loop-count l = (ops : Ops) → Known ops l.met.rows l.initial.left → Begun ops l.left l.numbers l.count
