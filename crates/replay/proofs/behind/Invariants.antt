use Rattle.replay.proofs.CodeLaws.{BehindOf}
use Rattle.replay.proofs.behind.Given as goal

abbrev pub invariant-loop-a : goal.invariant-loop-a
invariant-loop-a l = BehindOf l.rows l.some l.a l.set
