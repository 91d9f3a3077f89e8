use Rattle.rings.specs.Passes.{read_at}
use Rattle.rings.proofs.PrecededLaws.{Free}
use Rattle.rings.proofs.preceded.Given as goal

abbrev pub invariant-loop-i : goal.invariant-loop-i
invariant-loop-i l = Free l.total (read_at l.ops) l.t l.i l.others.used l.others.written
