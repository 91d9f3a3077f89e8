use Rattle.script.proofs.FormLaws.{Heard}
use Rattle.script.proofs.said_by.Given as goal

abbrev pub invariant-loop-b : goal.invariant-loop-b
invariant-loop-b l = Heard l.form l.line l.initial.room l.from l.b-index l.n l.rest l.room
