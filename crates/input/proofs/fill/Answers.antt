use Rattle.std.proofs.Common.{rules, length-take-le}
use Rattle.std.proofs.lemmas.List.{places}
use Rattle.input.proofs.FillingLaws.{front_grows}
use Rattle.input.proofs.fill.Goals as goal

pub loop-done-preserved-in-Ok : goal.loop-done-preserved-in-Ok
loop-done-preserved-in-Ok g c =
    let before = c.loop-done.invariant in
    (search (rules, places), search (rules, places), front_grows _ _ _ _ c.read.new.buf _ c.loop-done.done c.in-Ok.n (length-take-le _ _ (search (rules, places))) (search (rules, places)) before.2 c.in-Ok.ensures.bytes.0)
