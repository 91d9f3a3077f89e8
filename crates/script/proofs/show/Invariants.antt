use Rattle.script.proofs.ShowLaws.{Laid}
use Prim.Native.Nat.{◌-◌}
use lib.ListN.{length}
use Rattle.script.proofs.show.Given as goal

abbrev pub invariant-loop-at : goal.invariant-loop-at
invariant-loop-at l = Laid l.fields (length l.initial.room) l.room l.due l.n l.at

abbrev pub decreases-loop-at : goal.decreases-loop-at
decreases-loop-at l = length l.fields - l.at
