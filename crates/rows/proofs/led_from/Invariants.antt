use Prim.Native.Nat.{◌-◌, ◌^◌}
use Rattle.rows.specs.Rows.{mem_at}
use Rattle.rows.proofs.LedLaws.{Growing}
use Rattle.rows.proofs.led_from.Given as goal

abbrev pub invariant-loop-from : goal.invariant-loop-from
invariant-loop-from l = Growing (mem_at l.rows) l.from l.reached l.done

abbrev pub decreases-loop-from : goal.decreases-loop-from
decreases-loop-from l = 2 ^ 64 - l.done
