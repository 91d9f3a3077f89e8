use Prim.Native.Nat.{◌≤◌}
use mathlib.Core.Path.{◌≡◌}
use lib.ListN.{length}
use Rattle.listing.proofs.LayLaws.{Digits}
use Rattle.listing.proofs.lay_number.Given as goal

abbrev pub invariant-loop-rest : goal.invariant-loop-rest
invariant-loop-rest l = (length l.room ≡ length l.initial.room) × ((l.rest ≤ l.n) × Digits l.n l.at l.initial.room l.rest l.i l.room)

abbrev pub decreases-loop-rest : goal.decreases-loop-rest
decreases-loop-rest l = l.rest
