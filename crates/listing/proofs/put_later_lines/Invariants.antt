use Prim.Native.Nat.{◌-◌}
use mathlib.Core.Path.{◌≡◌}
use lib.ListN.{length}
use Rattle.onward.proofs.RoomLaws.{Laying}
use Rattle.listing.specs.Lines.{line_count, lines_from}
use Rattle.listing.proofs.put_later_lines.Given as goal

abbrev pub invariant-loop-k : goal.invariant-loop-k
invariant-loop-k l =
    (l.lines ≡ line_count l.judgement) × (length l.room ≡ length l.initial.room)
    × Laying l.at (lines_from l.judgement 1 (line_count l.judgement - 1)) l.initial.room l.end (lines_from l.judgement l.k (line_count l.judgement - l.k)) l.room
