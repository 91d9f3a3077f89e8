use Prim.Native.Nat.{◌-◌, ◌≤◌}
use mathlib.Core.Path.{◌≡◌}
use lib.ListN.{length, take}
use Rattle.terms.specs.Limits.{most_bytes}
use Rattle.items.specs.Items.{items_after}
use Rattle.tables.specs.declared.Tables.{Tables}
use Rattle.sheet.specs.Sheet.{Holds}
use Rattle.rules.specs.States.{empty_state}
use Rattle.cells.specs.Cells.{ops_in}
use Rattle.judge.specs.Known.{Ringed}
use Rattle.judge.specs.Lent.{state_in}
use Rattle.onward.specs.Onward.{refused_after, refused_from}
use Rattle.onward.proofs.RoomLaws.{Laying}
use Rattle.listing.specs.Lines.{no_lines}
use Rattle.listing.proofs.put_no_lines_from.Given as goal

abbrev pub invariant-loop-listed : goal.invariant-loop-listed
invariant-loop-listed l =
    (length l.room ≡ length l.initial.room)
    × ((tables : Tables) → Holds tables l.sheet → length l.book ≤ most_bytes
    → Laying l.at (no_lines (take l.count (refused_from tables empty_state 0 (items_after l.edition l.book l.start)))) l.initial.room l.end
    (no_lines (take (l.count - l._listed) (refused_after tables l.edition l.book (state_in l.transactions l.ops l.cursor.count) l.cursor))) l.room
    × (l.cursor.index ≤ l.cursor.place) × Ringed (ops_in l.ops l.cursor.count) l.ringed)
