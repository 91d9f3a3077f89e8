use native.Mathlib.Omega.{arith}
use Prim.Native.Nat.{ℕ, ◌+◌, ◌≤◌}
use mathlib.Core.Path.{◌≡◌, sym, ap, ◌∙◌, subst, subst⁻¹}
use mathlib.Core.List.{List}
use lib.ListN.{length, take}
use Rattle.terms.specs.Limits.{most_bytes, most_transactions}
use Rattle.number.specs.declared.Edition.{Edition}
use Rattle.items.specs.Items.{items_after}
use Rattle.rules.specs.States.{empty_state}
use Rattle.tables.specs.Reading.{edition_of, tables_by}
use Rattle.tables.specs.Sorts.{number_of_all}
use Rattle.tables.specs.declared.Circles.{Circles}
use Rattle.tables.specs.declared.TablesRead.{TablesRead}
use Rattle.tables.proofs.AcceptedWellHolds.{accepted-well}
use Rattle.std.specs.Prelude.{Ok}
use Rattle.onward.specs.Onward.{refused_by, refused_from}
use Rattle.onward.specs.Rooms.{Lays}
use Rattle.onward.specs.declared.No.{No}
use Rattle.onward.proofs.OnwardLaws.{long-refused, refused_none, refused-there}
use Rattle.onward.proofs.RoomLaws.{nothing-laid}
use Rattle.listing.specs.Lines.{most_listing, no_lines}
use Rattle.listing.proofs.StepLaws.{nos-end, nos-none}
use Rattle.listing.proofs.put_no_lines.Goals as goal

-- the tables are read as those of the edition that the book names
tables-are : (circles : Circles) (book : List ℕ) (ed : Edition) (read : TablesRead) → read ≡ tables_by circles ed book → ed ≡ edition_of book
    → read ≡ tables_by circles (edition_of book) book
tables-are circles book ed read e same = e ∙ ap (λ (x : Edition). tables_by circles x book) same

-- and the refused events are those that a book of that edition has from its first event on
refused-are : (circles : Circles) (book : List ℕ) (ed : Edition) (read : TablesRead) → read ≡ tables_by circles ed book → ed ≡ edition_of book
    → (start : ℕ) → length book ≤ most_bytes → read.answer ≡ Ok start
    → refused_from read.tables empty_state 0 (items_after ed book start) ≡ refused_by circles (edition_of book) book
refused-are circles book ed read e same start short answer =
    ap (λ (x : Edition). refused_from read.tables empty_state 0 (items_after x book start)) same
    ∙ refused-there circles (edition_of book) book short read (tables-are circles book ed read e same) start answer

pub returns-then-count-eq0 : goal.returns-then-count-eq0
returns-then-count-eq0 c = let a = c.args in nothing-laid a.at a.room.now (nos-end a.count _ (omega arith))

pub returns-then-book-gt-BYTES : goal.returns-then-book-gt-BYTES
returns-then-book-gt-BYTES c =
    let a = c.args in
    nothing-laid a.at a.room.now (nos-none a.count (long-refused a.circles (edition_of a.book.now) a.book.now (omega arith)))

pub put_no_lines_from-requires : goal.put_no_lines_from-requires
put_no_lines_from-requires c =
    let a = c.args in
    let read = c.read_tables-read in
    let ed = c.edition_of-edition in
    let answer = c.in-Ok.is in
    let same = tables-are a.circles a.book.now ed.result read.result read.ensures ed.ensures in
    let accepted = ap (λ (x : TablesRead). x.answer) (sym same) ∙ answer in
    let few = subst⁻¹ (λ (x : TablesRead). number_of_all x.tables ≤ most_transactions) same (accepted-well a.circles (edition_of a.book.now) a.book.now _ accepted).fits in
    let all = refused-are a.circles a.book.now ed.result read.result read.ensures ed.ensures _ (omega arith) answer in
    (few, (omega arith, subst⁻¹ (λ (l : List No). a.at + length (no_lines (take a.count l)) ≤ most_listing) all c.requires))

pub returns-in-Ok : goal.returns-in-Ok
returns-in-Ok c =
    let a = c.args in
    let read = c.read_tables-read in
    let ed = c.edition_of-edition in
    let p = c.put_no_lines_from in
    let all = refused-are a.circles a.book.now ed.result read.result read.ensures ed.ensures _ (omega arith) c.in-Ok.is in
    subst (λ (l : List No). Lays a.at (no_lines (take a.count l)) a.room.now p.result p.new.room) all p.ensures

pub returns-in-Err : goal.returns-in-Err
returns-in-Err c =
    let a = c.args in
    let read = c.read_tables-read in
    let ed = c.edition_of-edition in
    let same = tables-are a.circles a.book.now ed.result read.result read.ensures ed.ensures in
    nothing-laid a.at a.room.now (nos-none a.count (refused_none a.circles (edition_of a.book.now) a.book.now (omega arith) read.result same _ _ c.in-Err.is))
