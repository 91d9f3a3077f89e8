-- What is promised of the table: no row is cut off, and a worked table letter by letter.
use Rattle.std.specs.Prelude.{◌≡◌, [], ◌∷◌, map}
use Rattle.listing.specs.Texts.{with_all}
use Rattle.totals.specs.declared.Totals.{Totals}
use Rattle.meeting.specs.Rows.{row_of}
use Rattle.meeting.specs.declared.Row.{Row}
use Rattle.meeting.specs.declared.Row.TheVariants.{BackedOut, Begun, BooksRead, BooksRefused, Committed, OfThoseBegun, StillOpen}

-- 5 books, 1 of them refused; 8 sagas begun, 3 of them committed, 2 backed out and 3 still open
abbrev worked : Totals
worked = record { books = 5; refused = 1; begun = 8; committed = 3; backed = 2; unsettled = 3 }

pub record TableTells : Type 0 where
  -- all of a row is told, whatever the totals
  pub whole : (t : Totals) (row : Row) → with_all [] (row_of t row) ≡ row_of t row
  -- 'books read 5', 'books refused 1', 'moves begun 8', 'moves committed 3', 'moves backed out 2', 'moves still open 3', 'share backed out 1 of 4'
  pub spelled : map (row_of worked) (BooksRead ∷ BooksRefused ∷ Begun ∷ Committed ∷ BackedOut ∷ StillOpen ∷ OfThoseBegun ∷ [])
      ≡ (98 ∷ 111 ∷ 111 ∷ 107 ∷ 115 ∷ 32 ∷ 114 ∷ 101 ∷ 97 ∷ 100 ∷ 32 ∷ 53 ∷ 10 ∷ [])
      ∷ (98 ∷ 111 ∷ 111 ∷ 107 ∷ 115 ∷ 32 ∷ 114 ∷ 101 ∷ 102 ∷ 117 ∷ 115 ∷ 101 ∷ 100 ∷ 32 ∷ 49 ∷ 10 ∷ [])
      ∷ (109 ∷ 111 ∷ 118 ∷ 101 ∷ 115 ∷ 32 ∷ 98 ∷ 101 ∷ 103 ∷ 117 ∷ 110 ∷ 32 ∷ 56 ∷ 10 ∷ [])
      ∷ (109 ∷ 111 ∷ 118 ∷ 101 ∷ 115 ∷ 32 ∷ 99 ∷ 111 ∷ 109 ∷ 109 ∷ 105 ∷ 116 ∷ 116 ∷ 101 ∷ 100 ∷ 32 ∷ 51 ∷ 10 ∷ [])
      ∷ (109 ∷ 111 ∷ 118 ∷ 101 ∷ 115 ∷ 32 ∷ 98 ∷ 97 ∷ 99 ∷ 107 ∷ 101 ∷ 100 ∷ 32 ∷ 111 ∷ 117 ∷ 116 ∷ 32 ∷ 50 ∷ 10 ∷ [])
      ∷ (109 ∷ 111 ∷ 118 ∷ 101 ∷ 115 ∷ 32 ∷ 115 ∷ 116 ∷ 105 ∷ 108 ∷ 108 ∷ 32 ∷ 111 ∷ 112 ∷ 101 ∷ 110 ∷ 32 ∷ 51 ∷ 10 ∷ [])
      ∷ (115 ∷ 104 ∷ 97 ∷ 114 ∷ 101 ∷ 32 ∷ 98 ∷ 97 ∷ 99 ∷ 107 ∷ 101 ∷ 100 ∷ 32 ∷ 111 ∷ 117 ∷ 116 ∷ 32 ∷ 49 ∷ 32 ∷ 111 ∷ 102 ∷ 32 ∷ 52 ∷ 10 ∷ [])
      ∷ []
