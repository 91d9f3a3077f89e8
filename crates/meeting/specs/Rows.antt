-- The rows of the table for the term meeting, byte for byte: 'books read 5', 'books refused 1', 'moves begun 4', 'moves committed 1', 'moves backed out 1', 'moves still
-- open 2', 'share backed out 1 of 4'.
use Rattle.std.specs.Prelude.{ℕ, List, [], ◌∷◌, ◌++◌}
use Rattle.listing.specs.Words.{decimal, line_feed}
use Rattle.share.specs.declared.Share.{Share}
use Rattle.totals.specs.Figures.{share_of}
use Rattle.totals.specs.declared.Totals.{Totals}
use Rattle.meeting.specs.declared.Row.{Row}
use Rattle.meeting.specs.declared.Row.TheVariants.{BackedOut, Begun, BooksRead, BooksRefused, Committed, OfThoseBegun, StillOpen}

-- ---- the words, letter by letter

-- 'books read '
abbrev pub books_read_head : List ℕ
books_read_head = 98 ∷ 111 ∷ 111 ∷ 107 ∷ 115 ∷ 32 ∷ 114 ∷ 101 ∷ 97 ∷ 100 ∷ 32 ∷ []

-- 'books refused '
abbrev pub books_refused_head : List ℕ
books_refused_head = 98 ∷ 111 ∷ 111 ∷ 107 ∷ 115 ∷ 32 ∷ 114 ∷ 101 ∷ 102 ∷ 117 ∷ 115 ∷ 101 ∷ 100 ∷ 32 ∷ []

-- 'moves begun '
abbrev pub begun_head : List ℕ
begun_head = 109 ∷ 111 ∷ 118 ∷ 101 ∷ 115 ∷ 32 ∷ 98 ∷ 101 ∷ 103 ∷ 117 ∷ 110 ∷ 32 ∷ []

-- 'moves committed '
abbrev pub committed_head : List ℕ
committed_head = 109 ∷ 111 ∷ 118 ∷ 101 ∷ 115 ∷ 32 ∷ 99 ∷ 111 ∷ 109 ∷ 109 ∷ 105 ∷ 116 ∷ 116 ∷ 101 ∷ 100 ∷ 32 ∷ []

-- 'moves backed out '
abbrev pub backed_out_head : List ℕ
backed_out_head = 109 ∷ 111 ∷ 118 ∷ 101 ∷ 115 ∷ 32 ∷ 98 ∷ 97 ∷ 99 ∷ 107 ∷ 101 ∷ 100 ∷ 32 ∷ 111 ∷ 117 ∷ 116 ∷ 32 ∷ []

-- 'moves still open '
abbrev pub still_open_head : List ℕ
still_open_head = 109 ∷ 111 ∷ 118 ∷ 101 ∷ 115 ∷ 32 ∷ 115 ∷ 116 ∷ 105 ∷ 108 ∷ 108 ∷ 32 ∷ 111 ∷ 112 ∷ 101 ∷ 110 ∷ 32 ∷ []

-- 'share backed out '
abbrev pub share_head : List ℕ
share_head = 115 ∷ 104 ∷ 97 ∷ 114 ∷ 101 ∷ 32 ∷ 98 ∷ 97 ∷ 99 ∷ 107 ∷ 101 ∷ 100 ∷ 32 ∷ 111 ∷ 117 ∷ 116 ∷ 32 ∷ []

-- ' of '
abbrev pub of_word : List ℕ
of_word = 32 ∷ 111 ∷ 102 ∷ 32 ∷ []

-- ---- the rows

abbrev pub count_row : List ℕ → ℕ → List ℕ
count_row words n = words ++ (decimal n ++ line_feed)

abbrev pub share_row : Share → List ℕ
share_row r = share_head ++ (decimal r.part ++ (of_word ++ (decimal r.whole ++ line_feed)))

abbrev pub row_of : Totals → Row → List ℕ
row_of t BooksRead = count_row books_read_head t.books
row_of t BooksRefused = count_row books_refused_head t.refused
row_of t Begun = count_row begun_head t.begun
row_of t Committed = count_row committed_head t.committed
row_of t BackedOut = count_row backed_out_head t.backed
row_of t StillOpen = count_row still_open_head t.unsettled
row_of t OfThoseBegun = share_row (share_of t)
