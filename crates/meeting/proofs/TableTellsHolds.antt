-- No row of the table is cut off, and the worked table is as it is written.
use native.Mathlib.Omega.{arith}
use mathlib.Core.Path.{◌≡◌, refl}
use mathlib.Core.List.{[]}
use Rattle.listing.specs.Texts.{with_all}
use Rattle.listing.specs.Words.{decimal, digits_from}
use Rattle.share.specs.Shares.{common_divisor, divisor_within, lowest}
use Rattle.totals.specs.Figures.{share_of}
use Rattle.totals.specs.declared.Totals.{Totals}
use Rattle.meeting.specs.Promises.{TableTells}
use Rattle.meeting.specs.Rows.{backed_out_head, begun_head, books_read_head, books_refused_head, committed_head, row_of, still_open_head}
use Rattle.meeting.specs.declared.Row.{Row}
use Rattle.meeting.specs.declared.Row.TheVariants.{BackedOut, Begun, BooksRead, BooksRefused, Committed, OfThoseBegun, StillOpen}
use Rattle.meeting.proofs.RowLaws.{count-whole, share-whole}

whole : (t : Totals) (row : Row) → with_all [] (row_of t row) ≡ row_of t row
whole t BooksRead = count-whole books_read_head _ (omega arith)
whole t BooksRefused = count-whole books_refused_head _ (omega arith)
whole t Begun = count-whole begun_head _ (omega arith)
whole t Committed = count-whole committed_head _ (omega arith)
whole t BackedOut = count-whole backed_out_head _ (omega arith)
whole t StillOpen = count-whole still_open_head _ (omega arith)
whole t OfThoseBegun = share-whole (share_of t)

pub table-tells : TableTells
unfolding decimal digits_from share_of lowest common_divisor divisor_within
table-tells = record { whole = whole; spelled = refl }
