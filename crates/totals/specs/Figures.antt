-- The term's figures (document 02, request 12): "how many sagas were begun, committed, backed out and still open; and the share backed out of those begun". "Books are read in
-- request 8's old way; a refused book adds its accepted opening and is counted apart. Refusals: 23 for the 1,001st book, totals unchanged."
use Rattle.std.specs.Prelude.{ℕ, ◌+◌, ◌*◌, min, Bool, true, false, cond, not, ◌&&◌, Result, Ok, Err, List, [], ◌∷◌, ltb}
use Rattle.laws.specs.Index.{count_below, one}
use Rattle.terms.specs.Limits.{most_sagas}
use Rattle.terms.specs.Refusals.{verdict_number}
use Rattle.terms.specs.declared.Verdict.{Verdict}
use Rattle.terms.specs.declared.Verdict.TheVariants.{Accepted, Refused}
use Rattle.tables.specs.Counts.{saga_count}
use Rattle.tables.specs.declared.Tables.{Tables}
use Rattle.rules.specs.States.{is_committed, is_idle}
use Rattle.rules.specs.declared.Phase.{Phase}
use Rattle.rules.specs.declared.State.{State}
use Rattle.closing.specs.Closing.{own_of, settled}
use Rattle.book.specs.Reading.{reading_of}
use Rattle.book.specs.declared.Reading.{Reading}
use Rattle.share.specs.Shares.{lowest}
use Rattle.share.specs.declared.Share.{Share}
use Rattle.totals.specs.declared.NotRead.{NotRead}
use Rattle.totals.specs.declared.NotRead.TheVariants.{TooManyBooks}
use Rattle.totals.specs.declared.SagaCounts.{SagaCounts}
use Rattle.totals.specs.declared.Totals.{Totals}

-- ---- one saga, by the phase of S and whether it is settled

abbrev pub begun_by : Phase → Bool
begun_by p = not (is_idle p)

-- begun, settled, and not committed
abbrev pub backed_out_by : Phase → Bool → Bool
backed_out_by p settled = begun_by p && (settled && not (is_committed p))

-- begun, and not settled
abbrev pub open_by : Phase → Bool → Bool
open_by p settled = begun_by p && not settled

-- the saga of index i, in the state after the accepted events of a book
abbrev pub was_begun : Tables → State → ℕ → Bool
was_begun tables s i = begun_by (own_of tables s i 0)

abbrev pub was_committed : Tables → State → ℕ → Bool
was_committed tables s i = is_committed (own_of tables s i 0)

abbrev pub was_backed_out : Tables → State → ℕ → Bool
was_backed_out tables s i = backed_out_by (own_of tables s i 0) (settled tables s i)

abbrev pub is_open : Tables → State → ℕ → Bool
is_open tables s i = open_by (own_of tables s i 0) (settled tables s i)

-- ---- one book

-- how many sagas stand so
abbrev pub how_many : (Tables → State → ℕ → Bool) → Tables → State → ℕ
how_many stands tables s = count_below (saga_count tables) (stands tables s)

unfoldable pub counts_of : Tables → State → SagaCounts
counts_of tables s =
    record {
      begun = how_many was_begun tables s;
      committed = how_many was_committed tables s;
      backed = how_many was_backed_out tables s;
      unsettled = how_many is_open tables s;
    }

abbrev pub is_refused : Verdict → Bool
is_refused Accepted = false
is_refused (Refused r) = true

-- ---- the totals

-- "up to 1,000 books"
abbrev pub most_books : ℕ
most_books = 1000

abbrev pub no_totals : Totals
no_totals = record { books = 0; refused = 0; begun = 0; committed = 0; backed = 0; unsettled = 0 }

-- a total with more; one that is larger than the sagas of 1,000 books, which no books bring about, counts as they are
abbrev pub grown : ℕ → ℕ → ℕ
grown total more = min total (most_books * most_sagas) + more

-- with a book that was read
unfoldable pub with_book : Totals → Reading → Totals
with_book t r =
    record {
      books = t.books + 1;
      refused = grown t.refused (one (is_refused r.answer));
      begun = grown t.begun (counts_of r.tables r.state).begun;
      committed = grown t.committed (counts_of r.tables r.state).committed;
      backed = grown t.backed (counts_of r.tables r.state).backed;
      unsettled = grown t.unsettled (counts_of r.tables r.state).unsettled;
    }

-- "Books are read in request 8's old way"; the 1,001st is not read
unfoldable pub added_to : Totals → List ℕ → Totals
added_to t s = cond (ltb t.books most_books) (with_book t (reading_of s)) t

-- the verdict of reading the book, or why it was not read
abbrev pub Answer : Type 0
Answer = Result Verdict NotRead

unfoldable pub add_answer : Totals → List ℕ → Answer
add_answer t s = cond (ltb t.books most_books) (Ok (reading_of s).answer) (Err TooManyBooks)

abbrev pub answer_number : Answer → ℕ
answer_number (Ok v) = verdict_number v
answer_number (Err TooManyBooks) = 23

-- one book after the other
unfoldable pub added_all : Totals → List (List ℕ) → Totals
added_all t [] = t
added_all t (s ∷ books) = added_all (added_to t s) books

abbrev pub term_of : List (List ℕ) → Totals
term_of books = added_all no_totals books

-- "the share backed out of those begun"
unfoldable pub share_of : Totals → Share
share_of t = lowest t.backed t.begun
