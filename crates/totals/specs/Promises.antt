-- What is promised of the term's figures.
use Rattle.std.specs.Prelude.{ℕ, ◌+◌, ◌≤◌, ◌<◌, min, ◌≡◌, Bool, true, false, not, ◌↔◌, ◌≢◌, Ok, Err, List, [], ◌∷◌, eqb, length, take}
use Rattle.laws.specs.Index.{one}
use Rattle.terms.specs.Limits.{most_bytes, most_sagas}
use Rattle.terms.specs.Refusals.{verdict_number}
use Rattle.terms.specs.declared.Refusal.{Refusal}
use Rattle.terms.specs.declared.Verdict.{Verdict}
use Rattle.terms.specs.declared.Verdict.TheVariants.{Accepted, Refused}
use Rattle.tables.specs.Reading.{edition_of, tables_by}
use Rattle.tables.specs.declared.Circles.TheVariants.{Forbidden}
use Rattle.tables.specs.declared.Tables.{Tables}
use Rattle.rules.specs.declared.Phase.TheVariants.{Committed, Idle}
use Rattle.rules.specs.declared.State.{State}
use Rattle.closing.specs.Closing.{own_of, settled}
use Rattle.book.specs.Reading.{opening_of, reading_of}
use Rattle.share.specs.Promises.{InLowestTerms}
use Rattle.totals.specs.Figures.{add_answer, added_to, answer_number, how_many, is_open, is_refused, most_books, share_of, term_of, was_backed_out, was_begun, was_committed}
use Rattle.totals.specs.declared.NotRead.TheVariants.{TooManyBooks}
use Rattle.number.specs.Number.{fault}

-- ---- one saga: each of the four exactly when its sentence holds, in any state

pub record SagaStands (tables : Tables) (s : State) (i : ℕ) : Type 0 where
  pub begun : (was_begun tables s i ≡ true) ↔ (own_of tables s i 0 ≢ Idle)
  pub committed : (was_committed tables s i ≡ true) ↔ (own_of tables s i 0 ≡ Committed)
  -- "backed out" as in the record move: begun, settled and not committed
  pub backed_out : (was_backed_out tables s i ≡ true) ↔ ((own_of tables s i 0 ≢ Idle) × (settled tables s i ≡ true) × (own_of tables s i 0 ≢ Committed))
  -- "still open": begun and not settled
  pub still_open : (is_open tables s i ≡ true) ↔ ((own_of tables s i 0 ≢ Idle) × (settled tables s i ≡ false))

-- ---- counting: each saga of the tables counts once, and no other does

pub record EachOnce (tables : Tables) (s : State) : Type 0 where
  -- where just one stands so, that is one
  pub one_saga : (i : ℕ) → i < min tables.sagas most_sagas → how_many (λ (t : Tables) (u : State) (k : ℕ). eqb k i) tables s ≡ 1
  -- those that stand so and those that do not are all there are
  pub all_sagas : (stands : Tables → State → ℕ → Bool)
      → how_many stands tables s + how_many (λ (t : Tables) (u : State) (k : ℕ). not (stands t u k)) tables s ≡ min tables.sagas most_sagas

-- ---- one book: "Each count is defined from the books alone"

abbrev pub begun_in : List ℕ → ℕ
begun_in s = how_many was_begun (reading_of s).tables (reading_of s).state

abbrev pub committed_in : List ℕ → ℕ
committed_in s = how_many was_committed (reading_of s).tables (reading_of s).state

abbrev pub backed_out_in : List ℕ → ℕ
backed_out_in s = how_many was_backed_out (reading_of s).tables (reading_of s).state

abbrev pub open_in : List ℕ → ℕ
open_in s = how_many is_open (reading_of s).tables (reading_of s).state

-- 1 for a book that is refused
abbrev pub refused_in : List ℕ → ℕ
refused_in s = one (is_refused (reading_of s).answer)

-- the same four counts
pub record SameCounts (s t : List ℕ) : Type 0 where
  pub begun : begun_in s ≡ begun_in t
  pub committed : committed_in s ≡ committed_in t
  pub backed_out : backed_out_in s ≡ backed_out_in t
  pub still_open : open_in s ≡ open_in t

pub record OneBook (s : List ℕ) : Type 0 where
  -- "a refused book [..] is counted apart": by whatever it is refused
  pub accepted : (reading_of s).answer ≡ Accepted → refused_in s ≡ 0
  pub refused : (r : Refusal) → (reading_of s).answer ≡ Refused r → refused_in s ≡ 1
  pub adds_up : committed_in s + backed_out_in s + open_in s ≡ begun_in s
  -- "a refused book adds its accepted opening": that is a book accepted whole, and it has the same counts
  pub opening : (at : ℕ) → length s ≤ most_bytes → (tables_by Forbidden (edition_of s) s).answer ≡ Ok at
      → (refused_in (opening_of s) ≡ 0) × SameCounts s (opening_of s)
  -- one whose tables are refused, or that is too long, adds nothing but that it was refused
  pub no_tables : (r : Refusal) (p : ℕ) → (tables_by Forbidden (edition_of s) s).answer ≡ fault r p → (refused_in s ≡ 1) × (begun_in s ≡ 0)
  pub too_long : most_bytes < length s → (refused_in s ≡ 1) × (begun_in s ≡ 0)

-- ---- the term: any list of books, one after the other

unfoldable pub sum_over : (List ℕ → ℕ) → List (List ℕ) → ℕ
sum_over f [] = 0
sum_over f (s ∷ books) = f s + sum_over f books

pub record TermTotals (books : List (List ℕ)) : Type 0 where
  -- each total is the sum, over the first 1,000, of a count on the book alone
  pub books_read : (term_of books).books ≡ length (take most_books books)
  pub refused : (term_of books).refused ≡ sum_over (refused_in) (take most_books books)
  pub begun : (term_of books).begun ≡ sum_over (begun_in) (take most_books books)
  pub committed : (term_of books).committed ≡ sum_over (committed_in) (take most_books books)
  pub backed_out : (term_of books).backed ≡ sum_over (backed_out_in) (take most_books books)
  pub still_open : (term_of books).unsettled ≡ sum_over (open_in) (take most_books books)
  -- "committed, backed out and open add up to begun"
  pub adds_up : (term_of books).committed + (term_of books).backed + (term_of books).unsettled ≡ (term_of books).begun
  -- "the share backed out of those begun as two whole numbers brought to lowest terms"
  pub share : InLowestTerms (sum_over (backed_out_in) (take most_books books)) (sum_over (begun_in) (take most_books books)) (share_of (term_of books))
  -- the next book is read, while there are fewer than 1,000
  pub next : length books < most_books → (s : List ℕ) → add_answer (term_of books) s ≡ Ok (reading_of s).answer
  -- "23 for the 1,001st book, totals unchanged"
  pub too_many : most_books ≤ length books → (s : List ℕ)
      → (add_answer (term_of books) s ≡ Err TooManyBooks) × (added_to (term_of books) s ≡ term_of books)

pub record TermFigures : Type 0 where
  pub saga : (tables : Tables) (s : State) (i : ℕ) → SagaStands tables s i
  pub once : (tables : Tables) (s : State) → EachOnce tables s
  pub book : (s : List ℕ) → OneBook s
  pub term : (books : List (List ℕ)) → TermTotals books
  -- "up to 1,000 books", 23 for one more, and the number of its refusal for a book that was read, 0 for an accepted one
  pub numbers : (most_books ≡ 1000) × ((answer_number (Err TooManyBooks) ≡ 23) × ((v : Verdict) → answer_number (Ok v) ≡ verdict_number v))
