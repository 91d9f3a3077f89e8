-- What is promised of the term's figures holds.
use Prim.Native.Nat.{ℕ, ◌+◌, ◌*◌, ◌≤◌, ◌<◌}
use native.Mathlib.Omega.{arith}
use mathlib.Core.Path.{◌≡◌, refl, sym, ap, ap₂, ◌∙◌, subst}
use mathlib.Core.List.{List}
use lib.ListN.{length, length-take, take}
use Rattle.laws.specs.Index.{count_below, one}
use Rattle.laws.proofs.Decisions.{lt-or}
use Rattle.terms.specs.Limits.{most_bytes, most_sagas}
use Rattle.terms.specs.declared.Refusal.{Refusal}
use Rattle.terms.specs.declared.Verdict.{Verdict}
use Rattle.tables.specs.Counts.{saga_count}
use Rattle.tables.specs.Reading.{empty_tables}
use Rattle.tables.specs.declared.Circles.TheVariants.{Forbidden}
use Rattle.tables.specs.declared.Tables.{Tables}
use Rattle.rules.specs.declared.State.{State}
use Rattle.book.specs.Demands.{NothingRead}
use Rattle.number.specs.declared.Edition.{Edition}
use Rattle.tables.specs.Reading.{edition_of}
use Rattle.book.specs.declared.Reading.{Reading}
use Rattle.book.proofs.ReadLaws.{accepted-edition}
use Rattle.book.specs.Reading.{reading_by, opening_of, reading_of}
use Rattle.book.proofs.DemandsHold.{demand2}
use Rattle.share.specs.Promises.{InLowestTerms}
use Rattle.share.specs.Shares.{lowest}
use Rattle.share.proofs.SharesHold.{shares-hold}
use Rattle.totals.specs.Figures.{added_to, counts_of, grown, how_many, is_open, is_refused, most_books, no_totals, share_of, term_of, was_backed_out, was_begun, was_committed, with_book}
use Rattle.totals.specs.Promises.{EachOnce, OneBook, TermFigures, TermTotals, backed_out_in, begun_in, committed_in, open_in, refused_in, sum_over}
use Rattle.totals.specs.declared.SagaCounts.{SagaCounts}
use Rattle.totals.specs.declared.Totals.{Totals}
use Rattle.totals.proofs.CountLaws.{count-apart, count-both, count-itself}
use Rattle.totals.proofs.FiguresLaws.{counts-small, one_more, one-small, one-too-many}
use Rattle.totals.proofs.SagaLaws.{saga-apart, saga-stands}
use Rattle.totals.proofs.SumLaws.{books-more, is_read, sum-apart, sum_ones, total-after}

-- ---- counting

each-once : (tables : Tables) (s : State) → EachOnce tables s
each-once tables s =
    record {
      one_saga = λ i l. count-itself (saga_count tables) i l;
      all_sagas = λ stands. count-both (saga_count tables) (stands tables s);
    }

-- ---- one book

book-apart : (s : List ℕ) → committed_in s + backed_out_in s + open_in s ≡ begun_in s
book-apart s =
    let tables = (reading_of s).tables in
    let state = (reading_of s).state in
    count-apart (saga_count tables) (was_begun tables state) (was_committed tables state) (was_backed_out tables state) (is_open tables state) (saga-apart tables state)

nothing-counted : (s : List ℕ) (r : Refusal) (p : ℕ) → NothingRead Forbidden (edition_of s) s r p → (refused_in s ≡ 1) × (begun_in s ≡ 0)
unfolding count_below empty_tables
nothing-counted s r p n =
    (ap (λ (v : Verdict). one (is_refused v)) n.answer, ap₂ (how_many was_begun) n.tables n.state)

one-book : (s : List ℕ) → OneBook s
one-book s =
    record {
      accepted = λ e. ap (λ (v : Verdict). one (is_refused v)) e;
      refused = λ r e. ap (λ (v : Verdict). one (is_refused v)) e;
      adds_up = book-apart s;
      opening = λ at l e.
          let o = demand2.opens Forbidden (edition_of s) s at l e in
          let again : reading_of (opening_of s) ≡ reading_by Forbidden (edition_of s) (opening_of s) =
          ap (λ (ed : Edition). reading_by Forbidden ed (opening_of s)) (accepted-edition Forbidden (edition_of s) (opening_of s) o.whole_again) in
          let state = ap (λ (r : Reading). r.state) again ∙ o.same_state in
          let tables = ap (λ (r : Reading). r.tables) again ∙ o.same_tables in
          let same : (stands : Tables → State → ℕ → _) → how_many stands (reading_of s).tables (reading_of s).state ≡ how_many stands (reading_of (opening_of s)).tables (reading_of (opening_of s)).state =
          λ stands. ap₂ (how_many stands) (sym tables) (sym state) in (
            ap (λ (v : Verdict). one (is_refused v)) (ap (λ (r : Reading). r.answer) again ∙ o.whole_again),
            record { begun = same was_begun; committed = same was_committed; backed_out = same was_backed_out; still_open = same is_open },
          );
      no_tables = λ r p e.
          lt-or most_bytes (length s)
          (λ l. nothing-counted s _ _ (demand2.too_long Forbidden (edition_of s) s l))
          (λ l. nothing-counted s r p (demand2.reads_nothing Forbidden (edition_of s) s r p l e));
      too_long = λ l. nothing-counted s _ _ (demand2.too_long Forbidden (edition_of s) s l);
    }

-- ---- the term

counts : List ℕ → SagaCounts
counts s = counts_of (reading_of s).tables (reading_of s).state

-- where all that came before is small, a total grows by just what the book has
grows : (total : Totals → ℕ) (f : List ℕ → ℕ) → ((t : Totals) (s : List ℕ) → total (with_book t (reading_of s)) ≡ grown (total t) (f s))
    → (t : Totals) (s : List ℕ) → t.books < most_books → total t ≤ most_books * most_sagas → total (added_to t s) ≡ total t + f s
grows total f with-book t s l b = ap total (is_read t s l) ∙ with-book t s ∙ omega arith

-- so after any books it is the sum over the first 1,000
summed : (total : Totals → ℕ) (f : List ℕ → ℕ) → total no_totals ≡ 0 → ((s : List ℕ) → f s ≤ most_sagas)
    → ((t : Totals) (s : List ℕ) → total (with_book t (reading_of s)) ≡ grown (total t) (f s))
    → (books : List (List ℕ)) → total (term_of books) ≡ sum_over f (take most_books books)
summed total f none small with-book books =
    omega (arith, none, total-after total f small (grows total f with-book) most_books books no_totals refl (omega (arith, none)))

begun-sum : (books : List (List ℕ)) → (term_of books).begun ≡ sum_over (begun_in) (take most_books books)
unfolding with_book counts_of
begun-sum = summed (λ t. t.begun) (begun_in) refl (λ s. (counts-small (reading_of s).tables (reading_of s).state).begun) (λ t s. refl)

committed-sum : (books : List (List ℕ)) → (term_of books).committed ≡ sum_over (committed_in) (take most_books books)
unfolding with_book counts_of
committed-sum = summed (λ t. t.committed) (committed_in) refl (λ s. (counts-small (reading_of s).tables (reading_of s).state).committed) (λ t s. refl)

backed-sum : (books : List (List ℕ)) → (term_of books).backed ≡ sum_over (backed_out_in) (take most_books books)
unfolding with_book counts_of
backed-sum = summed (λ t. t.backed) (backed_out_in) refl (λ s. (counts-small (reading_of s).tables (reading_of s).state).backed) (λ t s. refl)

open-sum : (books : List (List ℕ)) → (term_of books).unsettled ≡ sum_over (open_in) (take most_books books)
unfolding with_book counts_of
open-sum = summed (λ t. t.unsettled) (open_in) refl (λ s. (counts-small (reading_of s).tables (reading_of s).state).unsettled) (λ t s. refl)

refused-sum : (books : List (List ℕ)) → (term_of books).refused ≡ sum_over (refused_in) (take most_books books)
unfolding with_book
refused-sum = summed (λ t. t.refused) (refused_in) refl (λ s. one-small (is_refused (reading_of s).answer)) (λ t s. refl)

books-counted : (books : List (List ℕ)) → (term_of books).books ≡ length (take most_books books)
books-counted books =
    omega (
      arith,
      total-after (λ t. t.books) (λ s. 1) (λ s. omega arith) (λ t s l b. books-more t s l) most_books books no_totals refl (omega arith),
      sum_ones (take most_books books),
    )

term-totals : (books : List (List ℕ)) → TermTotals books
unfolding share_of
term-totals books =
    let first = take most_books books in
    let t = term_of books in
    let many = books-counted books ∙ length-take most_books books in
    record {
      books_read = books-counted books;
      refused = refused-sum books;
      begun = begun-sum books;
      committed = committed-sum books;
      backed_out = backed-sum books;
      still_open = open-sum books;
      adds_up =
          omega (
            arith,
            begun-sum books,
            committed-sum books,
            backed-sum books,
            open-sum books,
            sum-apart (begun_in) (committed_in) (backed_out_in) (open_in) (book-apart) first,
          );
      share =
          subst (λ (n : ℕ). InLowestTerms n (sum_over (begun_in) first) (lowest t.backed t.begun)) (backed-sum books)
          (subst (λ (n : ℕ). InLowestTerms t.backed n (lowest t.backed t.begun)) (begun-sum books) (shares-hold.terms t.backed t.begun));
      next = λ l s. sym (one_more t s (omega (arith, many)) (reading_of s) refl (with_book t (reading_of s)) refl).0;
      too_many = λ l s. let no = one-too-many t s (omega (arith, many)) in (sym no.0, sym no.1);
    }

pub term-figures : TermFigures
term-figures = record { saga = saga-stands; once = each-once; book = one-book; term = term-totals; numbers = (refl, (refl, λ v. refl)) }
