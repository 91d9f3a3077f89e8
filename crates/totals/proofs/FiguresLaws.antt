-- What one book adds, case by case as the code comes to it.
use Prim.Native.Nat.{ℕ, ◌≤◌, ◌<◌}
use native.Mathlib.Omega.{arith}
use mathlib.Core.Path.{◌≡◌, ap, ◌∙◌}
use mathlib.Core.Bool.{Bool, true, false}
use mathlib.Core.List.{List}
use borrow.Author.Tests.{le-ltb, lt-ltb}
use Rattle.laws.specs.Index.{one}
use Rattle.terms.specs.Limits.{most_sagas}
use Rattle.tables.specs.Counts.{saga_count}
use Rattle.tables.specs.declared.Tables.{Tables}
use Rattle.rules.specs.declared.State.{State}
use Rattle.book.specs.Reading.{reading_of}
use Rattle.book.specs.declared.Reading.{Reading}
use Rattle.totals.specs.Figures.{add_answer, added_to, counts_of, how_many, is_open, most_books, was_backed_out, was_begun, was_committed, with_book}
use Rattle.std.specs.Prelude.{Ok, Err}
use Rattle.totals.specs.declared.NotRead.TheVariants.{TooManyBooks}
use Rattle.totals.specs.declared.SagaCounts.{SagaCounts}
use Rattle.totals.specs.declared.Totals.{Totals}
use Rattle.totals.proofs.CountLaws.{count-le}

-- ---- no book adds more than there may be sagas in it

pub one-small : (b : Bool) → one b ≤ most_sagas
one-small true = omega arith
one-small false = omega arith

pub record Small (n : SagaCounts) : Type 0 where
  pub begun : n.begun ≤ most_sagas
  pub committed : n.committed ≤ most_sagas
  pub backed : n.backed ≤ most_sagas
  pub unsettled : n.unsettled ≤ most_sagas

many-small : (stands : Tables → State → ℕ → Bool) (tables : Tables) (s : State) → how_many stands tables s ≤ most_sagas
many-small stands tables s = omega (arith, count-le (saga_count tables) (stands tables s))

pub counts-small : (tables : Tables) (s : State) → Small (counts_of tables s)
unfolding counts_of
counts-small tables s =
    record {
      begun = many-small was_begun tables s;
      committed = many-small was_committed tables s;
      backed = many-small was_backed_out tables s;
      unsettled = many-small is_open tables s;
    }

-- ---- one of the first 1,000, or one too many

module _ (t : Totals) (s : List ℕ) where
  pub one-too-many : most_books ≤ t.books → (Err TooManyBooks ≡ add_answer t s) × (t ≡ added_to t s)
  unfolding add_answer added_to
  one-too-many h = let off = le-ltb t.books most_books h in (rw off, rw off)

  pub one_more : t.books < most_books → (r : Reading) → r ≡ reading_of s → (n : Totals) → n ≡ with_book t r
      → (Ok r.answer ≡ add_answer t s) × (n ≡ added_to t s)
  unfolding add_answer added_to
  one_more h r e n d =
      let on = lt-ltb t.books most_books h in
      (rw on (ap (λ (x : Reading). Ok x.answer) e), rw on (d ∙ ap (with_book t) e))
