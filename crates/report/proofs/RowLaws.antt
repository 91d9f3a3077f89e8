-- The rows of the report: filled one after the other from a table, and what they hold when all are.
use Prim.Native.Nat.{ℕ, ◌+◌}
use native.Mathlib.Omega.{arith}
use mathlib.Core.Path.{◌≡◌, refl, ap, ◌∙◌, fun_ext}
use mathlib.Core.Bool.{Bool, cond}
use mathlib.Core.List.{List}
use lib.Dec.{eqb, ltb}
use lib.ListN.{set, replicate}
use borrow.Author.Tests.{eq-eqb, ne_eqb, lt-ltb, le-ltb}
use Rattle.laws.specs.Index.{tabulate, grid}
use Rattle.laws.proofs.Decisions.{same_or, lt-or}
use Rattle.laws.proofs.IndexLaws.{grid-at, set-tabulate}
use Rattle.laws.proofs.SameLaws.{tabulate-same}
use Rattle.terms.specs.Limits.{most_transactions}
use Rattle.sets.specs.Reach.{at}
use Rattle.sets.specs.Sets.{set_of}
use Rattle.sets.proofs.SetLaws.{set_same}

-- ---- rows below a are filled

abbrev pub filled : List (List Bool) → ℕ → ℕ → ℕ
filled table a i = cond (ltb i a) (set_of most_transactions (at table i)) 0

pub rows_none : (table : List (List Bool)) → replicate most_transactions 0 ≡ tabulate most_transactions (filled table 0)
unfolding tabulate
rows_none table = refl

pub rows_more : (table : List (List Bool)) (a : ℕ) → set (tabulate most_transactions (filled table a)) a (set_of most_transactions (at table a))
    ≡ tabulate most_transactions (filled table (a + 1))
rows_more table a =
    set-tabulate most_transactions (filled table a) a (set_of most_transactions (at table a))
    ∙ ap (tabulate most_transactions) (fun_ext row)
  where
    row : (i : ℕ) → cond (eqb i a) (set_of most_transactions (at table a)) (filled table a i) ≡ filled table (a + 1) i
    row i =
        same_or i a
        (λ q. rw (q, eq-eqb a a refl, lt-ltb a (a + 1) (omega arith)))
        (λ q. lt-or i a
        (λ l. rw (ne_eqb i a q, lt-ltb i a l, lt-ltb i (a + 1) (omega arith)))
        (λ l. rw (ne_eqb i a q, le-ltb i a l, le-ltb i (a + 1) (omega arith))))

-- all rows, of the table of a relation
pub rows_all : (R : ℕ → ℕ → Bool) → tabulate most_transactions (filled (grid most_transactions R) most_transactions)
    ≡ tabulate most_transactions (λ a. set_of most_transactions (R a))
rows_all R =
    tabulate-same most_transactions (filled (grid most_transactions R) most_transactions) (λ a. set_of most_transactions (R a))
    (λ a l. rw (lt-ltb a most_transactions l)
    (set_same most_transactions (at (grid most_transactions R) a) (R a)
    (λ b m. grid-at most_transactions R a b ∙ rw (lt-ltb a most_transactions l, lt-ltb b most_transactions m))))
