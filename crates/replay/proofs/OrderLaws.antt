-- Where ties lead to higher ranks somebody can come next while anyone is left, so the order that is worked out comes to its end, within 64 numbers.
use Prim.Native.Nat.{ℕ, zero, suc, ◌+◌, ◌≤◌, ◌<◌}
use native.Mathlib.Omega.{arith}
use mathlib.Core.Path.{◌≡◌, sym}
use mathlib.Core.Bool.{true, not, or-false}
use mathlib.Core.List.{List, [], ◌∷◌, ◌++◌}
use lib.Dec.{ltb}
use lib.ListN.{length}
use borrow.Author.Tests.{ltb-false, ltb-true, ne_eqb}
use Rattle.laws.specs.Index.{count_below}
use Rattle.laws.proofs.Bools.{and-off, and_on, bool_cases, clash, is-not, not-off, on_and}
use Rattle.terms.specs.Limits.{most_transactions}
use Rattle.ties.specs.declared.Ops.{Ops}
use Rattle.replay.specs.Replay.{comes_before, could_come, holds, is_free, is_left, listed, next_of, order_after, order_of}
use Rattle.replay.proofs.Courses.{Course, Next, NobodyLeft, next-left, on, over}
use Rattle.replay.proofs.KeptTies.{Limited}
use Rattle.replay.proofs.ListLaws.{below-first, count_less, count_most, count_none, first_passes, listed_here, listed_more}
use Rattle.replay.proofs.Ranks.{Ranked}
use Rattle.replay.proofs.Waiting.{held, left-small}

module _ (ops : Ops) (limited : Limited ops) where
  -- one more is listed, and one less is left
  fewer : (xs : List ℕ) (b : ℕ) → is_left ops xs b ≡ true
      → count_below most_transactions (is_left ops (xs ++ (b ∷ []))) + 1 ≡ count_below most_transactions (is_left ops xs)
  fewer xs b h =
      count_less most_transactions (is_left ops xs) (is_left ops (xs ++ (b ∷ []))) b (left-small ops xs b limited h) h
      (and-off (holds ops b) (not (listed (xs ++ (b ∷ [])) b)) (λ x. not-off (listed (xs ++ (b ∷ [])) b) (listed_here xs [] b)))
      (λ i e. rw (listed_more xs b i, ne_eqb b i (λ q. e (sym q)), or-false (listed xs i)))

  module _ (r : Ranked (comes_before ops)) where
    -- whoever is left could come next, or is held up by one of lower rank
    someone : (xs : List ℕ) (k t : ℕ) → r.rank t < k → is_left ops xs t ≡ true → (u : ℕ) × (could_come ops xs u ≡ true)
    someone xs zero t l h = absurd (omega arith)
    someone xs (suc k) t l h =
        bool_cases (is_free ops xs t)
        (λ f. (t, and_on (is_left ops xs t) (is_free ops xs t) h f))
        (λ f. let w = held ops xs t f in someone xs k w.a (omega (arith, r.forward w.a t w.ahead)) w.left)

    nobody : (xs : List ℕ) → most_transactions ≤ next_of ops xs → NobodyLeft ops xs
    nobody xs h t =
        is-not (is_left ops xs t)
        (λ left.
        let w = someone xs (r.rank t + 1) t (omega arith) left in
        let small = left-small ops xs w.0 limited (on_and (is_left ops xs w.0) (is_free ops xs w.0) w.1).0 in
        clash w.1 (below-first most_transactions (could_come ops xs) w.0 (omega arith)))

    after-course : (n : ℕ) (xs : List ℕ) → count_below most_transactions (is_left ops xs) ≤ n → Course ops xs (order_after ops n xs)
    unfolding order_after
    after-course zero xs h =
        over
        (λ t.
        is-not (is_left ops xs t)
        (λ left. clash left (count_none most_transactions (is_left ops xs) (omega arith) t (left-small ops xs t limited left))))
    after-course (suc n) xs h =
        bool_cases (ltb (next_of ops xs) most_transactions)
        (λ e.
        let b = next_of ops xs in
        let next : Next ops xs b =
        record {
          could = first_passes most_transactions (could_come ops xs) (ltb-true b most_transactions e);
          lowest = below-first most_transactions (could_come ops xs);
        }
        in
        rw e (on next (after-course n (xs ++ (b ∷ [])) (omega (arith, fewer xs b (next-left ops next))))))
        (λ e. rw e (over (nobody xs (ltb-false (next_of ops xs) most_transactions e))))

    pub order-course : Course ops [] (order_of ops)
    unfolding order_of
    order-course = after-course most_transactions [] (count_most most_transactions (is_left ops []))

after-short : (ops : Ops) (n : ℕ) (xs : List ℕ) → length (order_after ops n xs) ≤ n
unfolding order_after
after-short ops zero xs = omega arith
after-short ops (suc n) xs =
    bool_cases (ltb (next_of ops xs) most_transactions)
    (λ e. rw e (omega (arith, after-short ops n (xs ++ (next_of ops xs ∷ [])))))
    (λ e. rw e (omega arith))

pub order-short : (ops : Ops) → length (order_of ops) ≤ most_transactions
unfolding order_of
order-short ops = after-short ops most_transactions []
