-- Who is left, and who has to wait because someone who is left comes before it.
use Prim.Native.Nat.{ℕ, ◌<◌}
use mathlib.Core.Path.{◌≡◌}
use mathlib.Core.Bool.{true, false, not, ◌&&◌}
use mathlib.Core.List.{List}
use Rattle.laws.specs.Index.{any_below}
use Rattle.laws.proofs.Bools.{and-off, and_on, clash, is-not, not_on, off-not, on_and, on-not}
use Rattle.laws.proofs.IndexLaws.{any-elim, any-off, off-any}
use Rattle.terms.specs.Limits.{most_transactions}
use Rattle.ties.specs.declared.Ops.{Ops}
use Rattle.replay.specs.Promises.{HoldsCommitted, Waits}
use Rattle.replay.specs.Replay.{comes_before, holds, is_free, is_left, listed}
use Rattle.replay.proofs.KeptTies.{Limited, first_holds, holder-small, holds-is, is-holds, is-tie, tie-is}

module _ (ops : Ops) (xs : List ℕ) (t : ℕ) where
  -- ---- left

  pub left-holds : is_left ops xs t ≡ true → HoldsCommitted ops t
  left-holds h = holds-is ops t (on_and (holds ops t) (not (listed xs t)) h).0

  pub left-unlisted : is_left ops xs t ≡ true → listed xs t ≡ false
  left-unlisted h = on-not (listed xs t) (on_and (holds ops t) (not (listed xs t)) h).1

  pub holder-left : HoldsCommitted ops t → listed xs t ≡ false → is_left ops xs t ≡ true
  holder-left w h = and_on (holds ops t) (not (listed xs t)) (is-holds ops t w) (not_on (listed xs t) h)

  pub left-small : Limited ops → is_left ops xs t ≡ true → t < most_transactions
  left-small limited h = holder-small ops limited t (left-holds h)

-- ---- held up

-- someone who is left comes before t
pub record Held (ops : Ops) (xs : List ℕ) (t : ℕ) : Type 0 where
  pub a : ℕ
  pub left : is_left ops xs a ≡ true
  pub ahead : comes_before ops a t ≡ true

module _ (ops : Ops) (xs : List ℕ) (t : ℕ) where
  pub held : is_free ops xs t ≡ false → Held ops xs t
  held h =
      let w = any-elim most_transactions (λ a. is_left ops xs a && comes_before ops a t) (off-not (any_below most_transactions (λ a. is_left ops xs a && comes_before ops a t)) h) in
      let both = on_and (is_left ops xs w.0) (comes_before ops w.0 t) w.2 in
      record { a = w.0; left = both.0; ahead = both.1 }

  pub free : (Held ops xs t → ⊥) → is_free ops xs t ≡ true
  free h =
      not_on (any_below most_transactions (λ a. is_left ops xs a && comes_before ops a t))
      (any-off most_transactions (λ a. is_left ops xs a && comes_before ops a t)
      (λ a l. and-off (is_left ops xs a) (comes_before ops a t) (λ left. is-not (comes_before ops a t) (λ ahead. h (record { a = a; left = left; ahead = ahead })))))

  -- in the words of the promise
  pub held-waits : Held ops xs t → Waits ops xs t
  held-waits w = (w.a, tie-is ops w.a t w.ahead, left-unlisted ops xs w.a w.left)

  module _ (limited : Limited ops) where
    pub waits-held : Waits ops xs t → Held ops xs t
    waits-held (a, tie, out) = record { a = a; left = holder-left ops xs a (first_holds ops a t tie) out; ahead = is-tie ops a t limited tie }

    pub not-held : is_free ops xs t ≡ true → Held ops xs t → ⊥
    not-held h w =
        clash (and_on (is_left ops xs w.a) (comes_before ops w.a t) w.left w.ahead)
        (off-any most_transactions (λ a. is_left ops xs a && comes_before ops a t) (on-not (any_below most_transactions (λ a. is_left ops xs a && comes_before ops a t)) h)
        w.a (left-small ops xs w.a limited w.left))
