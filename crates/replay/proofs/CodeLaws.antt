-- What the code of `replay` holds on its way: those who hold a committed operation, those who have to wait, the beginning of the order, and the order put into a list.
use Prim.Native.Nat.{ℕ, zero, suc, ◌+◌, ◌-◌, ◌≤◌, ◌<◌}
use native.Mathlib.Omega.{arith}
use mathlib.Core.Path.{◌≡◌, refl, sym, ap, ap₂, ◌∙◌}
use mathlib.Core.Bool.{Bool, true, false, not, ◌&&◌, ◌||◌, and-true, and-false, or-false}
use mathlib.Core.List.{List, [], ◌∷◌, ◌++◌, append-nil, append_assoc}
use lib.Bits.{bit_or}
use lib.Dec.{eqb, ltb}
use lib.ListN.{length, take, drop, get_or, set, replicate, length-set, length-replicate}
use lib.Seq.{length-take-le}
use borrow.Author.Tests.{lt-ltb, le-ltb, ne_eqb}
use Rattle.laws.specs.Index.{any_below, first_below}
use Rattle.laws.proofs.Decisions.{lt-or}
use Rattle.laws.proofs.IndexLaws.{any_none, any-more, any_same}
use Rattle.laws.proofs.ListLaws.{take-stored}
use Rattle.laws.proofs.SameLaws.{first-same}
use Rattle.terms.specs.Limits.{most_transactions}
use Rattle.sets.specs.Sets.{mem, inserted, less}
use Rattle.sets.proofs.SetLaws.{mem-empty, mem-union, mem-alone, mem-inserted, mem-inserted-small, inserted-past, less-members}
use Rattle.ties.specs.Operations.{op_at}
use Rattle.ties.specs.declared.Ops.{Ops}
use Rattle.rows.specs.Rows.{mem_at}
use Rattle.rows.proofs.SweepLaws.{eqb-sym}
use Rattle.std.specs.Prelude.{None, Some}
use Rattle.replay.specs.Replay.{kept_by, holds, comes_before, listed, is_left, could_come, next_of, order_after, order_of, copy_answer, copy_room}
use Rattle.replay.proofs.ListLaws.{listed_more}

-- ---- who holds a committed operation

-- the set of those who hold one among the first i
abbrev pub HoldersOf : Ops → ℕ → ℕ → Type 0
HoldersOf ops i s = (t : ℕ) → mem s t ≡ (ltb t most_transactions && any_below i (λ q. kept_by t (op_at ops q)))

pub holders-none : (ops : Ops) → HoldersOf ops 0 0
holders-none ops t = mem-empty t ∙ sym (rw (any_none (λ q. kept_by t (op_at ops q))) (and-false (ltb t most_transactions)))

-- operation i is replayed, if b is true, or not
module _ (ops : Ops) (i s : ℕ) (h : HoldersOf ops i s) (b : Bool) (test : (t : ℕ) → kept_by t (op_at ops i) ≡ (b && eqb (op_at ops i).responsible t)) where
  abbrev who : ℕ
  who = (op_at ops i).responsible

  abbrev below : ℕ → Bool
  below t = any_below i (λ q. kept_by t (op_at ops q))

  more : (t : ℕ) → any_below (i + 1) (λ q. kept_by t (op_at ops q)) ≡ (below t || (b && eqb who t))
  more t = any-more i (λ q. kept_by t (op_at ops q)) ∙ ap (λ (c : Bool). below t || c) (test t)

  pub holders-in : b ≡ true → HoldersOf ops (i + 1) (inserted s who)
  holders-in e t =
      lt-or t most_transactions
      (λ l. mem-inserted-small s who t l ∙ rw (h t, lt-ltb t most_transactions l, more t, e) (ap (λ (c : Bool). below t || c) (eqb-sym t who)))
      (λ l. lt-or who most_transactions
      (λ k. mem-inserted s who t k ∙ rw (h t, le-ltb t most_transactions l, ne_eqb t who (λ q. omega arith)))
      (λ k. rw (inserted-past s who k, h t, le-ltb t most_transactions l)))

  pub holders-out : b ≡ false → HoldersOf ops (i + 1) s
  holders-out e t = h t ∙ rw (more t, e, or-false (below t))

-- ---- those that one of some comes before

-- one of the first n of them
abbrev pub BehindOf : List ℕ → ℕ → ℕ → ℕ → Type 0
BehindOf rows some n s = (k : ℕ) → mem s k ≡ any_below n (λ a. mem some a && mem_at rows a k)

pub behind-none : (rows : List ℕ) (some : ℕ) → BehindOf rows some 0 0
behind-none rows some k = mem-empty k ∙ sym (any_none (λ a. mem some a && mem_at rows a k))

module _ (rows : List ℕ) (some n s : ℕ) (h : BehindOf rows some n s) where
  pub behind-in : mem some n ≡ true → BehindOf rows some (n + 1) (bit_or s (get_or rows n 0))
  behind-in e k =
      mem-union s (get_or rows n 0) k
      ∙ ap (λ (b : Bool). b || mem_at rows n k) (h k)
      ∙ sym (rw (any-more n (λ a. mem some a && mem_at rows a k), e))

  pub behind-out : mem some n ≡ false → BehindOf rows some (n + 1) s
  behind-out e k = h k ∙ sym (rw (any-more n (λ a. mem some a && mem_at rows a k), e, or-false (any_below n (λ a. mem some a && mem_at rows a k))))

-- ---- the order as it grows

module _ (ops : Ops) (n : ℕ) (xs : List ℕ) where
  order-more : (t : ℕ) → t ≡ next_of ops xs → t < most_transactions → order_after ops (suc n) xs ≡ t ∷ order_after ops n (xs ++ (t ∷ []))
  unfolding order_after
  order-more t e l = rw (← e, lt-ltb t most_transactions l)

  order-done : most_transactions ≤ next_of ops xs → order_after ops n xs ≡ []
  unfolding order_after
  order-done l = by-room n
    where
      by-room : (m : ℕ) → order_after ops m xs ≡ []
      by-room zero = refl
      by-room (suc m) = rw (le-ltb (next_of ops xs) most_transactions l)

-- what is worked out first: who comes before whom, and who is to be listed
pub record Known (ops : Ops) (rows : List ℕ) (all : ℕ) : Type 0 where
  pub ties : (a k : ℕ) → mem_at rows a k ≡ comes_before ops a k
  pub holders : (t : ℕ) → mem all t ≡ (ltb t most_transactions && holds ops t)

-- the first numbers are the order's beginning, and these are left
pub record Begun (ops : Ops) (left : ℕ) (numbers : List ℕ) (count : ℕ) : Type 0 where
  pub long : length numbers ≡ most_transactions
  pub whole : take count numbers ++ order_after ops (most_transactions - count) (take count numbers) ≡ order_of ops
  pub rest : (t : ℕ) → t < most_transactions → mem left t ≡ is_left ops (take count numbers) t

pub begun-none : (ops : Ops) (rows : List ℕ) (all : ℕ) → Known ops rows all → Begun ops all (replicate 64 0) 0
unfolding order_of listed
begun-none ops rows all known = record {
  long = length-replicate {A = ℕ} 64 0;
  whole = refl;
  rest = λ t l. known.holders t ∙ rw (lt-ltb t most_transactions l) (sym (and-true (holds ops t)));
}

module _ (ops : Ops) (left : ℕ) (numbers : List ℕ) (count : ℕ) (b : Begun ops left numbers count) where
  abbrev front : List ℕ
  front = take count numbers

  -- the lowest of those that are left and do not wait is the next
  pub next-is : (rows : List ℕ) (all waiting free : ℕ) → Known ops rows all → BehindOf rows left most_transactions waiting → free ≡ less left waiting
      → first_below most_transactions (mem free) ≡ next_of ops front
  next-is rows all waiting free known w f = first-same most_transactions (mem free) (could_come ops front) same
    where
      waits : (t : ℕ) → mem waiting t ≡ any_below most_transactions (λ a. is_left ops front a && comes_before ops a t)
      waits t =
          w t
          ∙ any_same most_transactions (λ a. mem left a && mem_at rows a t) (λ a. is_left ops front a && comes_before ops a t) (λ a l. ap₂ ◌&&◌ (b.rest a l) (known.ties a t))

      same : (t : ℕ) → t < most_transactions → mem free t ≡ could_come ops front t
      same t l = less-members left waiting free f t ∙ rw (b.rest t l, waits t)

  -- where there is none, the order is whole
  pub begun-done : most_transactions ≤ next_of ops front → front ≡ order_of ops
  begun-done l = sym (append-nil front) ∙ sym (ap (λ (r : List ℕ). front ++ r) (order-done ops (most_transactions - count) front l)) ∙ b.whole

  -- so it is when all have been listed
  pub begun-full : count ≡ most_transactions → front ≡ order_of ops
  unfolding order_after
  begun-full e =
      let none : most_transactions - count ≡ 0 = omega arith in
      sym (append-nil front) ∙ sym (ap (λ (m : ℕ). front ++ order_after ops m front) none) ∙ b.whole

  -- one more is listed
  module _ (t : ℕ) (next : t ≡ next_of ops front) (l : t < most_transactions) (room : count < most_transactions) where
    stored : take (count + 1) (set numbers count t) ≡ front ++ (t ∷ [])
    stored = take-stored numbers count t (omega (arith, b.long))

    more-whole : (front ++ (t ∷ [])) ++ order_after ops (most_transactions - (count + 1)) (front ++ (t ∷ [])) ≡ order_of ops
    more-whole =
        let turn : most_transactions - count ≡ suc (most_transactions - (count + 1)) = omega arith in
        append_assoc front (t ∷ []) (order_after ops (most_transactions - (count + 1)) (front ++ (t ∷ [])))
        ∙ ap (λ (r : List ℕ). front ++ r) (sym (order-more ops (most_transactions - (count + 1)) front t next l))
        ∙ ap (λ (m : ℕ). front ++ order_after ops m front) (sym turn)
        ∙ b.whole

    more-rest : (alone after : ℕ) → alone ≡ inserted 0 t → after ≡ less left alone
        → (u : ℕ) → u < most_transactions → mem after u ≡ is_left ops (front ++ (t ∷ [])) u
    more-rest alone after ea er u k =
        less-members left alone after er u
        ∙ rw (b.rest u k, ea, mem-alone t u l, eqb-sym u t, listed_more front t u) (apart (holds ops u) (listed front u) (eqb t u))
      where
        apart : (x y z : Bool) → ((x && not y) && not z) ≡ (x && not (y || z))
        apart true true z = refl
        apart true false z = refl
        apart false y z = refl

    pub begun_more : (alone after : ℕ) → alone ≡ inserted 0 t → after ≡ less left alone → Begun ops after (set numbers count t) (count + 1)
    begun_more alone after ea er = record {
      long = length-set numbers count t ∙ b.long;
      whole = rw stored more-whole;
      rest = rw stored (more-rest alone after ea er);
    }

-- ---- into a lent list

-- the order is as long as it is said to be
pub order-long : (order numbers : List ℕ) (n : ℕ) → take n numbers ≡ order → n ≤ length numbers → n ≡ length order
order-long order numbers n e h = sym (length-take-le n numbers h) ∙ ap length e

module _ (order room : List ℕ) where
  pub copy-small : length room < length order → (None ≡ copy_answer order room) × (room ≡ copy_room order room)
  unfolding copy_answer copy_room
  copy-small h = let t = lt-ltb (length room) (length order) h in (rw t, rw t)

  pub copy_done : (n : ℕ) → n ≡ length order → n ≤ length room → (Some n ≡ copy_answer order room) × (order ++ drop n room ≡ copy_room order room)
  unfolding copy_answer copy_room
  copy_done n e h =
      let t = le-ltb (length room) (length order) (omega arith) in
      (rw t (ap Some e), rw t (ap (λ (i : ℕ). order ++ drop i room) e))
