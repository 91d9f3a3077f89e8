-- Sets held as the bits of one number: what is in the empty set, in a set with one more or without some, in a union; two sets with the same
-- members are the same number.
use Prim.Native.Nat.{ℕ, zero, suc, ◌+◌, ◌*◌, ◌/◌, ◌%◌, ◌^◌, ◌≤◌, ◌<◌, zero-le, suc-le-suc}
use native.Mathlib.Nat.{le_of_suc-le-suc, not-suc-le-zero, zero-lt-suc, zero-div, div-one, pow-suc, mul-mod_left, mul-div-mul_right, div-eq_of_lt, lt_of_lt_of_le, mod-lt, div-add-mod', div-lt_iff_lt-mul, mul_comm, div-div-eq-div-mul}
use native.Mathlib.Omega.{arith}
use mathlib.Core.Path.{◌≡◌, refl, sym, ap, ap₂, ◌∙◌, subst, fun_ext}
use native.Mathlib.Numerals.{add-one}
use mathlib.Core.Bool.{Bool, true, false, cond, not, ◌&&◌, ◌||◌, or-false, false≢true}
use mathlib.Core.Logic.{◌≢◌}
use lib.Dec.{eqb, ltb, eqb-suc-zero, eqb-zero-suc, eqb-suc-suc}
use borrow.Author.Tests.{lt-ltb, le-ltb, eq-eqb, ne_eqb}
use Rattle.terms.specs.Limits.{most_transactions}
use lib.Pow.{pow_mono, pow_pos, pow-lt}
use lib.Arith.{lt-one}
use lib.Bits.{bit_or, bit_and, bit_xor, or_shr, or_mod, or_add_and, and_le_r, and_shr, and_mod, xor_shr, xor_mod}
use lib.Count.{ones, ones_step, count_trailing_zeros, under}
use Rattle.laws.specs.Index.{one, any_below, count_below, first_below}
use Rattle.laws.proofs.Bools.{bool_cases}
use Rattle.laws.proofs.Decisions.{same_or, lt-or}
use Rattle.laws.proofs.IndexLaws.{any-elim, off-any}
use Rattle.laws.proofs.SameLaws.{count_same, first-same}
use Rattle.sets.specs.Sets.{mem, inserted, set_of, less}

two_pos : 0 < 2
two_pos = zero-lt-suc 1

pub mem-empty : (t : ℕ) → mem 0 t ≡ false
unfolding mem
mem-empty t = ap (λ (n : ℕ). eqb (n % 2) 1) (zero-div (2 ^ t))

-- nothing past the width
pub mem-past : (x t : ℕ) → x < 2 ^ 64 → 64 ≤ t → mem x t ≡ false
unfolding mem
mem-past x t h l = ap (λ (n : ℕ). eqb (n % 2) 1) (div-eq_of_lt (lt_of_lt_of_le h (pow_mono l)))

digit_or : (u v : ℕ) → u < 2 → v < 2 → eqb (bit_or u v) 1 ≡ (eqb u 1 || eqb v 1)
digit_or zero v p q = refl
digit_or (suc zero) zero p q = refl
digit_or (suc zero) (suc zero) p q = refl
digit_or (suc zero) (suc (suc v)) p q = absurd (not-suc-le-zero (le_of_suc-le-suc (le_of_suc-le-suc q)))
digit_or (suc (suc u)) v p q = absurd (not-suc-le-zero (le_of_suc-le-suc (le_of_suc-le-suc p)))

pub mem-union : (x y t : ℕ) → mem (bit_or x y) t ≡ (mem x t || mem y t)
unfolding mem
mem-union x y t =
    ap (λ (n : ℕ). eqb (n % 2) 1) (or_shr x y t)
    ∙ ap (λ (n : ℕ). eqb n 1) (or_mod (x / 2 ^ t) (y / 2 ^ t) 1)
    ∙ digit_or (x / 2 ^ t % 2) (y / 2 ^ t % 2) (mod-lt (x / 2 ^ t) two_pos) (mod-lt (y / 2 ^ t) two_pos)

digit_and : (u v : ℕ) → u < 2 → v < 2 → eqb (bit_and u v) 1 ≡ (eqb u 1 && eqb v 1)
digit_and zero v p q = refl
digit_and (suc zero) zero p q = refl
digit_and (suc zero) (suc zero) p q = refl
digit_and (suc zero) (suc (suc v)) p q = absurd (not-suc-le-zero (le_of_suc-le-suc (le_of_suc-le-suc q)))
digit_and (suc (suc u)) v p q = absurd (not-suc-le-zero (le_of_suc-le-suc (le_of_suc-le-suc p)))

-- what two sets share
mem-both : (x y t : ℕ) → mem (bit_and x y) t ≡ (mem x t && mem y t)
unfolding mem
mem-both x y t =
    ap (λ (n : ℕ). eqb (n % 2) 1) (and_shr x y t)
    ∙ ap (λ (n : ℕ). eqb n 1) (and_mod (x / 2 ^ t) (y / 2 ^ t) 1)
    ∙ digit_and (x / 2 ^ t % 2) (y / 2 ^ t % 2) (mod-lt (x / 2 ^ t) two_pos) (mod-lt (y / 2 ^ t) two_pos)

digit-off : (u v : ℕ) → u < 2 → v < 2 → eqb (bit_xor u (bit_and u v)) 1 ≡ (eqb u 1 && not (eqb v 1))
digit-off zero v p q = refl
digit-off (suc zero) zero p q = refl
digit-off (suc zero) (suc zero) p q = refl
digit-off (suc zero) (suc (suc v)) p q = absurd (not-suc-le-zero (le_of_suc-le-suc (le_of_suc-le-suc q)))
digit-off (suc (suc u)) v p q = absurd (not-suc-le-zero (le_of_suc-le-suc (le_of_suc-le-suc p)))

-- a set without what it shares with another
mem-less : (x y t : ℕ) → mem (less x y) t ≡ (mem x t && not (mem y t))
unfolding mem less
mem-less x y t =
    ap (λ (n : ℕ). eqb (n % 2) 1) (xor_shr x (bit_and x y) t ∙ ap (bit_xor (x / 2 ^ t)) (and_shr x y t))
    ∙ ap (λ (n : ℕ). eqb n 1) (xor_mod (x / 2 ^ t) (bit_and (x / 2 ^ t) (y / 2 ^ t)) 1 ∙ ap (bit_xor (x / 2 ^ t % 2)) (and_mod (x / 2 ^ t) (y / 2 ^ t) 1))
    ∙ digit-off (x / 2 ^ t % 2) (y / 2 ^ t % 2) (mod-lt (x / 2 ^ t) two_pos) (mod-lt (y / 2 ^ t) two_pos)

pub less-members : (x y r : ℕ) → r ≡ less x y → (t : ℕ) → mem r t ≡ (mem x t && not (mem y t))
less-members x y r e t = ap (λ (s : ℕ). mem s t) e ∙ mem-less x y t

-- the set of k alone
pub mem-single : (k t : ℕ) → mem (2 ^ k) t ≡ eqb t k
unfolding mem
mem-single zero zero = refl
mem-single (suc k) zero =
    ap (λ (n : ℕ). eqb (n % 2) 1) (div-one (2 ^ suc k) ∙ pow-suc 2 k) ∙ ap (λ (n : ℕ). eqb n 1) (mul-mod_left (2 ^ k) 2) ∙ sym (eqb-zero-suc k)
mem-single zero (suc t) = ap (λ (n : ℕ). eqb (n % 2) 1) (div-eq_of_lt (pow-lt {i = 0} {j = suc t} (zero-lt-suc t))) ∙ sym (eqb-suc-zero t)
mem-single (suc k) (suc t) =
    ap₂ (λ (m n : ℕ). eqb (m / n % 2) 1) (pow-suc 2 k) (pow-suc 2 t)
    ∙ ap (λ (n : ℕ). eqb (n % 2) 1) (mul-div-mul_right (2 ^ k) (2 ^ t) two_pos)
    ∙ mem-single k t
    ∙ sym (eqb-suc-suc t k)

-- the set with k too
pub mem-insert : (x k t : ℕ) → mem (bit_or x (2 ^ k)) t ≡ (mem x t || eqb t k)
mem-insert x k t = mem-union x (2 ^ k) t ∙ ap (λ (b : Bool). mem x t || b) (mem-single k t)

-- `inserted`, by its test
pub inserted-in : (x t : ℕ) → t < most_transactions → inserted x t ≡ bit_or x (2 ^ t)
unfolding inserted
inserted-in x t h = rw (lt-ltb t most_transactions h)

pub inserted-past : (x t : ℕ) → most_transactions ≤ t → inserted x t ≡ x
unfolding inserted
inserted-past x t h = rw (le-ltb t most_transactions h)

pub mem-inserted : (x k t : ℕ) → k < most_transactions → mem (inserted x k) t ≡ (mem x t || eqb t k)
mem-inserted x k t h = ap (λ (y : ℕ). mem y t) (inserted-in x k h) ∙ mem-insert x k t

-- the set of k alone, made from the empty one
pub mem-alone : (k t : ℕ) → k < most_transactions → mem (inserted 0 k) t ≡ eqb t k
mem-alone k t h = mem-inserted 0 k t h ∙ ap (λ (b : Bool). b || eqb t k) (mem-empty t)

-- a set without k; where k is past 63 it never was in it
pub off-alone : (x k t : ℕ) → x < 2 ^ 64 → (mem x t && not (mem (inserted 0 k) t)) ≡ (mem x t && not (eqb t k))
off-alone x k t h =
    lt-or k most_transactions
    (λ l. ap (λ (b : Bool). mem x t && not b) (mem-alone k t l))
    (λ l.
    rw (inserted-past 0 k l, mem-empty t)
    (same_or t k (λ e. rw (mem-past x t h (omega arith))) (λ e. rw (ne_eqb t k e))))

-- a union is no smaller, as a number
pub union-le : (x y : ℕ) → x ≤ bit_or x y
union-le x y = omega (arith, or_add_and x y, and_le_r x y)

-- the members past the lowest bit
pub mem-half : (x t : ℕ) → mem x (suc t) ≡ mem (x / 2) t
unfolding mem
mem-half x t = ap (λ (n : ℕ). eqb (x / n % 2) 1) (pow-suc 2 t ∙ mul_comm (2 ^ t) 2) ∙ ap (λ (n : ℕ). eqb (n % 2) 1) (sym (div-div-eq-div-mul x 2 (2 ^ t)))

digit-same : (u v : ℕ) → u < 2 → v < 2 → eqb u 1 ≡ eqb v 1 → u ≡ v
digit-same zero zero p q e = refl
digit-same zero (suc zero) p q e = absurd (false≢true e)
digit-same zero (suc (suc v)) p q e = absurd (not-suc-le-zero (le_of_suc-le-suc (le_of_suc-le-suc q)))
digit-same (suc zero) zero p q e = absurd (false≢true (sym e))
digit-same (suc zero) (suc zero) p q e = refl
digit-same (suc zero) (suc (suc v)) p q e = absurd (not-suc-le-zero (le_of_suc-le-suc (le_of_suc-le-suc q)))
digit-same (suc (suc u)) v p q e = absurd (not-suc-le-zero (le_of_suc-le-suc (le_of_suc-le-suc p)))

half_lt : (n x : ℕ) → x < 2 ^ suc n → x / 2 < 2 ^ n
half_lt n x h = (div-lt_iff_lt-mul two_pos).1 (subst (λ (m : ℕ). x < m) (pow-suc 2 n) h)

-- two sets of numbers below n with the same members are the same number
pub same_set : (n x y : ℕ) → x < 2 ^ n → y < 2 ^ n → ((t : ℕ) → t < n → mem x t ≡ mem y t) → x ≡ y
unfolding mem
same_set zero x y hx hy h = lt-one hx ∙ sym (lt-one hy)
same_set (suc n) x y hx hy h =
    let low : x % 2 ≡ y % 2 =
    digit-same (x % 2) (y % 2) (mod-lt x two_pos) (mod-lt y two_pos)
    (ap (λ (m : ℕ). eqb (m % 2) 1) (sym (div-one x)) ∙ h 0 (zero-lt-suc n) ∙ ap (λ (m : ℕ). eqb (m % 2) 1) (div-one y))
    in
    let high : x / 2 ≡ y / 2 = same_set n (x / 2) (y / 2) (half_lt n x hx) (half_lt n y hy) (λ t l. sym (mem-half x t) ∙ h (suc t) (suc-le-suc l) ∙ mem-half y t) in
    sym (div-add-mod' x 2) ∙ ap₂ (λ (q r : ℕ). q * 2 + r) high low ∙ div-add-mod' y 2

-- ---- the counts: `count_ones` and `trailing_zeros` of a set

digit-one : (u : ℕ) → u < 2 → u ≡ one (eqb u 1)
digit-one zero p = refl
digit-one (suc zero) p = refl
digit-one (suc (suc u)) p = absurd (not-suc-le-zero (le_of_suc-le-suc (le_of_suc-le-suc p)))

digit-first : (u n : ℕ) → u < 2 → under u n ≡ cond (eqb u 1) 0 (suc n)
digit-first zero n p = refl
digit-first (suc zero) n p = refl
digit-first (suc (suc u)) n p = absurd (not-suc-le-zero (le_of_suc-le-suc (le_of_suc-le-suc p)))

lowest-digit : (x : ℕ) → eqb (x % 2) 1 ≡ mem x 0
unfolding mem
lowest-digit x = ap (λ (m : ℕ). eqb (m % 2) 1) (sym (div-one x))

-- how many members a set has
pub ones-count : (n x : ℕ) → x < 2 ^ n → ones x ≡ count_below n (mem x)
unfolding count_below ones
ones-count zero x h = ap ones (lt-one h)
ones-count (suc n) x h =
    ones_step x
    ∙ ap₂ (λ (u v : ℕ). u + v) (digit-one (x % 2) (mod-lt x two_pos) ∙ ap one (lowest-digit x))
    (ones-count n (x / 2) (half_lt n x h) ∙ ap (count_below n) (fun_ext (λ t. sym (mem-half x t))))

-- the lowest member, n where there is none below n
pub trailing-first : (n x : ℕ) → count_trailing_zeros n x ≡ first_below n (mem x)
unfolding first_below count_trailing_zeros
trailing-first zero x = refl
trailing-first (suc n) x =
    ap (under (x % 2)) (trailing-first n (x / 2) ∙ ap (first_below n) (fun_ext (λ t. sym (mem-half x t))))
    ∙ digit-first (x % 2) (first_below n (λ t. mem x (suc t))) (mod-lt x two_pos)
    ∙ ap (λ (b : Bool). cond b 0 (suc (first_below n (λ t. mem x (suc t))))) (lowest-digit x)

-- where one below n passes, the lowest one passes
first-in : (n : ℕ) (f : ℕ → Bool) (i : ℕ) → i < n → f i ≡ true → f (first_below n f) ≡ true
unfolding first_below
first-in zero f i l h = absurd (not-suc-le-zero l)
first-in (suc n) f zero l h = rw h h
first-in (suc n) f (suc i) l h = bool_cases (f zero) (λ e. rw e e) (λ e. rw e (first-in n (λ k. f (suc k)) i (le_of_suc-le-suc l) h))

-- the lowest of a set that is not empty is in it
pub lowest-in : (x : ℕ) → x < 2 ^ 64 → x ≢ 0 → mem x (first_below most_transactions (mem x)) ≡ true
lowest-in x h e =
    bool_cases (any_below most_transactions (mem x))
    (λ some. let r = any-elim most_transactions (mem x) some in first-in most_transactions (mem x) r.0 r.1 r.2)
    (λ none. absurd (e (same_set most_transactions x 0 h (pow_pos 64) (λ t l. off-any most_transactions (mem x) none t l ∙ sym (mem-empty t)))))

-- ---- the set of those of which a test holds

pub set-of-none : (f : ℕ → Bool) → set_of 0 f ≡ 0
unfolding set_of
set-of-none f = refl

pub set-of-more : (n : ℕ) (f : ℕ → Bool) → set_of (n + 1) f ≡ cond (f n) (inserted (set_of n f) n) (set_of n f)
unfolding set_of
set-of-more n f = rw add-one refl

-- the same of a number t below 64, whatever k is
pub mem-inserted-small : (x k t : ℕ) → t < most_transactions → mem (inserted x k) t ≡ (mem x t || eqb t k)
mem-inserted-small x k t l =
    lt-or k most_transactions (λ h. mem-inserted x k t h)
    (λ h. rw (inserted-past x k h, ne_eqb t k (λ e. omega arith)) (sym (or-false (mem x t))))

-- its members
pub mem-set-of : (n : ℕ) (f : ℕ → Bool) (t : ℕ) → n ≤ most_transactions → mem (set_of n f) t ≡ (ltb t n && f t)
unfolding set_of
mem-set-of zero f t h = mem-empty t ∙ sym (rw (le-ltb t 0 zero-le))
mem-set-of (suc n) f t h =
    let rest = mem-set-of n f t (omega arith) in
    bool_cases (f n)
    (λ e. rw e
    (mem-inserted (set_of n f) n t h ∙ same_or t n
    (λ q. rw (q, eq-eqb n n refl, lt-ltb n (suc n) (omega arith), e) (or-on (mem (set_of n f) n)))
    (λ q. rw (ne_eqb t n q) (or-false (mem (set_of n f) t) ∙ rest ∙ ap (λ (b : Bool). b && f t) (below q)))))
    (λ e. rw e
    (same_or t n
    (λ q. rest ∙ rw (q, le-ltb n n (omega arith), lt-ltb n (suc n) (omega arith), e))
    (λ q. rest ∙ ap (λ (b : Bool). b && f t) (below q))))
  where
    or-on : (b : Bool) → (b || true) ≡ true
    or-on true = refl
    or-on false = refl

    below : (t ≡ n → ⊥) → ltb t n ≡ ltb t (suc n)
    below q = lt-or t n (λ l. rw (lt-ltb t n l, lt-ltb t (suc n) (omega arith))) (λ l. rw (le-ltb t n l, le-ltb t (suc n) (omega arith)))

-- x is the set of those below n
module _ (f : ℕ → Bool) (n x : ℕ) (e : x ≡ set_of n f) where
  pub set-of-in : f n ≡ true → inserted x n ≡ set_of (n + 1) f
  set-of-in h = rw (set-of-more n f, h, e)

  pub set-of-out : f n ≡ false → x ≡ set_of (n + 1) f
  set-of-out h = rw (set-of-more n f, h) e

-- with none from n on, those below n are all
pub set-of-rest : (f : ℕ → Bool) (n k : ℕ) → ((i : ℕ) → n ≤ i → f i ≡ false) → set_of n f ≡ set_of (n + k) f
set-of-rest f n zero none = ap (λ (x : ℕ). set_of x f) (omega arith)
set-of-rest f n (suc k) none =
    set-of-rest f n k none ∙ set-of-out f (n + k) (set_of (n + k) f) refl (none (n + k) (omega arith)) ∙ ap (λ (x : ℕ). set_of x f) (omega arith)

-- two tests that agree below n: the same set
pub set_same : (n : ℕ) (f g : ℕ → Bool) → ((i : ℕ) → i < n → f i ≡ g i) → set_of n f ≡ set_of n g
unfolding set_of
set_same zero f g h = refl
set_same (suc n) f g h = rw (h n (omega arith), set_same n f g (λ i l. h i (omega arith)))

-- ---- the members of the set of those of which f holds, counted and searched

module _ (f : ℕ → Bool) where
  members : (t : ℕ) → t < most_transactions → mem (set_of most_transactions f) t ≡ f t
  members t h = mem-set-of most_transactions f t (omega arith) ∙ ap (λ (b : Bool). b && f t) (lt-ltb t most_transactions h)

  pub count-members : count_below most_transactions (mem (set_of most_transactions f)) ≡ count_below most_transactions f
  count-members = count_same most_transactions (mem (set_of most_transactions f)) f members

  pub first_member : first_below most_transactions (mem (set_of most_transactions f)) ≡ first_below most_transactions f
  first_member = first-same most_transactions (mem (set_of most_transactions f)) f members
