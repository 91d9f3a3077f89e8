-- Laying the line of a refused event, byte by byte.
use Prim.Native.Nat.{ℕ, suc, ◌+◌, ◌/◌, ◌%◌, ◌^◌, ◌≤◌, ◌<◌}
use native.Mathlib.Numerals.{add-one}
use native.Mathlib.Omega.{arith}
use mathlib.Core.Path.{◌≡◌, sym, ap, ◌∙◌, subst}
use mathlib.Core.List.{List, [], ◌∷◌, ◌++◌, append_assoc, append-nil}
use lib.ListN.{length, take, drop, set, drop_of_length-le, length-append}
use lib.Seq.{length-take-le, set-append_left, set_split, take-take}
use Rattle.terms.specs.Refusals.{number_of}
use Rattle.onward.specs.Rooms.{Lays, laid}
use Rattle.onward.specs.declared.No.{No}
use Rattle.onward.proofs.RoomLaws.{laid_none, laying-last, laying-more, laying-start}
use Rattle.listing.specs.Lines.{no_line}
use Rattle.listing.specs.Words.{blank, decimal, line_feed}
use Rattle.listing.proofs.DigitLaws.{decimal-more, decimal-small}

-- one byte
pub byte-laid : (b at : ℕ) (room : List ℕ) → at < length room → set room at b ≡ laid at (b ∷ []) room
unfolding laid
byte-laid b at room h = set_split room at b h ∙ ap (λ (k : ℕ). take at room ++ (b ∷ drop k room)) (sym (add-one at))

-- ---- a number, from the last digit to the first

-- all digits but those of `rest`, which are still to be laid, stand from place i on
pub record Digits (n at : ℕ) (before : List ℕ) (rest i : ℕ) (room : List ℕ) : Type 0 where
  pub behind : List ℕ
  pub all : decimal n ≡ decimal rest ++ behind
  pub place : i ≡ at + length (decimal rest)
  pub laid-there : room ≡ laid i behind before

pub digits-start : (n at : ℕ) (before : List ℕ) (i : ℕ) → i ≡ at + length (decimal n) → Digits n at before n i before
digits-start n at before i e = record { behind = []; all = sym (append-nil (decimal n)); place = e; laid-there = sym (laid_none i before) }

ends-alike : (k i n : ℕ) → i ≡ k + 1 → i + n ≡ k + suc n
ends-alike k i n e = omega arith

-- one byte more, in front of those that were laid
in-front : (b i k : ℕ) (l before : List ℕ) → i ≡ k + 1 → i + length l ≤ length before → set (laid i l before) k b ≡ laid k (b ∷ l) before
unfolding laid
in-front b i k l before e fits =
    let rest = l ++ drop (i + length l) before in
    let long = length-take-le i before (omega arith) in
    set-append_left (take i before) rest k b (omega (arith, long))
    ∙ ap (λ (x : List ℕ). x ++ rest) (set_split (take i before) k b (omega (arith, long)))
    ∙ ap (λ (x : List ℕ). (x ++ (b ∷ drop (suc k) (take i before))) ++ rest) (take-take k i before (omega arith))
    ∙ ap (λ (x : List ℕ). (take k before ++ (b ∷ x)) ++ rest) (drop_of_length-le (take i before) {i = suc k} (omega (arith, long)))
    ∙ append_assoc (take k before) (b ∷ []) rest
    ∙ ap (λ (j : ℕ). take k before ++ (b ∷ (l ++ drop j before))) (ends-alike k i (length l) e)

pub digits_more : (n at : ℕ) (before : List ℕ) (rest i k : ℕ) (room : List ℕ) → Digits n at before rest i room → at + length (decimal n) ≤ length before
    → 10 ≤ rest → rest < 2 ^ 64 → i ≡ k + 1 → Digits n at before (rest / 10) k (set room k (48 + rest % 10))
digits_more n at before rest i k room d fits l h e =
    let x = 48 + rest % 10 in
    let front = decimal-more rest l h in
    let long = ap length front ∙ length-append (decimal (rest / 10)) (x ∷ []) in
    let all = ap length d.all ∙ length-append (decimal rest) d.behind in
    record {
      behind = x ∷ d.behind;
      all = d.all ∙ ap (λ (y : List ℕ). y ++ d.behind) front ∙ append_assoc (decimal (rest / 10)) (x ∷ []) d.behind;
      place = omega (arith, d.place, long);
      laid-there = ap (λ (r : List ℕ). set r k x) d.laid-there ∙ in-front x i k d.behind before e (omega (arith, d.place, all));
    }

pub digits-done : (n at : ℕ) (before : List ℕ) (rest i : ℕ) (room : List ℕ) → Digits n at before rest i room → at + length (decimal n) ≤ length before
    → rest < 10 → set room at (48 + rest) ≡ laid at (decimal n) before
digits-done n at before rest i room d fits h =
    let one = decimal-small rest h in
    let long = ap length one in
    let all = ap length d.all ∙ length-append (decimal rest) d.behind in
    ap (λ (r : List ℕ). set r at (48 + rest)) d.laid-there ∙ in-front (48 + rest) i at d.behind before (omega (arith, d.place, long)) (omega (arith, d.place, all))
    ∙ ap (λ (l : List ℕ). laid at l before) (sym (d.all ∙ ap (λ (y : List ℕ). y ++ d.behind) one))

-- they end where the number ends
pub digits-end : (n at : ℕ) (before : List ℕ) (rest i : ℕ) (room : List ℕ) (d : Digits n at before rest i room) → i + length d.behind ≡ at + length (decimal n)
digits-end n at before rest i room d = omega (arith, d.place, ap length d.all, length-append (decimal rest) d.behind)

-- ---- how many digits a number has

pub one-digit : (n : ℕ) → n < 10 → 1 ≡ length (decimal n)
one-digit n h = sym (ap length (decimal-small n h))

pub digit-more : (n : ℕ) → 10 ≤ n → n < 2 ^ 64 → length (decimal n) ≡ length (decimal (n / 10)) + 1
digit-more n l h = ap length (decimal-more n l h) ∙ length-append (decimal (n / 10)) ((48 + n % 10) ∷ [])

hundredth : (n : ℕ) → n / 10 / 10 ≡ n / 100
hundredth n = omega arith

pub two-more : (n : ℕ) → 100 ≤ n → n < 2 ^ 64 → length (decimal n) ≡ length (decimal (n / 100)) + 2
two-more n l h =
    let k = ap (λ (m : ℕ). length (decimal m)) (hundredth n) in
    omega (arith, digit-more n (omega arith) h, digit-more (n / 10) (omega arith) (omega arith), k)

-- ---- the line of a refused event: 'no', a blank, its index, a blank, its number and the line feed

pub no-long : (x : No) → length (no_line x) ≡ 5 + (length (decimal x.index) + length (decimal (number_of x.refusal)))
no-long x =
    let i = decimal x.index in
    let n = decimal (number_of x.refusal) in
    omega (arith, length-append i (blank ++ (n ++ line_feed)), length-append n line_feed)

pub lays-no : (x : No) (at n : ℕ) (room : List ℕ) (p1 p2 p3 p4 p5 p6 end : ℕ) (r1 r2 r3 r4 r5 r6 after : List ℕ) → n ≡ number_of x.refusal
    → Lays at (110 ∷ []) room p1 r1 → length r1 ≡ length room → Lays p1 (111 ∷ []) r1 p2 r2 → length r2 ≡ length r1
    → Lays p2 blank r2 p3 r3 → length r3 ≡ length r2 → Lays p3 (decimal x.index) r3 p4 r4 → length r4 ≡ length r3
    → Lays p4 blank r4 p5 r5 → length r5 ≡ length r4 → Lays p5 (decimal n) r5 p6 r6 → length r6 ≡ length r5
    → Lays p6 line_feed r6 end after → length after ≡ length r6
    → Lays at (no_line x) room end after
lays-no x at n room p1 p2 p3 p4 p5 p6 end r1 r2 r3 r4 r5 r6 after e s1 k1 s2 k2 s3 k3 s4 k4 s5 k5 s6 k6 s7 k7 =
    let i = decimal x.index in
    let d = decimal (number_of x.refusal) in
    let l1 = laying-more (110 ∷ []) (111 ∷ 32 ∷ (i ++ (blank ++ (d ++ line_feed)))) p1 r1 (laying-start at (no_line x) room) s1 k1 in
    let l2 = laying-more (111 ∷ []) (32 ∷ (i ++ (blank ++ (d ++ line_feed)))) p2 r2 l1 s2 k2 in
    let l3 = laying-more blank (i ++ (blank ++ (d ++ line_feed))) p3 r3 l2 s3 k3 in
    let l4 = laying-more i (blank ++ (d ++ line_feed)) p4 r4 l3 s4 k4 in
    let l5 = laying-more blank (d ++ line_feed) p5 r5 l4 s5 k5 in
    let l6 = laying-more d line_feed p6 r6 l5 (subst (λ (k : ℕ). Lays p5 (decimal k) r5 p6 r6) e s6) k6 in
    laying-last line_feed end after l6 s7 k7
