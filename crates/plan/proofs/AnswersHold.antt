-- Each answer of reading is given exactly when it is due.
use mathlib.Core.Path.{◌≡◌, refl, sym, ap, ◌∙◌}
use mathlib.Core.Bool.{Bool, true, false, ◌&&◌}
use mathlib.Core.List.{List}
use Prim.Native.Nat.{ℕ, zero, suc, ◌≤◌}
use native.Mathlib.Omega.{arith}
use lib.ListN.{length}
use lib.Dec.{ltb, leb}
use borrow.Author.Tests.{lt-ltb, le-ltb, le-leb, ltb-true, ltb-false}
use Rattle.laws.proofs.Bools.{bool_cases, and_on, is-not, clash}
use Rattle.plan.specs.declared.Counts.{Counts}
use Rattle.plan.specs.declared.PlanUnread.TheVariants.{NotUnderstood, NoRoom, TooLong}
use Rattle.std.proofs.Common.{Ok, Err}
use Rattle.plan.specs.Lines.{Entry, entries_of}
use Rattle.plan.specs.Reading.{PlanRead, first_unclear, counts_of, most_bytes, told_by, told, has_room, if_room, read_answer}
use Rattle.plan.specs.Promises.{RoomFor, Answering}
use Rattle.plan.proofs.ReadLaws.{rooms}

-- ---- the answer by three questions: is the text too long, which line is not understood, is there room

abbrev said : Bool → ℕ → Bool → Counts → PlanRead
said true n r c = Err TooLong
said false zero true c = Ok c
said false zero false c = Err NoRoom
said false (suc n) r c = Err (NotUnderstood (suc n))

-- the answers apart
abbrev tag : PlanRead → ℕ
tag (Ok c) = 0
tag (Err (NotUnderstood n)) = 1
tag (Err NoRoom) = 2
tag (Err TooLong) = 3

long-on : (b : Bool) (n : ℕ) (r : Bool) (c : Counts) → said b n r c ≡ Err TooLong → b ≡ true
long-on true n r c e = refl
long-on false zero true c e = absurd (omega (arith, ap tag e))
long-on false zero false c e = absurd (omega (arith, ap tag e))
long-on false (suc n) r c e = absurd (omega (arith, ap tag e))

line_on : (b : Bool) (n : ℕ) (r : Bool) (c : Counts) (k : ℕ) → said b n r c ≡ Err (NotUnderstood k) → (b ≡ false) × (1 ≤ k) × (n ≡ k)
line_on true n r c k e = absurd (omega (arith, ap tag e))
line_on false zero true c k e = absurd (omega (arith, ap tag e))
line_on false zero false c k e = absurd (omega (arith, ap tag e))
line_on false (suc n) r c k e = let q : suc n ≡ k = cc in (refl, omega arith, q)

room-on : (b : Bool) (n : ℕ) (r : Bool) (c : Counts) → said b n r c ≡ Err NoRoom → (b ≡ false) × (n ≡ 0) × (r ≡ false)
room-on true n r c e = absurd (omega (arith, ap tag e))
room-on false zero true c e = absurd (omega (arith, ap tag e))
room-on false zero false c e = (refl, refl, refl)
room-on false (suc n) r c e = absurd (omega (arith, ap tag e))

read_on : (b : Bool) (n : ℕ) (r : Bool) (c d : Counts) → said b n r c ≡ Ok d → (b ≡ false) × (n ≡ 0) × (r ≡ true)
read_on true n r c d e = absurd (omega (arith, ap tag e))
read_on false zero true c d e = (refl, refl, refl)
read_on false zero false c d e = absurd (omega (arith, ap tag e))
read_on false (suc n) r c d e = absurd (omega (arith, ap tag e))

on_line : (k : ℕ) (r : Bool) (c : Counts) → 1 ≤ k → said false k r c ≡ Err (NotUnderstood k)
on_line zero r c h = absurd (omega arith)
on_line (suc k) r c h = refl

if-said : (n : ℕ) (c : Counts) (names ends steps lists : ℕ)
    → if_room (told_by n c) names ends steps lists ≡ said false n (has_room c names ends steps lists) c
if-said zero c names ends steps lists = bool_cases (has_room c names ends steps lists) (λ t. rw t) (λ t. rw t)
if-said (suc n) c names ends steps lists = refl

-- ---- the rooms

holds_on : (es : List Entry) (names ends steps lists : ℕ) → RoomFor es names ends steps lists → has_room (counts_of es) names ends steps lists ≡ true
holds_on es names ends steps lists h =
    let c = counts_of es in
    and_on (leb c.names names) (leb c.ends ends && (leb c.moves steps && leb c.lists lists)) (le-leb c.names names h.0)
    (and_on (leb c.ends ends) (leb c.moves steps && leb c.lists lists) (le-leb c.ends ends h.1)
    (and_on (leb c.moves steps) (leb c.lists lists) (le-leb c.moves steps h.2) (le-leb c.lists lists h.3)))

module _ (text : List ℕ) (names ends steps lists : ℕ) where
  abbrev es : List Entry
  es = entries_of text

  abbrev long : Bool
  long = ltb most_bytes (length text)

  abbrev large : Bool
  large = has_room (counts_of es) names ends steps lists

  answer-is : read_answer text names ends steps lists ≡ said long (first_unclear 1 0 es) large (counts_of es)
  unfolding read_answer told
  answer-is = bool_cases long (λ t. rw t) (λ t. rw t (if-said (first_unclear 1 0 es) (counts_of es) names ends steps lists))

  short : long ≡ false → length text ≤ most_bytes
  short t = ltb-false most_bytes (length text) t

  not-long : length text ≤ most_bytes → long ≡ false
  not-long h = le-ltb most_bytes (length text) h

  pub read-tells : (c : Counts) → read_answer text names ends steps lists ≡ Ok c → (length text ≤ most_bytes) × (first_unclear 1 0 es ≡ 0)
  read-tells c e = let r = read_on long (first_unclear 1 0 es) large (counts_of es) c (sym answer-is ∙ e) in (short r.0, r.1)

  pub answering-holds : Answering text names ends steps lists
  answering-holds =
      let n = first_unclear 1 0 es in
      let c = counts_of es in
      record {
        too_long = (
          λ e. ltb-true most_bytes (length text) (long-on long n large c (sym answer-is ∙ e)),
          λ h. answer-is ∙ rw (lt-ltb most_bytes (length text) h),
        );
        not_understood =
            λ k. (
              λ e. let r = line_on long n large c k (sym answer-is ∙ e) in (short r.0, r.1, r.2),
              λ h. answer-is ∙ rw (not-long h.0, h.2) (on_line k large c h.1),
            );
        no_room = (
          λ e.
              let r = room-on long n large c (sym answer-is ∙ e) in
              (short r.0, r.1, λ h. clash (holds_on es names ends steps lists h) r.2),
          λ h. answer-is ∙ rw (not-long h.0, h.1, is-not large (λ t. h.2 (rooms c names ends steps lists t))),
        );
        read = (
          λ e.
              let r = read_on long n large c c (sym answer-is ∙ e) in
              (short r.0, r.1, rooms c names ends steps lists r.2),
          λ h. answer-is ∙ rw (not-long h.0, h.1, holds_on es names ends steps lists h.2),
        );
      }
