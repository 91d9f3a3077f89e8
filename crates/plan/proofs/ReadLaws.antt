-- What reading answers, and the rooms after it.
use mathlib.Core.Path.{◌≡◌, refl, sym, ap, ap₂, ◌∙◌}
use mathlib.Core.Bool.{true, false, ◌&&◌}
use mathlib.Core.List.{List, [], ◌∷◌, ◌++◌, map}
use Prim.Native.Nat.{ℕ, zero, suc, ◌+◌, ◌≤◌, ◌<◌}
use native.Mathlib.Omega.{arith}
use lib.ListN.{length, length-append}
use lib.Dec.{leb, eqb}
use borrow.Author.Tests.{lt-ltb, le-ltb, leb-true}
use Rattle.laws.proofs.Bools.{bool_cases, on_and}
use Rattle.plan.specs.declared.Counts.{Counts}
use Rattle.plan.specs.declared.PlanUnread.{PlanUnread}
use Rattle.plan.specs.declared.PlanUnread.TheVariants.{NoRoom, TooLong}
use Rattle.std.proofs.Common.{Ok, Err}
use Rattle.plan.specs.Lines.{lines_of, with_first, trimmed, word_of, name_of, Entry, entry_of, entries_of}
use Rattle.plan.specs.Reading.{PlanRead, first_unclear, names_in, joined, ends_from, plan_names, counts_of, most_bytes, told_by, told, has_room, if_room, read_answer, room_after}
use Rattle.plan.specs.Passes.{laid, no_counts}
use Rattle.plan.proofs.LaidLaws.{laid-front, laid-append}
use Rattle.plan.proofs.EntryLaws.{name-le}
use Rattle.plan.proofs.CountLaws.{joined-append, ends-append, length-ends, sum_more, line-below}

-- ---- names have no more bytes than the text

module _ (es : List Entry) where
  -- bytes of the names of both sorts
  abbrev pub bytes_of : ℕ
  bytes_of = length (joined (names_in false es)) + length (joined (names_in true es))

  pub names-bytes : length (plan_names es) ≡ bytes_of
  names-bytes =
      ap length (joined-append (names_in false es) (names_in true es)) ∙ length-append (joined (names_in false es)) (joined (names_in true es))

lines-bytes : (ls : List (List ℕ)) → bytes_of (map entry_of ls) ≤ length (joined ls)
unfolding names_in joined
lines-bytes [] = omega arith
lines-bytes (l ∷ ls) =
    let w = word_of (trimmed l) in
    let x = name_of (trimmed l) in
    let es = map entry_of ls in
    omega (arith, ap (λ (c : Counts). c.names) (sum_more no_counts x es w), (line-below no_counts w (length x)).names, name-le l, lines-bytes ls, length-append l (joined ls))

first-bytes : (b : ℕ) (ls : List (List ℕ)) → length (joined (with_first b ls)) ≡ suc (length (joined ls))
unfolding joined
first-bytes b [] = refl
first-bytes b (l ∷ ls) = refl

lines-within : (s : List ℕ) → length (joined (lines_of s)) ≤ length s
unfolding lines_of joined
lines-within [] = omega arith
lines-within (b ∷ s) =
    bool_cases (eqb b 10) (λ e. rw e (omega (arith, lines-within s))) (λ e. rw e (omega (arith, first-bytes b (lines_of s), lines-within s)))

pub names-within : (s : List ℕ) → bytes_of (entries_of s) ≤ length s
unfolding entries_of
names-within s = omega (arith, lines-bytes (lines_of s), lines-within s)

-- ---- the names of moves and steps, then those of the lists

module _ (xs ys : List (List ℕ)) where
  pub names-filled : (room : List ℕ) (n : ℕ) → n ≡ 0 + length (joined xs) → length (joined xs) ≤ length room
      → laid (laid room 0 (joined xs)) n (joined ys) ≡ laid room 0 (joined (xs ++ ys))
  names-filled room n e h =
      ap (λ (k : ℕ). laid (laid room 0 (joined xs)) k (joined ys)) e
      ∙ sym (laid-append room 0 (joined xs) (omega arith) (joined ys)) ∙ ap (laid room 0) (sym (joined-append xs ys))

  pub ends-filled : (room : List ℕ) (k n : ℕ) → k ≡ 0 + length xs → n ≡ 0 + length (joined xs) → length xs ≤ length room
      → laid (laid room 0 (ends_from 0 xs)) k (ends_from n ys) ≡ laid room 0 (ends_from 0 (xs ++ ys))
  ends-filled room k n p q h =
      let l = length-ends 0 xs in
      let e : k ≡ 0 + length (ends_from 0 xs) = omega arith in
      ap₂ (λ (i j : ℕ). laid (laid room 0 (ends_from 0 xs)) i (ends_from j ys)) e q
      ∙ sym (laid-append room 0 (ends_from 0 xs) (omega arith) (ends_from (0 + length (joined xs)) ys))
      ∙ ap (laid room 0) (sym (ends-append 0 xs ys))

-- ---- the answer

pub room-filled : (c : Counts) (written room : List ℕ) → laid room 0 written ≡ room_after (Ok c) written room
unfolding room_after
room-filled c written room = laid-front room written

by-counts : (n : ℕ) (c d : Counts) → Ok c ≡ told_by n d → c ≡ d
by-counts zero c d e = cc
by-counts (suc n) c d e = cc

pub told-counts : (es : List Entry) (c : Counts) → Ok c ≡ told es → c ≡ counts_of es
unfolding told
told-counts es c e = by-counts (first_unclear 1 0 es) c (counts_of es) e

module _ (text : List ℕ) (names ends steps lists : ℕ) where
  pub answer-long : most_bytes < length text → Err TooLong ≡ read_answer text names ends steps lists
  unfolding read_answer
  answer-long h = rw (lt-ltb most_bytes (length text) h)

  module _ (h : length text ≤ most_bytes) where
    short : {x : PlanRead} → x ≡ told (entries_of text) → if_room x names ends steps lists ≡ read_answer text names ends steps lists
    unfolding read_answer
    short e = ap (λ (y : PlanRead). if_room y names ends steps lists) e ∙ rw (le-ltb most_bytes (length text) h)

    pub answer-not : (why : PlanUnread) → Err why ≡ told (entries_of text) → Err why ≡ read_answer text names ends steps lists
    answer-not why e = short e

    module _ (c : Counts) (e : Ok c ≡ told (entries_of text)) where
      pub answer-full : has_room c names ends steps lists ≡ false → Err NoRoom ≡ read_answer text names ends steps lists
      answer-full o = let none : Err NoRoom ≡ if_room (Ok c) names ends steps lists = rw o in none ∙ short e

      pub answer-read : has_room c names ends steps lists ≡ true → Ok c ≡ read_answer text names ends steps lists
      answer-read o = let all : Ok c ≡ if_room (Ok c) names ends steps lists = rw o in all ∙ short e

-- each room is large enough
pub rooms : (c : Counts) (names ends steps lists : ℕ) → has_room c names ends steps lists ≡ true
    → (c.names ≤ names) × (c.ends ≤ ends) × (c.moves ≤ steps) × (c.lists ≤ lists)
rooms c names ends steps lists e =
    let a = on_and (leb c.names names) (leb c.ends ends && (leb c.moves steps && leb c.lists lists)) e in
    let b = on_and (leb c.ends ends) (leb c.moves steps && leb c.lists lists) a.1 in
    let d = on_and (leb c.moves steps) (leb c.lists lists) b.1 in
    (leb-true c.names names a.0, leb-true c.ends ends b.0, leb-true c.moves steps d.0, leb-true c.lists lists d.1)
