-- Laws of texts that grow.
use Prim.Native.Nat.{ℕ, ◌+◌, ◌≤◌, ◌<◌, min}
use mathlib.Core.Path.{◌≡◌, refl, sym, ap, ◌∙◌}
use mathlib.Core.List.{List, [], ◌∷◌, ◌++◌, append-nil, append_assoc}
use native.Mathlib.Numerals.{add-one}
use native.Mathlib.Omega.{arith}
use borrow.Author.Tests.{lt-ltb, le-ltb}
use lib.ListN.{length, take, drop, get_or, set, length-append, length-drop, length-take}
use lib.Seq.{take-suc-set, length-take-le, take_all}
use Rattle.std.specs.Prelude.{Option, Some, None}
use Rattle.laws.proofs.Decisions.{lt-or}
use Rattle.laws.proofs.ListLaws.{front-suc}
use Rattle.listing.specs.declared.Text.{Text}
use Rattle.listing.specs.Texts.{most_text, put_answer, put_room, text_of, with_byte, with_all}

-- ---- one byte

-- where there is room, it stands at the end
pub byte_fits : (l : List ℕ) (n b : ℕ) → length l ≡ most_text → n < most_text → take (n + 1) (set l n b) ≡ with_byte (take n l) b
byte_fits l n b e h =
    let t : length (take n l) ≡ n = length-take-le n l (omega arith) in
    rw (add-one n, lt-ltb (length (take n l)) most_text (omega arith)) (take-suc-set l n b (omega arith))

-- where there is none, the text stays
pub byte_left : (l : List ℕ) (n b : ℕ) → length l ≡ most_text → most_text ≤ n → take n l ≡ with_byte (take n l) b
byte_left l n b e h =
    let t : take n l ≡ l = take_all n l (omega arith) in
    rw (t, le-ltb (length l) most_text (omega arith))

-- ---- many bytes

pub all_none : (l : List ℕ) → with_all l [] ≡ l
unfolding with_all
all_none l = refl

pub all_one : (l : List ℕ) (b : ℕ) → with_all l (b ∷ []) ≡ with_byte l b
unfolding with_all
all_one l b = refl

pub all_append : (l xs ys : List ℕ) → with_all l (xs ++ ys) ≡ with_all (with_all l xs) ys
unfolding with_all
all_append l [] ys = refl
all_append l (b ∷ bs) ys = all_append (with_byte l b) bs ys

-- the first i + 1 bytes of a word are the first i and one more
pub all_more : (l letters : List ℕ) (i : ℕ) → i < length letters
    → with_all l (take (i + 1) letters) ≡ with_byte (with_all l (take i letters)) (get_or letters i 0)
all_more l letters i h =
    rw (front-suc letters i h, all_append l (take i letters) (get_or letters i 0 ∷ []))
    (all_one (with_all l (take i letters)) (get_or letters i 0))

-- what fits is all there
pub all-fits : (l xs : List ℕ) → length l + length xs ≤ most_text → with_all l xs ≡ l ++ xs
unfolding with_all
all-fits l [] h = sym (append-nil l)
all-fits l (b ∷ bs) h =
    rw (lt-ltb (length l) most_text (omega arith))
    (all-fits (l ++ (b ∷ [])) bs (simp length-append (omega arith)) ∙ append_assoc l (b ∷ []) bs)

-- one part, and then the rest of a line
pub then : (l xs ys : List ℕ) {t u : List ℕ} → t ≡ with_all l xs → u ≡ with_all t ys → u ≡ with_all l (xs ++ ys)
then l xs ys p q = q ∙ ap (λ (k : List ℕ). with_all k ys) p ∙ sym (all_append l xs ys)

-- a line begins with nothing
pub first : (xs : List ℕ) {t u : List ℕ} → t ≡ [] → u ≡ with_all t xs → u ≡ with_all [] xs
first xs p q = q ∙ ap (λ (k : List ℕ). with_all k xs) p

-- ---- into a room

-- a text shows as many bytes as it says, and no more than it has
pub text-length : (t : Text) → length t.bytes ≡ most_text → length (text_of t) ≡ min t.len most_text
text-length t e = length-take t.len t.bytes ∙ ap (min t.len) e

-- so what it shows is its first bytes, as many
pub text-front : (t : Text) (n : ℕ) → length t.bytes ≡ most_text → n ≡ length (text_of t) → take n t.bytes ≡ text_of t
text-front t n e h =
    let l = text-length t e in
    lt-or t.len most_text
    (λ b. let same : n ≡ t.len = omega arith in ap (λ (m : ℕ). take m t.bytes) same)
    (λ b. take_all n t.bytes (omega arith) ∙ sym (take_all t.len t.bytes (omega arith)))

module _ (l room : List ℕ) where
  pub put_small : length room < length l → (None ≡ put_answer l room) × (room ≡ put_room l room)
  unfolding put_answer put_room
  put_small h = let t = lt-ltb (length room) (length l) h in (rw t, rw t)

  pub put-done : (n : ℕ) → n ≡ length l → n ≤ length room → (Some n ≡ put_answer l room) × (l ++ drop n room ≡ put_room l room)
  unfolding put_answer put_room
  put-done n d h =
      let t = le-ltb (length room) (length l) (omega arith) in
      (rw t (ap Some d), rw t (ap (λ (i : ℕ). l ++ drop i room) d))

  -- a lent room keeps its length
  pub put-kept : length (put_room l room) ≡ length room
  put-kept =
      lt-or (length room) (length l)
      (λ h. sym (ap length (put_small h).1))
      (λ h. sym (ap length (put-done (length l) refl h).1) ∙ (length-append l (drop (length l) room) ∙ omega (arith, length-drop (length l) room)))

  -- what was written fits the room
  pub put-fits : (n : ℕ) → Some n ≡ put_answer l room → n ≤ length room
  put-fits n e =
      lt-or (length room) (length l)
      (λ h. let z : ◌≡◌ {A = Option ℕ} (Some n) None = e ∙ sym (put_small h).0 in let f : ◌≡◌ {A = ℕ} 0 1 = cc in absurd (omega arith))
      (λ h. let z : ◌≡◌ {A = Option ℕ} (Some n) (Some (length l)) = e ∙ sym (put-done (length l) refl h).0 in let same : n ≡ length l = cc in omega arith)
