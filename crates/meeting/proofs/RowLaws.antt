-- Rows put together part by part, and that all of a row is told.
use Prim.Native.Nat.{ℕ, ◌≤◌}
use native.Mathlib.Omega.{arith}
use mathlib.Core.Path.{◌≡◌, sym, ap, ◌∙◌}
use mathlib.Core.List.{List, [], ◌++◌}
use lib.ListN.{length, length-append}
use Rattle.share.specs.declared.Share.{Share}
use Rattle.listing.specs.Texts.{with_all}
use Rattle.listing.specs.Words.{decimal, line_feed}
use Rattle.listing.proofs.TextPromisesHold.{text-promises}
use Rattle.meeting.specs.Rows.{count_row, of_word, share_head, share_row}

-- one part, and then the rest
pub then : (l xs ys : List ℕ) {t u : List ℕ} → t ≡ with_all l xs → u ≡ with_all t ys → u ≡ with_all l (xs ++ ys)
then l xs ys p q = q ∙ ap (λ (k : List ℕ). with_all k ys) p ∙ sym (text-promises.parts l xs ys)

-- a row begins with nothing
pub first : (xs : List ℕ) {t u : List ℕ} → t ≡ [] → u ≡ with_all t xs → u ≡ with_all [] xs
first xs p q = q ∙ ap (λ (k : List ℕ). with_all k xs) p

-- a number has at most 20 digits, so all fits
pub count-whole : (words : List ℕ) (n : ℕ) → length words ≤ 20 → with_all [] (count_row words n) ≡ count_row words n
count-whole words n h =
    text-promises.fits [] (count_row words n)
    (omega (arith, length-append words (decimal n ++ line_feed), length-append (decimal n) line_feed, text-promises.digits n))

pub share-whole : (r : Share) → with_all [] (share_row r) ≡ share_row r
share-whole r =
    let rest = decimal r.whole ++ line_feed in
    text-promises.fits [] (share_row r)
    (omega (
      arith,
      length-append share_head (decimal r.part ++ (of_word ++ rest)),
      length-append (decimal r.part) (of_word ++ rest),
      length-append of_word rest,
      length-append (decimal r.whole) line_feed,
      text-promises.digits r.part,
      text-promises.digits r.whole,
    ))
