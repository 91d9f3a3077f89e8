-- The text of fields says these fields: line after line, and form after form.
use mathlib.Core.Path.{◌≡◌, refl, sym, ap, ◌∙◌}
use mathlib.Core.Bool.{Bool, true, ◌&&◌}
use mathlib.Core.List.{List, [], ◌∷◌, ◌++◌, append_assoc, append-nil}
use Prim.Native.Nat.{ℕ, zero, suc, ◌+◌, ◌/◌, ◌%◌, ◌≤◌, ◌<◌}
use native.Mathlib.Omega.{arith}
use borrow.Author.Tests.{le-ltb}
use lib.ListN.{length, get_or, take, drop, length-append, length-drop, length-take, take-append-drop}
use lib.Seq.{get_or-append_seam}
use lib.Dec.{ltb}
use Rattle.laws.proofs.Bools.{bool_cases, on_and}
use Rattle.number.specs.declared.Edition as Number
use Rattle.number.specs.declared.Edition.TheVariants.{First, Second}
use Rattle.plan.specs.Lines.{lines_of}
use Rattle.plan.specs.Promises.{NoFeed}
use Rattle.plan.proofs.LinesHold.{lines-hold}
use Rattle.listing.specs.Words.{line_feed, digits_from, decimal}
use Rattle.script.specs.declared.Due.{Due}
use Rattle.script.specs.declared.Stage.{Stage}
use Rattle.script.specs.declared.Stage.TheVariants.{Edition, Sagas, Steps, Plain, Objects, Dependencies, Entries, Events, Loose}
use Rattle.script.specs.Forms.{table, forms, allows, loose_letter, sign_of, takes_by, takes, count_of, is_own, fits, piece_by, piece_of, shown, form_for}
use Rattle.script.specs.Stages.{letter_of, first_due, due_after}
use Rattle.script.specs.Scripts
use Rattle.script.specs.Scripts.{form_due, text_from, book_text, LineSaying, passes, unclear, said_as, one_says, or_next, first_says, line_says, Telling, tells, more_at, on_line, tells_from, telling}
use Rattle.script.proofs.RowLaws.{every}
use Rattle.script.proofs.ShowLaws.{Small, small-drop, chosen-holds, some-forms, says-one}
use Rattle.script.proofs.BackLaws.{sign-elim, lead, after_blank, front, tidy, lead-stands, differ, own_back, other-back}

-- ---- the table: every form is tidy and begins with a word, and every two of them differ

abbrev apart : List (List ℕ) → Bool
apart [] = true
apart (form ∷ more) = every (differ form) more && apart more

abbrev wordly : List ℕ → Bool
wordly form = after_blank (lead form)

all_apart : apart forms ≡ true
unfolding forms table lines_of sign_of
all_apart = refl

all-tidy : every tidy forms ≡ true
unfolding forms table lines_of sign_of
all-tidy = refl

all-wordly : every wordly forms ≡ true
unfolding forms table lines_of sign_of
all-wordly = refl

-- ---- the chosen form may stand there and fits

abbrev last_of : List (List ℕ) → List ℕ
last_of [] = []
last_of (form ∷ []) = form
last_of (form ∷ next ∷ more) = last_of (next ∷ more)

last-stands : (stage : Stage) (ed : Number.Edition) (v : ℕ) (fs : List ℕ) → (allows (last_of forms) (letter_of stage ed) && fits (last_of forms) (v ∷ fs)) ≡ true
unfolding forms table lines_of sign_of allows fits is_own takes
last-stands Edition ed v fs = refl
last-stands Sagas ed v fs = refl
last-stands Steps ed v fs = refl
last-stands Plain ed v fs = refl
last-stands Objects ed v fs = refl
last-stands Dependencies ed v fs = refl
last-stands Entries ed v fs = refl
last-stands Events First v fs = refl
last-stands Events Second v fs = refl
last-stands Loose ed v fs = refl

chosen-stands : (rows : List (List ℕ)) (letter : ℕ) (fs : List ℕ) → (allows (last_of rows) letter && fits (last_of rows) fs) ≡ true
    → (allows (form_for rows letter fs) letter && fits (form_for rows letter fs) fs) ≡ true
unfolding form_for
chosen-stands [] letter fs h = h
chosen-stands (form ∷ []) letter fs h = h
chosen-stands (form ∷ next ∷ more) letter fs h =
    bool_cases (allows form letter && fits form fs) (λ e. rw e e) (λ e. rw e (chosen-stands (next ∷ more) letter fs h))

-- ---- what the line says by the first form that it has

module _ (letter : ℕ) (fs l : List ℕ) (small : Small fs) where
  own-one : (form : List ℕ) → tidy form ≡ true → (allows form letter && fits form fs) ≡ true
      → one_says form letter (shown form fs) l ≡ Scripts.takes (l ++ take (count_of form) fs) (allows form loose_letter)
  unfolding one_says
  own-one form t h =
      let w = on_and (allows form letter) (fits form fs) h in
      rw (w.0, own_back form fs l t small w.1)

  other-one : (q form : List ℕ) → tidy form ≡ true → differ q form ≡ true → one_says q letter (shown form fs) l ≡ unclear
  unfolding one_says
  other-one q form t d = bool_cases (allows q letter) (λ e. rw (e, other-back q form fs l t small d)) (λ e. rw e)

  first_back : (rows : List (List ℕ)) → 0 < length rows → every tidy rows ≡ true → apart rows ≡ true
      → (allows (form_for rows letter fs) letter && fits (form_for rows letter fs) fs) ≡ true
      → first_says rows letter (shown (form_for rows letter fs) fs) l ≡ Scripts.takes (l ++ take (count_of (form_for rows letter fs)) fs) (allows (form_for rows letter fs) loose_letter)
  unfolding first_says form_for
  first_back [] n t a h = absurd (omega arith)
  first_back (form ∷ []) n t a h = rw (own-one form (on_and (tidy form) true t).0 h)
  first_back (form ∷ next ∷ more) n t a h =
      let tt = on_and (tidy form) (every tidy (next ∷ more)) t in
      let aa = on_and (every (differ form) (next ∷ more)) (apart (next ∷ more)) a in
      let chosen = form_for (next ∷ more) letter fs in
      bool_cases (allows form letter && fits form fs)
      (λ e. rw (e, own-one form tt.0 e))
      (λ e.
      let k : (allows chosen letter && fits chosen fs) ≡ true = rw e at h in
      rw (e, other-one form chosen (chosen-holds tidy (next ∷ more) letter fs (omega arith) tt.1) (chosen-holds (differ form) (next ∷ more) letter fs (omega arith) aa.0))
      (first_back (next ∷ more) (omega arith) tt.1 aa.1 k))

module _ (due : Due) (v : ℕ) (rest l : List ℕ) (small : Small (v ∷ rest)) where
  abbrev letter : ℕ
  letter = letter_of due.stage due.edition

  pub line_back : line_says letter (shown (form_due due (v ∷ rest)) (v ∷ rest)) l ≡ Scripts.takes (l ++ take (count_of (form_due due (v ∷ rest))) (v ∷ rest)) (allows (form_due due (v ∷ rest)) loose_letter)
  unfolding line_says
  line_back =
      let form = form_due due (v ∷ rest) in
      let s = lead-stands (lead form) (shown form (v ∷ rest)) (chosen-holds wordly forms letter (v ∷ rest) some-forms all-wordly) (front form (v ∷ rest)) in
      rw (s.not-ended, s.past)
      (first_back letter (v ∷ rest) l small forms some-forms all-tidy all_apart
      (chosen-stands forms letter (v ∷ rest) (last-stands due.stage due.edition v rest)))

-- ---- a line has no line feed in it

abbrev High : List ℕ → Type 0
High [] = Unit {0}
High (b ∷ s) = (32 ≤ b) × High s

high-append : (s t : List ℕ) → High s → High t → High (s ++ t)
high-append [] t h k = k
high-append (b ∷ s) t h k = (h.0, high-append s t h.1 k)

high-digits : (k n : ℕ) → High (digits_from k n)
unfolding digits_from
high-digits zero n = tt
high-digits (suc k) n =
    bool_cases (ltb n 10) (λ e. rw e (omega arith, tt)) (λ e. rw e (high-append (digits_from k (n / 10)) ((48 + n % 10) ∷ []) (high-digits k (n / 10)) (omega arith, tt)))

high-shown : (form fs : List ℕ) → High (shown form fs)
unfolding shown piece_of takes decimal
high-shown [] fs = tt
high-shown (b ∷ form) fs =
    sign-elim (λ k. High (piece_by k b (get_or fs 0 0) ++ shown form (drop (takes_by k) fs))) b
    (λ e. high-append (digits_from 20 (get_or fs 0 0)) (shown form (drop 1 fs)) (high-digits 20 (get_or fs 0 0)) (high-shown form (drop 1 fs)))
    (λ e. (omega arith, high-shown form fs))
    (λ v. high-shown form (drop 1 fs))
    (λ lo hi. (omega arith, high-shown form fs))
    (high-shown form fs)

no-feed : (s : List ℕ) → High s → NoFeed s
no-feed [] h i l e = absurd (omega arith)
no-feed (b ∷ s) h zero l e = absurd (omega (arith, h.0))
no-feed (b ∷ s) h (suc i) l e = no-feed s h.1 i (omega arith) e

line_first : (form fs rest : List ℕ) → lines_of ((shown form fs ++ line_feed) ++ rest) ≡ shown form fs ∷ lines_of rest
line_first form fs rest =
    ap lines_of (append_assoc (shown form fs) line_feed rest) ∙ lines-hold.fed (shown form fs) rest (no-feed (shown form fs) (high-shown form fs))

-- ---- line after line

take-first : (n v : ℕ) (l fs : List ℕ) → 1 ≤ n → get_or (l ++ take n (v ∷ fs)) (length l) 0 ≡ v
take-first zero v l fs h = absurd (omega arith)
take-first (suc n) v l fs h = get_or-append_seam l v (take n fs) 0

take-few : (n v : ℕ) (l fs : List ℕ) → length (l ++ take n (v ∷ fs)) ≤ length l + length (v ∷ fs)
take-few n v l fs = omega (arith, length-append l (take n (v ∷ fs)), length-take n (v ∷ fs))

text-back : (most k number : ℕ) (due : Due) (fs l : List ℕ) → length fs ≤ k → Small fs → length l + length fs ≤ most
    → tells_from most number due l (lines_of (text_from k due fs)) ≡ tells (l ++ fs)
unfolding text_from tells_from lines_of
text-back most zero number due [] l n small h = ap tells (sym (append-nil l))
text-back most zero number due (v ∷ fs) l n small h = absurd (omega arith)
text-back most (suc k) number due [] l n small h = ap tells (sym (append-nil l))
text-back most (suc k) number due (v ∷ fs) l n small h =
    let form = form_due due (v ∷ fs) in
    let count = count_of form in
    let loose = allows form loose_letter in
    let more = l ++ take count (v ∷ fs) in
    let one = says-one (letter_of due.stage due.edition) (v ∷ fs) in
    let later = text_from k (due_after due loose v) (drop count (v ∷ fs)) in
    let few = take-few count v l fs in
    ap (tells_from most number due l) (line_first form (v ∷ fs) later)
    ∙ rw (line_back due v fs l small, le-ltb most (length more) (omega (arith, few)), take-first count v l fs one)
    (text-back most k (number + 1) (due_after due loose v) (drop count (v ∷ fs)) more
    (omega (arith, length-drop count (v ∷ fs), one)) (small-drop (v ∷ fs) count small)
    (omega (arith, length-append l (take count (v ∷ fs)), length-take count (v ∷ fs), length-drop count (v ∷ fs)))
    ∙ ap tells (append_assoc l (take count (v ∷ fs)) (drop count (v ∷ fs)) ∙ ap (l ++◌) (take-append-drop count (v ∷ fs))))

pub script-back : (most : ℕ) (fs : List ℕ) → Small fs → length fs ≤ most → telling most (book_text fs) ≡ tells fs
unfolding telling book_text
script-back most fs small h = text-back most (length fs) 1 first_due fs [] (omega arith) small (omega arith)
