-- The text of fields line after line, as the code meets it.
use mathlib.Core.Path.{◌≡◌, refl, sym, ap, ap₂, subst, ◌∙◌}
use mathlib.Core.Bool.{Bool, true, ◌&&◌}
use mathlib.Core.List.{List, [], ◌∷◌, ◌++◌, append_assoc, append-nil}
use Prim.Native.Nat.{ℕ, zero, suc, ◌+◌, ◌-◌, ◌≤◌, ◌<◌}
use native.Mathlib.Omega.{arith}
use borrow.Author.Tests.{leb-true, le-leb, lt-leb}
use lib.ListN.{length, get_or, take, drop, length-append, length-drop, length-take}
use lib.Seq.{get_or-drop, drop-drop, length-take-le, take_at}
use lib.Dec.{leb}
use Rattle.std.specs.Prelude.{Option, Some, None}
use Rattle.laws.proofs.Bools.{bool_cases, on_and}
use Rattle.laws.proofs.Decisions.{lt-or}
use Rattle.listing.specs.Words.{line_feed}
use Rattle.listing.specs.Texts.{text_of, with_all, put_answer, put_room}
use Rattle.listing.specs.declared.Text.{Text}
use Rattle.listing.proofs.TextLaws.{all-fits, put_small, put-done}
use Rattle.listing.proofs.DigitLaws.{decimal-few}
use Rattle.script.specs.declared.Sign.{Sign}
use Rattle.script.specs.declared.Sign.TheVariants.{Fixed, Number, Blank, Letter, Nothing}
use Rattle.script.specs.declared.Due.{Due}
use Rattle.script.specs.declared.Shown.{Shown}
use Rattle.script.specs.Forms.{table, forms, most_fields, sign_of, largest, allows, loose_letter, takes, count_of, fits, piece_by, piece_of, shown, form_for}
use Rattle.script.specs.Stages.{letter_of, first_due, due_after}
use Rattle.script.specs.Scripts.{form_due, text_from, ShownBy, book_text, text, too_small, printed_if_room}
use Rattle.script.proofs.RowLaws.{every, few, all-few}
use Rattle.script.proofs.ByteLaws.{drop-none}
use Rattle.script.proofs.FormLaws.{first-left}
use borrow.Rule.Slice.PartMut.{put_mid, post_of}
use Rattle.plan.specs.Lines.{lines_of}

-- ---- how long a line is

abbrev width_by : Sign → ℕ
width_by (Fixed v) = 0
width_by Number = 10
width_by Blank = 1
width_by Letter = 1
width_by Nothing = 0

abbrev widest : List ℕ → ℕ
widest [] = 0
widest (b ∷ form) = width_by (sign_of b) + widest form

-- no field is larger than a line can say
abbrev pub Small : List ℕ → Type 0
Small fs = (i : ℕ) → get_or fs i 0 ≤ largest

pub small-drop : (fs : List ℕ) (n : ℕ) → Small fs → Small (drop n fs)
small-drop fs n h i = omega (arith, get_or-drop n fs i 0, h (n + i))

piece-short : (b v : ℕ) → v ≤ largest → length (piece_of b v) ≤ width_by (sign_of b)
unfolding piece_of
piece-short b v h = go (sign_of b)
  where
    go : (s : Sign) → length (piece_by s b v) ≤ width_by s
    go (Fixed w) = omega arith
    go Number = decimal-few 9 v (omega arith)
    go Blank = omega arith
    go Letter = omega arith
    go Nothing = omega arith

shown-short : (form fs : List ℕ) → Small fs → length (shown form fs) ≤ widest form
unfolding shown
shown-short [] fs h = omega arith
shown-short (b ∷ form) fs h =
    omega (
      arith,
      length-append (piece_of b (get_or fs 0 0)) (shown form (drop (takes b) fs)),
      piece-short b (get_or fs 0 0) (h 0),
      shown-short form (drop (takes b) fs) (small-drop fs (takes b) h),
    )

-- ---- the form that is chosen is one of the table

pub chosen-holds : (test : List ℕ → Bool) (rows : List (List ℕ)) (letter : ℕ) (fs : List ℕ) → 0 < length rows → every test rows ≡ true → test (form_for rows letter fs) ≡ true
unfolding form_for
chosen-holds test [] letter fs n h = absurd (omega arith)
chosen-holds test (form ∷ []) letter fs n h = (on_and (test form) true h).0
chosen-holds test (form ∷ next ∷ more) letter fs n h =
    bool_cases (allows form letter && fits form fs)
    (λ e. rw e (on_and (test form) (every test (next ∷ more)) h).0)
    (λ e. rw e (chosen-holds test (next ∷ more) letter fs (omega arith) (on_and (test form) (every test (next ∷ more)) h).1))

abbrev sound : List ℕ → Bool
sound form = leb (widest form) 103 && leb 1 (count_of form)

all_sound : every sound forms ≡ true
unfolding forms table lines_of count_of takes sign_of
all_sound = refl

pub some-forms : 0 < length forms
unfolding forms table lines_of
some-forms = omega arith

module _ (letter : ℕ) (fs : List ℕ) where
  bounds : (widest (form_for forms letter fs) ≤ 103) × (1 ≤ count_of (form_for forms letter fs))
  bounds =
      let w = on_and (leb (widest (form_for forms letter fs)) 103) (leb 1 (count_of (form_for forms letter fs))) (chosen-holds sound forms letter fs some-forms all_sound) in
      (leb-true (widest (form_for forms letter fs)) 103 w.0, leb-true 1 (count_of (form_for forms letter fs)) w.1)

  -- every line says a field
  pub says-one : 1 ≤ count_of (form_for forms letter fs)
  says-one = bounds.1

  pub says-few : count_of (form_for forms letter fs) ≤ most_fields
  says-few = leb-true (count_of (form_for forms letter fs)) most_fields (chosen-holds few forms letter fs some-forms all-few)

  -- and a line is written whole
  pub line-whole : Small fs → (t : Text) → text_of t ≡ with_all [] (shown (form_for forms letter fs) fs ++ line_feed) → text_of t ≡ shown (form_for forms letter fs) fs ++ line_feed
  line-whole h t e =
      e ∙ all-fits [] (shown (form_for forms letter fs) fs ++ line_feed)
      (omega (arith, length-append (shown (form_for forms letter fs) fs) line_feed, shown-short (form_for forms letter fs) fs h, bounds.0))

-- ---- line after line

text-cons : (k : ℕ) (due : Due) (s : List ℕ) → 0 < length s
    → text_from (suc k) due s
    ≡ (shown (form_due due s) s ++ line_feed) ++ text_from k (due_after due (allows (form_due due s) loose_letter) (get_or s 0 0)) (drop (count_of (form_due due s)) s)
unfolding text_from
text-cons k due [] h = absurd (omega arith)
text-cons k due (v ∷ fs) h = refl

text-none : (k : ℕ) (due : Due) → text_from k due [] ≡ []
unfolding text_from
text-none zero due = refl
text-none (suc k) due = refl

-- the line that the code makes
pub line-shown : (letter due : ℕ) (part s : List ℕ) (r : Shown) → letter ≡ due → part ≡ s → Small s → ShownBy (form_for forms letter part) part r
    → (text_of r.text ≡ shown (form_for forms due s) s ++ line_feed) × ((r.fields ≡ count_of (form_for forms due s)) × (r.loose ≡ allows (form_for forms due s) loose_letter))
line-shown letter due part s r e q small h =
    let g : ShownBy (form_for forms due s) s r = subst (λ (x : ℕ). ShownBy (form_for forms x s) s r) e (subst (λ (x : List ℕ). ShownBy (form_for forms letter x) x r) q h) in
    (line-whole due s small r.text g.0, g.1)

-- ---- into the room

put-wrote : (t part exit : List ℕ) (more : ℕ) → Some more ≡ put_answer t part → exit ≡ put_room t part → (more ≡ length t) × (length t ≤ length part) × (exit ≡ t ++ drop more part)
put-wrote t part exit more e q =
    lt-or (length part) (length t)
    (λ h. let z : ◌≡◌ {A = Option ℕ} (Some more) None = e ∙ sym (put_small t part h).0 in let f : ◌≡◌ {A = ℕ} 0 1 = cc in absurd (omega arith))
    (λ h.
    let z : ◌≡◌ {A = Option ℕ} (Some more) (Some (length t)) = e ∙ sym (put-done t part (length t) refl h).0 in
    let same : more ≡ length t = cc in
    (same, h, q ∙ sym (put-done t part (length t) refl h).1 ∙ ap (λ (m : ℕ). t ++ drop m part) (sym same)))

put-none : (t part : List ℕ) → None ≡ put_answer t part → length part < length t
put-none t part e =
    lt-or (length part) (length t) (λ h. h)
    (λ h. let z : ◌≡◌ {A = Option ℕ} None (Some (length t)) = e ∙ sym (put-done t part (length t) refl h).0 in let f : ◌≡◌ {A = ℕ} 0 1 = cc in absurd (omega arith))

-- before a line: n bytes of the text stand in the room, and the fields are shown up to a place
abbrev pub Laid : List ℕ → ℕ → List ℕ → Due → ℕ → ℕ → Type 0
Laid fs size room due n at =
    (k : ℕ) × (length fs - at ≤ k) × (n ≤ length room) × (length room ≡ size) × (book_text fs ≡ take n room ++ text_from k due (drop at fs))

pub laid-first : (fs room : List ℕ) (due : Due) → due ≡ first_due → Laid fs (length room) room due 0 0
unfolding book_text
laid-first fs room due e = (length fs, omega arith, omega arith, refl, ap (λ (d : Due). text_from (length fs) d fs) (sym e))

module _ (fs : List ℕ) (size : ℕ) (room : List ℕ) (due : Due) (n at : ℕ) (inv : Laid fs size room due n at) where
  pub laid_end : length fs ≤ at → text (take n room) ≡ printed_if_room (book_text fs) size
  unfolding printed_if_room
  laid_end h =
      let e : book_text fs ≡ take n room = inv.4 ∙ ap (λ (l : List ℕ). take n room ++ text_from inv.0 due l) (drop-none fs at h) ∙ ap (λ (l : List ℕ). take n room ++ l) (text-none inv.0 due) ∙ append-nil (take n room) in
      rw (e, le-leb (length (take n room)) size (omega (arith, length-take-le n room inv.2, inv.2, inv.3)))

  module _ (h : at < length fs) (t : List ℕ) (line : t ≡ shown (form_due due (drop at fs)) (drop at fs) ++ line_feed) where
    later : List ℕ
    later = text_from (inv.0 - 1) (due_after due (allows (form_due due (drop at fs)) loose_letter) (get_or fs at 0)) (drop (at + count_of (form_due due (drop at fs))) fs)

    whole : book_text fs ≡ take n room ++ (t ++ later)
    unfolding later
    whole =
        let k : inv.0 ≡ suc (inv.0 - 1) = omega (arith, inv.1) in
        inv.4
        ∙ ap (λ (j : ℕ). take n room ++ text_from j due (drop at fs)) k
        ∙ ap (take n room ++◌) (text-cons (inv.0 - 1) due (drop at fs) (omega (arith, length-drop at fs)))
        ∙ rw (line, first-left fs at, drop-drop (count_of (form_due due (drop at fs))) at fs)

    pub laid_none : None ≡ put_answer t (take (length room - n) (drop n room)) → too_small ≡ printed_if_room (book_text fs) size
    unfolding printed_if_room
    laid_none e =
        let l = put-none t (take (length room - n) (drop n room)) e in
        let long : size < length (book_text fs) = omega (arith, ap length whole, length-append (take n room) (t ++ later), length-append t later, length-take-le n room inv.2, l, length-take (length room - n) (drop n room), length-drop n room, inv.2, inv.3) in
        rw (lt-leb (length (book_text fs)) size long)

    module _ (exit : List ℕ) (more : ℕ) (e : Some more ≡ put_answer t (take (length room - n) (drop n room))) (q : exit ≡ put_room t (take (length room - n) (drop n room)))
        (kept : length (put_mid n (length room - n) room exit) ≡ length room) where
      wrote : (more ≡ length t) × (length t ≤ length (take (length room - n) (drop n room))) × (exit ≡ t ++ drop more (take (length room - n) (drop n room)))
      wrote = put-wrote t (take (length room - n) (drop n room)) exit more e q

      pub laid-fits : n + more ≤ length room
      laid-fits = omega (arith, wrote.0, wrote.1, length-take (length room - n) (drop n room), length-drop n room, inv.2)

      front : take (n + more) (put_mid n (length room - n) room exit) ≡ take n room ++ t
      front =
          let part = take (length room - n) (drop n room) in
          let rest = drop more part ++ post_of n (length room - n) room in
          ap (λ (x : List ℕ). take (n + more) (put_mid n (length room - n) room x)) wrote.2
          ∙ ap (λ (x : List ℕ). take (n + more) (take n room ++ x)) (append_assoc t (drop more part) (post_of n (length room - n) room))
          ∙ ap (take (n + more)) (sym (append_assoc (take n room) t rest))
          ∙ take_at (take n room ++ t) rest (n + more) (length-append (take n room) t ∙ omega (arith, length-take-le n room inv.2, wrote.0))

      pub laid_more : (r : Due) (fields : ℕ) (loose : Bool) → fields ≡ count_of (form_due due (drop at fs)) → loose ≡ allows (form_due due (drop at fs)) loose_letter
          → r ≡ due_after due loose (get_or fs at 0) → Laid fs size (put_mid n (length room - n) room exit) r (n + more) (at + fields)
      unfolding later
      laid_more r fields loose p l d = (
        inv.0 - 1,
        omega (arith, inv.1, p, says-one (letter_of due.stage due.edition) (drop at fs)),
        omega (arith, laid-fits, kept),
        kept ∙ inv.3,
        whole ∙ sym (append_assoc (take n room) t later)
            ∙ ap₂ (λ (x y : List ℕ). x ++ y) (sym front) (rw (d, l, p)),
      )
