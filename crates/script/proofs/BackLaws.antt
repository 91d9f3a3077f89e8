-- A line that a form shows says by that form the fields that it was shown from, and nothing by a form that differs.
use mathlib.Core.Path.{◌≡◌, refl, sym, ap, ◌∙◌}
use mathlib.Core.Bool.{Bool, true, false, not, ◌&&◌, ◌||◌, false≢true}
use mathlib.Core.List.{List, [], ◌∷◌, ◌++◌, append_assoc, append-nil}
use Prim.Native.Nat.{ℕ, zero, suc, ◌+◌, ◌-◌, ◌*◌, ◌/◌, ◌%◌, ◌^◌, ◌≤◌, ◌<◌}
use native.Mathlib.Nat.{pow-suc}
use native.Mathlib.Omega.{arith}
use borrow.Author.Tests.{eq-eqb, ne_eqb, lt-ltb, le-ltb, le-leb, leb-true, ltb-true, eqb-true, eqb-false}
use lib.ListN.{get_or, take, drop}
use lib.Dec.{ltb, leb, eqb}
use Rattle.laws.proofs.Bools.{bool_cases, on_and, or-rest}
use Rattle.plan.specs.Lines.{is_blank, past_blanks}
use Rattle.listing.specs.Words.{digits_from, decimal}
use Rattle.script.specs.declared.Sign.{Sign}
use Rattle.script.specs.declared.Sign.TheVariants.{Fixed, Number, Blank, Letter, Nothing}
use Rattle.script.specs.Forms.{sign_of, takes_by, takes, count_of, own_by, is_own, fits, piece_by, piece_of, shown, blank_first, ended, is_figure, largest, figures_from, figure_first, numeral_of, Finding, goes, speaks, other, found_as, found_by, fields, another, on_finding, says}
use Rattle.script.proofs.ShowLaws.{Small, small-drop}

-- ---- by the sign of a byte, with what is known of the byte

pub sign-elim : (A : Sign → Type 0) (b : ℕ) → (b ≡ 35 → A Number) → (b ≡ 32 → A Blank) → ((v : ℕ) → A (Fixed v)) → (97 ≤ b → b ≤ 122 → A Letter) → A Nothing → A (sign_of b)
unfolding sign_of
sign-elim A b n k f l o =
    bool_cases (eqb b 35) (λ e. rw e (n (eqb-true b 35 e)))
    (λ e. rw e
    (bool_cases (eqb b 32) (λ e. rw e (k (eqb-true b 32 e)))
    (λ e. rw e
    (bool_cases (leb 48 b && ltb b 64) (λ e. rw e (f (b - 48)))
    (λ e. rw e
    (bool_cases (leb 97 b && leb b 122)
    (λ e. let w = on_and (leb 97 b) (leb b 122) e in rw e (l (leb-true 97 b w.0) (leb-true b 122 w.1)))
    (λ e. rw e o)))))))

-- ---- what a form writes first

pub data Lead : Type 0 where
  nil : Lead
  number : Lead
  blank : Lead
  letter : Lead

abbrev pub lead_by : Sign → Lead → Lead
lead_by (Fixed v) x = x
lead_by Number x = number
lead_by Blank x = blank
lead_by Letter x = letter
lead_by Nothing x = x

abbrev pub lead : List ℕ → Lead
lead [] = nil
lead (b ∷ form) = lead_by (sign_of b) (lead form)

abbrev pub Front : Lead → List ℕ → Type 0
Front nil s = s ≡ []
Front number s = (b : ℕ) × (t : List ℕ) × (s ≡ b ∷ t) × (48 ≤ b) × (b < 58)
Front blank s = (t : List ℕ) × (s ≡ 32 ∷ t)
Front letter s = (b : ℕ) × (t : List ℕ) × (s ≡ b ∷ t) × (97 ≤ b) × (b ≤ 122)

first-figure : (k n : ℕ) (s : List ℕ) → Front number (digits_from (suc k) n ++ s)
unfolding digits_from
first-figure zero n s =
    bool_cases (ltb n 10)
    (λ e. rw e (48 + n, s, refl, omega arith, omega (arith, ltb-true n 10 e)))
    (λ e. rw e (48 + n % 10, s, refl, omega arith, omega arith))
first-figure (suc k) n s =
    bool_cases (ltb n 10)
    (λ e. rw e (48 + n, s, refl, omega arith, omega (arith, ltb-true n 10 e)))
    (λ e. rw (e, append_assoc (digits_from (suc k) (n / 10)) ((48 + n % 10) ∷ []) s) (first-figure k (n / 10) ((48 + n % 10) ∷ s)))

number-front : (v : ℕ) (s : List ℕ) → Front number (decimal v ++ s)
unfolding decimal
number-front v s = first-figure 19 v s

pub front : (form fs : List ℕ) → Front (lead form) (shown form fs)
unfolding shown piece_of takes
front [] fs = refl
front (b ∷ form) fs =
    sign-elim (λ k. Front (lead_by k (lead form)) (piece_by k b (get_or fs 0 0) ++ shown form (drop (takes_by k) fs))) b
    (λ e. number-front (get_or fs 0 0) (shown form (drop 1 fs)))
    (λ e. (shown form fs, ap (λ (x : ℕ). x ∷ shown form fs) e))
    (λ v. front form (drop 1 fs))
    (λ l h. (b, shown form fs, refl, l, h))
    (front form fs)

-- ---- what may follow a number, and a blank

abbrev pub after_number : Lead → Bool
after_number nil = true
after_number number = false
after_number blank = true
after_number letter = true

abbrev pub after_blank : Lead → Bool
after_blank nil = false
after_blank number = true
after_blank blank = false
after_blank letter = true

abbrev pub tidy_by : Sign → Lead → Bool
tidy_by (Fixed v) x = true
tidy_by Number x = after_number x
tidy_by Blank x = after_blank x
tidy_by Letter x = true
tidy_by Nothing x = true

abbrev pub tidy : List ℕ → Bool
tidy [] = true
tidy (b ∷ form) = tidy_by (sign_of b) (lead form) && tidy form

figure-is : (b : ℕ) → 48 ≤ b → b < 58 → is_figure b ≡ true
figure-is b l h = rw (le-leb 48 b l, lt-ltb b 58 h)

letter-no-figure : (b : ℕ) → 97 ≤ b → is_figure b ≡ false
letter-no-figure b l = rw (le-leb 48 b (omega arith), le-ltb b 58 (omega arith))

no-blank-byte : (b : ℕ) → 48 ≤ b → is_blank true b ≡ false
no-blank-byte b l = rw (ne_eqb b 32 (λ e. absurd (omega arith)), ne_eqb b 9 (λ e. absurd (omega arith)), ne_eqb b 13 (λ e. absurd (omega arith)))

no-figure : (x : Lead) (s : List ℕ) → after_number x ≡ true → Front x s → figure_first s ≡ false
no-figure nil s a f = rw f
no-figure number s a f = absurd (false≢true a)
no-figure blank s a f = rw f.1
no-figure letter s a f = rw f.2 (letter-no-figure f.0 f.3)

-- something stands there that is neither a blank nor a remark
pub record Stands (s : List ℕ) : Type 0 where
  pub no-blank : blank_first s ≡ false
  pub past : past_blanks true s ≡ s
  pub not-ended : ended s ≡ false

stands : (b : ℕ) (t s : List ℕ) → 48 ≤ b → s ≡ b ∷ t → Stands s
unfolding past_blanks ended
stands b t s l e = record {
  no-blank = rw e (no-blank-byte b l);
  past = rw (e, no-blank-byte b l);
  not-ended = rw (e, no-blank-byte b l, ne_eqb b 35 (λ q. absurd (omega arith)));
}

pub lead-stands : (x : Lead) (s : List ℕ) → after_blank x ≡ true → Front x s → Stands s
lead-stands nil s a f = absurd (false≢true a)
lead-stands number s a f = stands f.0 f.1 s f.3 f.2
lead-stands blank s a f = absurd (false≢true a)
lead-stands letter s a f = stands f.0 f.1 s (omega (arith, f.3)) f.2

-- ---- numbers

figure-step : (v b m : ℕ) (s : List ℕ) → is_figure b ≡ true → 10 * v + (b - 48) ≡ m → m ≤ largest → figures_from v (b ∷ s) ≡ figures_from m s
unfolding figures_from
figure-step v b m s f e l = rw (f, e, le-ltb largest m l)

tenth : (n p : ℕ) → n < p * 10 → n / 10 < p
tenth n p h = omega arith

figures : (k n : ℕ) (s : List ℕ) → n < 10 ^ k → n ≤ largest → figures_from 0 (digits_from k n ++ s) ≡ figures_from n s
unfolding digits_from
figures zero n s h l = let e : 0 ≡ n = omega arith in ap (λ (x : ℕ). figures_from x s) e
figures (suc k) n s h l =
    bool_cases (ltb n 10)
    (λ e. let small = ltb-true n 10 e in rw e (figure-step 0 (48 + n) n s (figure-is (48 + n) (omega arith) (omega arith)) (omega arith) l))
    (λ e.
    rw (e, append_assoc (digits_from k (n / 10)) ((48 + n % 10) ∷ []) s)
    (figures k (n / 10) ((48 + n % 10) ∷ s) (tenth n (10 ^ k) (rw (pow-suc 10 k) at h)) (omega arith)
    ∙ figure-step (n / 10) (48 + n % 10) n s (figure-is (48 + n % 10) (omega arith) (omega arith)) (omega arith) l))

figures-end : (v : ℕ) (s : List ℕ) → figure_first s ≡ false → figures_from v s ≡ speaks v s
unfolding figures_from
figures-end v [] h = refl
figures-end v (b ∷ s) h = rw h

numeral-back : (v : ℕ) (s : List ℕ) → v ≤ largest → figure_first s ≡ false → numeral_of (decimal v ++ s) ≡ speaks v s
unfolding numeral_of decimal
numeral-back v s l h =
    let f = number-front v s in
    let first : figure_first (decimal v ++ s) ≡ true = rw f.2 (figure-is f.0 f.3 f.4) in
    rw first (figures 20 v s (omega arith) l ∙ figures-end v s h)

-- ---- by its own form

blank-back : (c b : ℕ) (s : List ℕ) → b ≡ 32 → Stands s → found_as Blank c (b ∷ s) ≡ goes s
unfolding past_blanks
blank-back c b s e h = rw e (ap goes h.past)

letter-back : (b : ℕ) (s : List ℕ) → found_as Letter b (b ∷ s) ≡ goes s
letter-back b s = rw (eq-eqb b b refl)

OwnStep : ℕ → List ℕ → List ℕ → List ℕ → Sign → Type 0
OwnStep b form fs l k =
    own_by k fs ≡ true → fits form (drop (takes_by k) fs) ≡ true → tidy_by k (lead form) ≡ true
    → on_finding (found_as k b (piece_by k b (get_or fs 0 0) ++ shown form (drop (takes_by k) fs))) (says form) l ≡ fields (l ++ take (takes_by k + count_of form) fs)

Back : List ℕ → Type 0
Back form = (fs l : List ℕ) → Small fs → fits form fs ≡ true → says form (shown form fs) l ≡ fields (l ++ take (count_of form) fs)

take-one : (n v : ℕ) (fs : List ℕ) → v ∷ take n fs ≡ take (1 + n) (v ∷ fs)
take-one n v fs = let e : suc n ≡ 1 + n = omega arith in ap (λ (k : ℕ). take k (v ∷ fs)) e

none_more : (n : ℕ) (l fs : List ℕ) → fields (l ++ take n fs) ≡ fields (l ++ take (0 + n) fs)
none_more n l fs = let e : n ≡ 0 + n = omega arith in ap (λ (k : ℕ). fields (l ++ take k fs)) e

module _ (b : ℕ) (form : List ℕ) (back : Back form) (l : List ℕ) where
  number_step : (fs : List ℕ) → Small fs → OwnStep b form fs l Number
  unfolding OwnStep Back
  number_step [] s own more tid = absurd (false≢true own)
  number_step (v ∷ fs) s own more tid =
      rw (numeral-back v (shown form fs) (s 0) (no-figure (lead form) (shown form fs) tid (front form fs)))
      (back fs (l ++ (v ∷ [])) (small-drop (v ∷ fs) 1 s) more ∙ ap fields (append_assoc l (v ∷ []) (take (count_of form) fs) ∙ ap (l ++◌) (take-one (count_of form) v fs)))

  fixed-step : (w : ℕ) (fs : List ℕ) → Small fs → OwnStep b form fs l (Fixed w)
  unfolding OwnStep Back
  fixed-step w [] s own more tid = absurd (false≢true own)
  fixed-step w (v ∷ fs) s own more tid =
      back fs (l ++ (w ∷ [])) (small-drop (v ∷ fs) 1 s) more
      ∙ ap fields (append_assoc l (w ∷ []) (take (count_of form) fs) ∙ ap (λ (x : ℕ). l ++ (x ∷ take (count_of form) fs)) (sym (eqb-true v w own)) ∙ ap (l ++◌) (take-one (count_of form) v fs))

  own-step : (fs : List ℕ) → Small fs → OwnStep b form fs l (sign_of b)
  unfolding OwnStep Back
  own-step fs small =
      sign-elim (OwnStep b form fs l) b
      (λ e. number_step fs small)
      (λ e own more tid. rw (blank-back b b (shown form fs) e (lead-stands (lead form) (shown form fs) tid (front form fs))) (back fs l small more ∙ none_more (count_of form) l fs))
      (λ v. fixed-step v fs small)
      (λ lo hi own more tid. rw (letter-back b (shown form fs)) (back fs l small more ∙ none_more (count_of form) l fs))
      (λ own more tid. back fs l small more ∙ none_more (count_of form) l fs)

own-all : (form : List ℕ) → tidy form ≡ true → Back form
unfolding says shown fits count_of takes is_own piece_of found_by ended past_blanks OwnStep Back
own-all [] t fs l small h = ap fields (sym (append-nil l))
own-all (b ∷ form) t fs l small h =
    let w = on_and (is_own b fs) (fits form (drop (takes b) fs)) h in
    let u = on_and (tidy_by (sign_of b) (lead form)) (tidy form) t in
    own-step b form (own-all form u.1) l fs small w.0 w.1 u.0

pub own_back : (form fs l : List ℕ) → tidy form ≡ true → Small fs → fits form fs ≡ true → says form (shown form fs) l ≡ fields (l ++ take (count_of form) fs)
unfolding Back
own_back form fs l t small h = own-all form t fs l small h

-- ---- by another form

abbrev pub writes : Lead → Bool
writes nil = false
writes number = true
writes blank = true
writes letter = true

-- where the one reads byte c and the other writes byte d, they differ at once or behind it
abbrev pub meet : Sign → Sign → ℕ → ℕ → Bool → Bool
meet Number Number c d k = k
meet Blank Blank c d k = k
meet Letter Letter c d k = not (eqb c d) || k
meet (Fixed v) e c d k = true
meet Nothing e c d k = true
meet Number (Fixed v) c d k = true
meet Number Nothing c d k = true
meet Number Blank c d k = true
meet Number Letter c d k = true
meet Blank (Fixed v) c d k = true
meet Blank Nothing c d k = true
meet Blank Number c d k = true
meet Blank Letter c d k = true
meet Letter (Fixed v) c d k = true
meet Letter Nothing c d k = true
meet Letter Number c d k = true
meet Letter Blank c d k = true

abbrev pub against_by : Sign → Sign → ℕ → ℕ → Bool → Bool → Bool
against_by s (Fixed v) c d later k = later
against_by s Nothing c d later k = later
against_by s Number c d later k = meet s Number c d k
against_by s Blank c d later k = meet s Blank c d k
against_by s Letter c d later k = meet s Letter c d k

abbrev pub against : Sign → ℕ → (List ℕ → Bool) → List ℕ → Bool
against s c k [] = true
against s c k (d ∷ r) = against_by s (sign_of d) c d (against s c k r) (k r)

abbrev pub differ_by : Sign → ℕ → (List ℕ → Bool) → List ℕ → Bool
differ_by (Fixed v) c k r = k r
differ_by Nothing c k r = k r
differ_by Number c k r = against Number c k r
differ_by Blank c k r = against Blank c k r
differ_by Letter c k r = against Letter c k r

-- a line by the second form says nothing by the first
abbrev pub differ : List ℕ → List ℕ → Bool
differ [] r = writes (lead r)
differ (c ∷ q) r = differ_by (sign_of c) c (differ q) r

blank-ended : (b : ℕ) (s : List ℕ) → b ≡ 32 → Stands s → ended (b ∷ s) ≡ false
unfolding ended past_blanks
blank-ended b s e h = rw e h.not-ended

numeral-not : (b : ℕ) (s : List ℕ) → is_figure b ≡ false → numeral_of (b ∷ s) ≡ other
unfolding numeral_of
numeral-not b s e = rw e

not-ended : (r fs : List ℕ) → tidy r ≡ true → writes (lead r) ≡ true → ended (shown r fs) ≡ false
unfolding shown piece_of takes
not-ended [] fs t h = absurd (false≢true h)
not-ended (d ∷ r) fs t h =
    let u = on_and (tidy_by (sign_of d) (lead r)) (tidy r) t in
    sign-elim (λ k. tidy_by k (lead r) ≡ true → writes (lead_by k (lead r)) ≡ true → ended (piece_by k d (get_or fs 0 0) ++ shown r (drop (takes_by k) fs)) ≡ false) d
    (λ e tid w. (lead-stands number _ refl (number-front (get_or fs 0 0) (shown r (drop 1 fs)))).not-ended)
    (λ e tid w. blank-ended d (shown r fs) e (lead-stands (lead r) (shown r fs) tid (front r fs)))
    (λ v tid w. not-ended r (drop 1 fs) u.1 w)
    (λ lo hi tid w. (stands d (shown r fs) (d ∷ shown r fs) (omega arith) refl).not-ended)
    (λ tid w. not-ended r fs u.1 w)
    u.0 h

Apart : List ℕ → Type 0
Apart q = (r fs l : List ℕ) → tidy r ≡ true → Small fs → differ q r ≡ true → says q (shown r fs) l ≡ another

module _ (q : List ℕ) (apart : Apart q) (c : ℕ) where
  number-apart : (r fs l : List ℕ) → tidy r ≡ true → Small fs → against Number c (differ q) r ≡ true → on_finding (numeral_of (shown r fs)) (says q) l ≡ another
  unfolding shown piece_of takes Apart numeral_of
  number-apart [] fs l t small h = refl
  number-apart (d ∷ r) fs l t small h =
      let u = on_and (tidy_by (sign_of d) (lead r)) (tidy r) t in
      sign-elim
      (λ k. tidy_by k (lead r) ≡ true → against_by Number k c d (against Number c (differ q) r) (differ q r) ≡ true
      → on_finding (numeral_of (piece_by k d (get_or fs 0 0) ++ shown r (drop (takes_by k) fs))) (says q) l ≡ another)
      d
      (λ e tid m. ap (λ (x : Finding). on_finding x (says q) l) (numeral-back (get_or fs 0 0) (shown r (drop 1 fs)) (small 0) (no-figure (lead r) (shown r (drop 1 fs)) tid (front r (drop 1 fs))))
      ∙ apart r (drop 1 fs) (l ++ (get_or fs 0 0 ∷ [])) u.1 (small-drop fs 1 small) m)
      (λ e tid m. ap (λ (x : Finding). on_finding x (says q) l) (numeral-not d (shown r fs) (rw e)))
      (λ v tid m. number-apart r (drop 1 fs) l u.1 (small-drop fs 1 small) m)
      (λ lo hi tid m. ap (λ (x : Finding). on_finding x (says q) l) (numeral-not d (shown r fs) (letter-no-figure d lo)))
      (λ tid m. number-apart r fs l u.1 small m)
      u.0 h

  blank-apart : (r fs l : List ℕ) → tidy r ≡ true → Small fs → against Blank c (differ q) r ≡ true → on_finding (found_as Blank c (shown r fs)) (says q) l ≡ another
  unfolding shown piece_of takes Apart
  blank-apart [] fs l t small h = refl
  blank-apart (d ∷ r) fs l t small h =
      let u = on_and (tidy_by (sign_of d) (lead r)) (tidy r) t in
      sign-elim
      (λ k. tidy_by k (lead r) ≡ true → against_by Blank k c d (against Blank c (differ q) r) (differ q r) ≡ true
      → on_finding (found_as Blank c (piece_by k d (get_or fs 0 0) ++ shown r (drop (takes_by k) fs))) (says q) l ≡ another)
      d
      (λ e tid m. rw (lead-stands number _ refl (number-front (get_or fs 0 0) (shown r (drop 1 fs)))).no-blank)
      (λ e tid m. ap (λ (x : Finding). on_finding x (says q) l) (blank-back c d (shown r fs) e (lead-stands (lead r) (shown r fs) tid (front r fs))) ∙ apart r fs l u.1 small m)
      (λ v tid m. blank-apart r (drop 1 fs) l u.1 (small-drop fs 1 small) m)
      (λ lo hi tid m. rw (no-blank-byte d (omega arith)))
      (λ tid m. blank-apart r fs l u.1 small m)
      u.0 h

  letter-apart : 97 ≤ c → (r fs l : List ℕ) → tidy r ≡ true → Small fs → against Letter c (differ q) r ≡ true → on_finding (found_as Letter c (shown r fs)) (says q) l ≡ another
  unfolding shown piece_of takes Apart
  letter-apart low [] fs l t small h = refl
  letter-apart low (d ∷ r) fs l t small h =
      let u = on_and (tidy_by (sign_of d) (lead r)) (tidy r) t in
      sign-elim
      (λ k. tidy_by k (lead r) ≡ true → against_by Letter k c d (against Letter c (differ q) r) (differ q r) ≡ true
      → on_finding (found_as Letter c (piece_by k d (get_or fs 0 0) ++ shown r (drop (takes_by k) fs))) (says q) l ≡ another)
      d
      (λ e tid m. let f = number-front (get_or fs 0 0) (shown r (drop 1 fs)) in rw (f.2, ne_eqb f.0 c (λ y. absurd (omega (arith, f.4)))))
      (λ e tid m. rw (e, ne_eqb 32 c (λ y. absurd (omega arith))))
      (λ v tid m. letter-apart low r (drop 1 fs) l u.1 (small-drop fs 1 small) m)
      (λ lo hi tid m.
      bool_cases (eqb c d)
      (λ y. let same : c ≡ d = eqb-true c d y in rw (eq-eqb d c (sym same)) (apart r fs l u.1 small (or-rest (not (eqb c d)) (differ q r) m (rw y))))
      (λ n. rw (ne_eqb d c (λ y. eqb-false c d n (sym y)))))
      (λ tid m. letter-apart low r fs l u.1 small m)
      u.0 h

apart-all : (q : List ℕ) → Apart q
unfolding Apart says found_by
apart-all [] r fs l t small h = rw (not-ended r fs t h)
apart-all (c ∷ q) r fs l t small h =
    sign-elim (λ k. differ_by k c (differ q) r ≡ true → on_finding (found_as k c (shown r fs)) (says q) l ≡ another) c
    (λ e. number-apart q (apart-all q) c r fs l t small)
    (λ e. blank-apart q (apart-all q) c r fs l t small)
    (λ v m. apart-all q r fs (l ++ (v ∷ [])) t small m)
    (λ lo hi. letter-apart q (apart-all q) c lo r fs l t small)
    (λ m. apart-all q r fs l t small m)
    h

pub other-back : (q r fs l : List ℕ) → tidy r ≡ true → Small fs → differ q r ≡ true → says q (shown r fs) l ≡ another
unfolding Apart
other-back q r fs l t small h = apart-all q r fs l t small h
