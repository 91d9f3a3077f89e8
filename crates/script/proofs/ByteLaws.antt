-- The bytes of a form and of a line one at a time, as the code meets them.
use mathlib.Core.Path.{◌≡◌, refl, sym, ap, ◌∙◌}
use mathlib.Core.Bool.{Bool, true, false, ◌&&◌}
use mathlib.Core.List.{List, [], ◌∷◌}
use Prim.Native.Nat.{ℕ, suc, ◌+◌, ◌-◌, ◌*◌, ◌≤◌, ◌<◌}
use native.Mathlib.Numerals.{add-one}
use native.Mathlib.Omega.{arith}
use lib.ListN.{length, get_or, take, drop, drop_of_length-le, length-drop}
use lib.Seq.{drop-cons, drop-drop}
use lib.Dec.{ltb, leb, eqb}
use borrow.Author.Tests.{eq-eqb, ne_eqb, lt-ltb, le-ltb, le-leb, lt-leb, leb-true, ltb-true}
use Rattle.laws.proofs.Bools.{bool_cases, on_and}
use Rattle.laws.proofs.Decisions.{lt-or}
use Rattle.plan.specs.Lines.{is_blank, past_blanks}
use Rattle.plan.proofs.EntryLaws.{past-le}
use Rattle.plan.proofs.TextLaws.{drop-whole}
use Rattle.script.specs.declared.Sign.{Sign}
use Rattle.script.specs.declared.Sign.TheVariants.{Fixed, Number, Blank, Letter, Nothing}
use Rattle.script.specs.Forms.{sign_of, takes_by, takes, own_by, is_own, piece_by, piece_of, allows, blank_first, first_is, remark_first, ended, is_figure, figure_first, largest, figures_from, numeral_of, goes, speaks, other, found_as, found_by}

-- ---- what a byte of a form stands for

module _ (b : ℕ) where
  pub sign-number : b ≡ 35 → Number ≡ sign_of b
  unfolding sign_of
  sign-number h = rw (eq-eqb b 35 h)

  pub sign-blank : b ≡ 32 → Blank ≡ sign_of b
  unfolding sign_of
  sign-blank h = rw (ne_eqb b 35 (λ e. absurd (omega arith)), eq-eqb b 32 h)

  -- behind both of these the others stand
  past-both : 48 ≤ b → (eqb b 35 ≡ false) × ((eqb b 32 ≡ false) × (leb 48 b ≡ true))
  past-both h = (ne_eqb b 35 (λ e. absurd (omega arith)), (ne_eqb b 32 (λ e. absurd (omega arith)), le-leb 48 b h))

  pub sign-fixed : 48 ≤ b → b < 64 → Fixed (b - 48) ≡ sign_of b
  unfolding sign_of
  sign-fixed h k = let p = past-both h in rw (p.0, p.1.0, p.1.1, lt-ltb b 64 k)

  pub sign-letter : 97 ≤ b → b ≤ 122 → Letter ≡ sign_of b
  unfolding sign_of
  sign-letter h k = let p = past-both (omega arith) in rw (p.0, p.1.0, p.1.1, le-ltb b 64 (omega arith), le-leb 97 b h, le-leb b 122 k)

  pub sign-low : (b ≡ 35 → ⊥) → (b ≡ 32 → ⊥) → b < 48 → Nothing ≡ sign_of b
  unfolding sign_of
  sign-low n m h = rw (ne_eqb b 35 n, ne_eqb b 32 m, lt-leb 48 b h, lt-leb 97 b (omega arith))

  pub sign-middle : 64 ≤ b → b < 97 → Nothing ≡ sign_of b
  unfolding sign_of
  sign-middle h k = let p = past-both (omega arith) in rw (p.0, p.1.0, p.1.1, le-ltb b 64 h, lt-leb 97 b k)

  pub sign-high : 122 < b → Nothing ≡ sign_of b
  unfolding sign_of
  sign-high h = let p = past-both (omega arith) in rw (p.0, p.1.0, p.1.1, le-ltb b 64 (omega arith), le-leb 97 b (omega arith), lt-leb b 122 h)

-- ---- the front of what is left

pub remark-none : (s : List ℕ) → length s < 1 → true ≡ remark_first s
remark-none [] h = refl
remark-none (b ∷ s) h = absurd (omega arith)

pub remark-some : (s : List ℕ) → 1 ≤ length s → eqb (get_or s 0 0) 35 ≡ remark_first s
remark-some [] h = absurd (omega arith)
remark-some (b ∷ s) h = refl

pub first-none : (b : ℕ) (s : List ℕ) → length s < 1 → first_is b s ≡ false
first-none b [] h = refl
first-none b (x ∷ s) h = absurd (omega arith)

pub first-same : (b : ℕ) (s : List ℕ) → 1 ≤ length s → get_or s 0 0 ≡ b → first_is b s ≡ true
first-same b [] h e = absurd (omega arith)
first-same b (x ∷ s) h e = eq-eqb x b e

pub first-differs : (b : ℕ) (s : List ℕ) → (get_or s 0 0 ≡ b → ⊥) → first_is b s ≡ false
first-differs b [] n = refl
first-differs b (x ∷ s) n = ne_eqb x b n

pub figure-none : (s : List ℕ) → figure_first s ≡ false → numeral_of s ≡ other
unfolding numeral_of
figure-none s h = rw h

pub figure-some : (s : List ℕ) → figure_first s ≡ true → numeral_of s ≡ figures_from 0 s
unfolding numeral_of
figure-some s h = rw h

module _ (s : List ℕ) (i : ℕ) where
  pub drop-none : length s ≤ i → drop i s ≡ []
  drop-none h = drop_of_length-le s {i = i} h

  pub drop_more : i < length s → drop i s ≡ get_or s i 0 ∷ drop (i + 1) s
  drop_more h = drop-cons s i 0 h ∙ ap (λ (k : ℕ). get_or s i 0 ∷ drop k s) (sym (add-one i))

  pub figures-none : (v : ℕ) → length s ≤ i → figures_from v (drop i s) ≡ speaks v (drop i s)
  unfolding figures_from
  figures-none v h = ap (figures_from v) (drop-none h) ∙ sym (ap (speaks v) (drop-none h))

  pub figures-stop : (v : ℕ) → i < length s → is_figure (get_or s i 0) ≡ false → figures_from v (drop i s) ≡ speaks v (drop i s)
  unfolding figures_from
  figures-stop v h e = ap (figures_from v) (drop_more h) ∙ rw e (sym (ap (speaks v) (drop_more h)))

  pub figures-large : (v : ℕ) → i < length s → is_figure (get_or s i 0) ≡ true → largest < 10 * v + (get_or s i 0 - 48) → figures_from v (drop i s) ≡ other
  unfolding figures_from
  figures-large v h e k = ap (figures_from v) (drop_more h) ∙ rw (e, lt-ltb largest (10 * v + (get_or s i 0 - 48)) k)

  pub figures-more : (v : ℕ) → i < length s → is_figure (get_or s i 0) ≡ true → 10 * v + (get_or s i 0 - 48) ≤ largest
      → figures_from v (drop i s) ≡ figures_from (10 * v + (get_or s i 0 - 48)) (drop (i + 1) s)
  unfolding figures_from
  figures-more v h e k = ap (figures_from v) (drop_more h) ∙ rw (e, le-ltb largest (10 * v + (get_or s i 0 - 48)) k)

-- ---- blanks

past-suffix : (s : List ℕ) → drop (length s - length (past_blanks true s)) s ≡ past_blanks true s
unfolding past_blanks
past-suffix [] = refl
past-suffix (b ∷ s) =
    let l = past-le true s in
    let more : suc (length s) - length (past_blanks true s) ≡ suc (length s - length (past_blanks true s)) = omega arith in
    let none : suc (length s) - suc (length s) ≡ 0 = omega arith in
    bool_cases (is_blank true b) (λ e. rw e (ap (λ (k : ℕ). drop k (b ∷ s)) more ∙ past-suffix s)) (λ e. rw e (ap (λ (k : ℕ). drop k (b ∷ s)) none))

-- the place behind the blanks, from the length of what is left
pub past-place : (s rest : List ℕ) (at : ℕ) → at ≤ length s → rest ≡ past_blanks true (drop at s)
    → drop (length s - length rest) s ≡ past_blanks true (drop at s)
past-place s rest at h e =
    let l = past-le true (drop at s) in
    let q : length s - length rest ≡ at + (length (drop at s) - length (past_blanks true (drop at s))) = omega (arith, ap length e, length-drop at s) in
    ap (λ (k : ℕ). drop k s) q
    ∙ sym (drop-drop (length (drop at s) - length (past_blanks true (drop at s))) at s)
    ∙ past-suffix (drop at s)

-- ---- the end of a line

pub ended_by : (s t : List ℕ) (b : Bool) → t ≡ past_blanks true s → b ≡ remark_first t → b ≡ ended s
unfolding ended
ended_by s t b e h = h ∙ ap remark_first e

-- ---- where a form may stand

pub allows-short : (form : List ℕ) (letter : ℕ) → length form < 2 → false ≡ allows form letter
unfolding allows
allows-short [] letter h = refl
allows-short (a ∷ []) letter h = refl
allows-short (a ∷ b ∷ form) letter h = absurd (omega arith)

pub allows-long : (form : List ℕ) (letter : ℕ) → 2 ≤ length form → (leb (get_or form 0 0) letter && leb letter (get_or form 1 0)) ≡ allows form letter
unfolding allows
allows-long [] letter h = absurd (omega arith)
allows-long (a ∷ []) letter h = absurd (omega arith)
allows-long (a ∷ b ∷ form) letter h = refl

-- ---- what a byte of a form says, by its sign

module _ (b : ℕ) (r t : Sign) (e : r ≡ sign_of b) (k : r ≡ t) where
  signs : sign_of b ≡ t
  signs = sym e ∙ k

  pub takes-as : takes_by t ≡ takes b
  unfolding takes
  takes-as = sym (ap takes_by signs)

  pub own-as : (fs : List ℕ) → own_by t fs ≡ is_own b fs
  unfolding is_own
  own-as fs = sym (ap (λ (x : Sign). own_by x fs) signs)

  pub piece-as : (v : ℕ) → piece_by t b v ≡ piece_of b v
  unfolding piece_of
  piece-as v = sym (ap (λ (x : Sign). piece_by x b v) signs)

  pub found_by_sign : (s : List ℕ) → found_as t b s ≡ found_by b s
  unfolding found_by
  found_by_sign s = sym (ap (λ (x : Sign). found_as x b s) signs)

module _ (fs : List ℕ) (n : ℕ) where
  pub own-none : (v : ℕ) → length fs ≤ n → false ≡ own_by (Fixed v) (drop n fs)
  own-none v h = sym (ap (own_by (Fixed v)) (drop-none fs n h))

  pub own-some : (v : ℕ) → n < length fs → eqb (get_or fs n 0) v ≡ own_by (Fixed v) (drop n fs)
  own-some v h = sym (ap (own_by (Fixed v)) (drop_more fs n h))

  pub own-number : ltb n (length fs) ≡ own_by Number (drop n fs)
  own-number =
      lt-or n (length fs)
      (λ h. lt-ltb n (length fs) h ∙ sym (ap (own_by Number) (drop_more fs n h)))
      (λ h. le-ltb n (length fs) h ∙ sym (ap (own_by Number) (drop-none fs n h)))

pub figure-low : (b : ℕ) → is_figure b ≡ true → (48 ≤ b) × (b < 58)
figure-low b h = let w = on_and (leb 48 b) (ltb b 58) h in (leb-true 48 b w.0, ltb-true b 58 w.1)

-- a blank, and a letter, as they are found
module _ (b : ℕ) (s : List ℕ) where
  pub blank-missing : blank_first s ≡ false → other ≡ found_as Blank b s
  blank-missing h = rw h

  pub blank-found : (t : List ℕ) → blank_first s ≡ true → t ≡ past_blanks true s → goes t ≡ found_as Blank b s
  blank-found t h e = rw h (ap goes e)

  pub letter-missing : first_is b s ≡ false → other ≡ found_as Letter b s
  letter-missing h = rw h

  pub letter-found : first_is b s ≡ true → goes (take (length s - 1) (drop 1 s)) ≡ found_as Letter b s
  letter-found h = rw h (ap goes (drop-whole s 1))
