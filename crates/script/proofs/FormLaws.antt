-- A form byte after byte, as the code meets it: whether it fits, what it shows, what a line says by it.
use mathlib.Core.Path.{◌≡◌, refl, sym, ap, subst⁻¹, ◌∙◌}
use mathlib.Core.Bool.{true, false, cond}
use mathlib.Core.List.{List, [], ◌∷◌, ◌++◌, append_assoc}
use Prim.Native.Nat.{ℕ, ◌+◌, ◌≤◌, ◌<◌}
use native.Mathlib.Omega.{arith}
use lib.ListN.{length, get_or, set, take, drop, length-set, get_or-eq_default}
use Rattle.laws.proofs.Decisions.{lt-or}
use Rattle.laws.proofs.Bools.{bool_cases}
use lib.Seq.{drop-drop, take-set-le}
use Rattle.laws.proofs.ListLaws.{take-stored}
use Rattle.plan.specs.Lines.{past_blanks}
use Rattle.listing.specs.Words.{line_feed}
use Rattle.listing.specs.Texts.{with_all}
use Rattle.listing.proofs.TextLaws.{all_append}
use Rattle.script.specs.declared.Sign.{Sign}
use Rattle.script.specs.declared.Sign.TheVariants.{Fixed, Number, Blank, Letter, Nothing}
use Rattle.script.specs.Forms.{sign_of, takes_by, takes, count_of, is_own, fits, piece_of, shown, ended, blank_first, first_is, goes, speaks, other, found_as, found_by, fields, another, on_finding, says}
use Rattle.script.proofs.ByteLaws.{drop-none, drop_more}

pub takes-le : (b : ℕ) → takes b ≤ 1
unfolding takes
takes-le b = go (sign_of b)
  where
    go : (s : Sign) → takes_by s ≤ 1
    go (Fixed v) = omega arith
    go Number = omega arith
    go Blank = omega arith
    go Letter = omega arith
    go Nothing = omega arith

-- the first of what is left
pub first-left : (fs : List ℕ) (n : ℕ) → get_or (drop n fs) 0 0 ≡ get_or fs n 0
first-left fs n =
    lt-or n (length fs)
    (λ h. ap (λ (l : List ℕ). get_or l 0 0) (drop_more fs n h))
    (λ h. ap (λ (l : List ℕ). get_or l 0 0) (drop-none fs n h) ∙ sym (get_or-eq_default fs 0 h))

module _ (form fs : List ℕ) (i n : ℕ) where
  pub fits-none : length form ≤ i → fits (drop i form) (drop n fs) ≡ true
  unfolding fits
  fits-none h = ap (λ (f : List ℕ). fits f (drop n fs)) (drop-none form i h)

  module _ (h : i < length form) where
    pub fits_not : is_own (get_or form i 0) (drop n fs) ≡ false → fits (drop i form) (drop n fs) ≡ false
    unfolding fits
    fits_not e = ap (λ (f : List ℕ). fits f (drop n fs)) (drop_more form i h) ∙ rw e

    pub fits_more : (t : ℕ) → t ≡ takes (get_or form i 0) → is_own (get_or form i 0) (drop n fs) ≡ true → fits (drop i form) (drop n fs) ≡ fits (drop (i + 1) form) (drop (n + t) fs)
    unfolding fits
    fits_more t q e = ap (λ (f : List ℕ). fits f (drop n fs)) (drop_more form i h) ∙ rw (e, drop-drop (takes (get_or form i 0)) n fs, q)

    pub count-more : (t : ℕ) → t ≡ takes (get_or form i 0) → count_of (drop i form) ≡ t + count_of (drop (i + 1) form)
    unfolding count_of
    count-more t q = ap count_of (drop_more form i h) ∙ rw q

    shown-step : (t : ℕ) → t ≡ takes (get_or form i 0)
        → shown (drop i form) (drop n fs) ≡ piece_of (get_or form i 0) (get_or fs n 0) ++ shown (drop (i + 1) form) (drop (n + t) fs)
    unfolding shown
    shown-step t q =
        ap (λ (f : List ℕ). shown f (drop n fs)) (drop_more form i h)
        ∙ rw (first-left fs n, drop-drop (takes (get_or form i 0)) n fs, q)

    pub shown-more : (t : ℕ) (text : List ℕ) → t ≡ takes (get_or form i 0)
        → with_all text (shown (drop i form) (drop n fs) ++ line_feed)
        ≡ with_all (with_all text (piece_of (get_or form i 0) (get_or fs n 0))) (shown (drop (i + 1) form) (drop (n + t) fs) ++ line_feed)
    shown-more t text q =
        ap (λ (l : List ℕ). with_all text (l ++ line_feed)) (shown-step t q)
        ∙ ap (with_all text) (append_assoc (piece_of (get_or form i 0) (get_or fs n 0)) (shown (drop (i + 1) form) (drop (n + t) fs)) line_feed)
        ∙ all_append text (piece_of (get_or form i 0) (get_or fs n 0)) (shown (drop (i + 1) form) (drop (n + t) fs) ++ line_feed)

  pub count_none : length form ≤ i → count_of (drop i form) ≡ 0
  unfolding count_of
  count_none h = ap count_of (drop-none form i h)

  pub shown-none : length form ≤ i → shown (drop i form) (drop n fs) ≡ []
  unfolding shown
  shown-none h = ap (λ (f : List ℕ). shown f (drop n fs)) (drop-none form i h)

-- ---- what a line says by it

module _ (form s l : List ℕ) (i : ℕ) where
  pub says-end : length form ≤ i → says (drop i form) s l ≡ cond (ended s) (fields l) another
  unfolding says
  says-end h = ap (λ (f : List ℕ). says f s l) (drop-none form i h)

  module _ (h : i < length form) where
    says-step : says (drop i form) s l ≡ on_finding (found_by (get_or form i 0) s) (says (drop (i + 1) form)) l
    unfolding says
    says-step = ap (λ (f : List ℕ). says f s l) (drop_more form i h)

    pub says-goes : (t : List ℕ) → goes t ≡ found_by (get_or form i 0) s → says (drop i form) s l ≡ says (drop (i + 1) form) t l
    says-goes t e = says-step ∙ rw (← e)

    pub says-speaks : (v : ℕ) (t : List ℕ) → speaks v t ≡ found_by (get_or form i 0) s → says (drop i form) s l ≡ says (drop (i + 1) form) t (l ++ (v ∷ []))
    says-speaks v t e = says-step ∙ rw (← e)

    pub says_other : other ≡ found_by (get_or form i 0) s → says (drop i form) s l ≡ another
    says_other e = says-step ∙ rw (← e)

says-no : {v : ℕ} {t u : List ℕ} → speaks v t ≡ goes u → ⊥
says-no e = let z : ◌≡◌ {A = ℕ} 0 1 = cc in absurd (omega arith)

says_none : {v : ℕ} {t : List ℕ} → speaks v t ≡ other → ⊥
says_none e = let z : ◌≡◌ {A = ℕ} 0 1 = cc in absurd (omega arith)

-- a byte that says a field takes one
pub speaks-takes : (b v : ℕ) (s t : List ℕ) → speaks v t ≡ found_by b s → takes b ≡ 1
unfolding takes found_by
speaks-takes b v s t e = go (sign_of b) e
  where
    go : (k : Sign) → speaks v t ≡ found_as k b s → takes_by k ≡ 1
    go (Fixed w) q = refl
    go Number q = refl
    go Blank q =
        bool_cases (blank_first s) (λ y. let z : speaks v t ≡ goes (past_blanks true s) = rw y at q in absurd (says-no z)) (λ y. let z : speaks v t ≡ other = rw y at q in absurd (says_none z))
    go Letter q =
        bool_cases (first_is b s) (λ y. let z : speaks v t ≡ goes (drop 1 s) = rw y at q in absurd (says-no z)) (λ y. let z : speaks v t ≡ other = rw y at q in absurd (says_none z))
    go Nothing q = absurd (says-no q)

-- ---- a turn of reading a line by a form

-- before byte i: n fields stand in the room, those from before as they stood, and this is left of the line
abbrev pub Heard : List ℕ → List ℕ → List ℕ → ℕ → ℕ → ℕ → List ℕ → List ℕ → Type 0
Heard form line room₀ from i n rest room =
    (i ≤ length form)
    × (from ≤ n)
    × (n + count_of (drop i form) ≤ length room)
    × (length room ≡ length room₀)
    × (take from room ≡ take from room₀)
    × (says form line (take from room₀) ≡ says (drop i form) rest (take n room))

module _ (form line room₀ : List ℕ) (from i n : ℕ) (rest room : List ℕ) (h : i < length form) (inv : Heard form line room₀ from i n rest room) where
  count : count_of (drop i form) ≡ takes (get_or form i 0) + count_of (drop (i + 1) form)
  count = count-more form [] i 0 h (takes (get_or form i 0)) refl

  pub heard-goes : (next : List ℕ) → goes next ≡ found_by (get_or form i 0) rest → Heard form line room₀ from (i + 1) n next room
  heard-goes next e =
      (omega arith, inv.1, omega (arith, count, inv.2), inv.3, inv.4, inv.5 ∙ says-goes form rest (take n room) i h next e)

  pub room-left : (v : ℕ) (next : List ℕ) → speaks v next ≡ found_by (get_or form i 0) rest → n < length room
  room-left v next e = omega (arith, count, inv.2, speaks-takes (get_or form i 0) v rest next e)

  pub heard-speaks : (v : ℕ) (next : List ℕ) → speaks v next ≡ found_by (get_or form i 0) rest
      → Heard form line room₀ from (i + 1) (n + 1) next (set room n v)
  heard-speaks v next e = (
    omega arith,
    omega (arith, inv.1),
    omega (arith, count, inv.2, length-set room n v, speaks-takes (get_or form i 0) v rest next e),
    length-set room n v ∙ inv.3,
    take-set-le from room n v inv.1 ∙ inv.4,
    inv.5 ∙ says-speaks form rest (take n room) i h v next e
        ∙ ap (says (drop (i + 1) form) next) (sym (take-stored room n v (room-left v next e))),
  )

pub heard-as : (form line room₀ : List ℕ) (from i : ℕ) {n n' : ℕ} {rest rest' room room' : List ℕ} → room' ≡ room → rest' ≡ rest → n' ≡ n
    → Heard form line room₀ from i n rest room → Heard form line room₀ from i n' rest' room'
heard-as form line room₀ from i {n} {n'} {rest} {rest'} {room} {room'} p q r h =
    subst⁻¹ (λ (x : List ℕ). Heard form line room₀ from i n' rest' x) p
    (subst⁻¹ (λ (x : List ℕ). Heard form line room₀ from i n' x room) q (subst⁻¹ (λ (x : ℕ). Heard form line room₀ from i x rest room) r h))
