-- The bytes of a text one at a time: blanks at the front and at the end of a line, a line's length, a word at its front.
use mathlib.Core.Path.{◌≡◌, refl, sym, ap, ◌∙◌}
use mathlib.Core.Bool.{Bool, true, false, cond, ◌&&◌, not, false≢true}
use lib.Pointwise.{pointwise}
use mathlib.Core.List.{List, [], ◌∷◌, ◌++◌}
use Prim.Native.Nat.{ℕ, suc, ◌+◌, ◌-◌, ◌≤◌, ◌<◌}
use native.Mathlib.Numerals.{add-one}
use native.Mathlib.Omega.{arith}
use lib.ListN.{length, get_or, take, drop, drop_of_length-le, length-drop}
use lib.Seq.{drop-cons, take-suc, take_all}
use lib.Dec.{eqb}
use borrow.Author.Tests.{eq-eqb, ne_eqb}
use Rattle.plan.specs.Lines.{is_blank, past_blanks, blank_then, up_to_blanks, begins}
use Rattle.plan.specs.Passes.{line_length}

drop_more : (s : List ℕ) (i : ℕ) → i < length s → drop i s ≡ get_or s i 0 ∷ drop (i + 1) s
drop_more s i h = drop-cons s i 0 h ∙ ap (λ (k : ℕ). get_or s i 0 ∷ drop k s) (sym (add-one i))

-- a part up to the end
pub drop-whole : (s : List ℕ) (i : ℕ) → take (length s - i) (drop i s) ≡ drop i s
drop-whole s i = take_all (length s - i) (drop i s) (omega (arith, length-drop i s))

-- ---- blanks at the front

module _ (around : Bool) (s : List ℕ) (i : ℕ) where
  pub past_more : i < length s → is_blank around (get_or s i 0) ≡ true → past_blanks around (drop i s) ≡ past_blanks around (drop (i + 1) s)
  unfolding past_blanks
  past_more h e = ap (past_blanks around) (drop_more s i h) ∙ rw e

  pub past_stop : i < length s → is_blank around (get_or s i 0) ≡ false → past_blanks around (drop i s) ≡ drop i s
  unfolding past_blanks
  past_stop h e = ap (past_blanks around) (drop_more s i h) ∙ rw e (sym (drop_more s i h))

  pub past_end : length s ≤ i → past_blanks around (drop i s) ≡ drop i s
  unfolding past_blanks
  past_end h = let e = drop_of_length-le s {i = i} h in ap (past_blanks around) e ∙ sym e

-- ---- blanks at the end

then-snoc : (x : ℕ) (t : List ℕ) (b : ℕ) → blank_then x (t ++ (b ∷ [])) ≡ x ∷ (t ++ (b ∷ []))
then-snoc x [] b = refl
then-snoc x (y ∷ t) b = refl

pub up-blank : (l : List ℕ) (b : ℕ) → is_blank true b ≡ true → up_to_blanks (l ++ (b ∷ [])) ≡ up_to_blanks l
unfolding up_to_blanks
up-blank [] b e = rw e
up-blank (x ∷ l) b e = ap (blank_then x) (up-blank l b e)

up-other : (l : List ℕ) (b : ℕ) → is_blank true b ≡ false → up_to_blanks (l ++ (b ∷ [])) ≡ l ++ (b ∷ [])
unfolding up_to_blanks
up-other [] b e = rw e
up-other (x ∷ l) b e = ap (blank_then x) (up-other l b e) ∙ then-snoc x l b

module _ (s : List ℕ) (n last : ℕ) (q : n ≡ last + 1) (h : n ≤ length s) where
  take_last : take n s ≡ take last s ++ (get_or s last 0 ∷ [])
  take_last = let e : n ≡ suc last = omega arith in ap (λ (k : ℕ). take k s) e ∙ take-suc s last 0 (omega arith)

  pub up_more : is_blank true (get_or s last 0) ≡ true → up_to_blanks (take n s) ≡ up_to_blanks (take last s)
  up_more e = ap up_to_blanks take_last ∙ up-blank (take last s) (get_or s last 0) e

  pub up-stop : is_blank true (get_or s last 0) ≡ false → up_to_blanks (take n s) ≡ take n s
  up-stop e = ap up_to_blanks take_last ∙ up-other (take last s) (get_or s last 0) e ∙ sym take_last

pub up_none : (s : List ℕ) (n : ℕ) → n ≡ 0 → up_to_blanks (take n s) ≡ take n s
unfolding up_to_blanks
up_none s n e = rw e

-- ---- a line's length

module _ (s : List ℕ) (i : ℕ) where
  pub length-stop : i < length s → get_or s i 0 ≡ 10 → line_length (drop i s) ≡ 0
  unfolding line_length
  length-stop h e = ap line_length (drop_more s i h) ∙ rw (eq-eqb (get_or s i 0) 10 e)

  pub length_more : i < length s → (get_or s i 0 ≡ 10 → ⊥) → line_length (drop i s) ≡ 1 + line_length (drop (i + 1) s)
  unfolding line_length
  length_more h e = ap line_length (drop_more s i h) ∙ rw (ne_eqb (get_or s i 0) 10 e) (omega arith)

  pub length-end : length s ≤ i → line_length (drop i s) ≡ 0
  unfolding line_length
  length-end h = ap line_length (drop_of_length-le s {i = i} h)

pub length-within : (s : List ℕ) → line_length s ≤ length s
unfolding line_length
length-within [] = omega arith
length-within (b ∷ s) = go (eqb b 10) (length-within s)
  where
    go : (t : Bool) → line_length s ≤ length s → cond t 0 (suc (line_length s)) ≤ suc (length s)
    go true h = omega arith
    go false h = omega arith

-- ---- a word at the front

apart : (a b c : Bool) → (a && (b && c)) ≡ ((a && b) && c)
apart true b c = refl
apart false b c = refl

off : (p q : Bool) → true ≡ not p → false ≡ (p && q)
off true q e = absurd (false≢true (sym e))
off false q e = refl

on : (p q : Bool) → false ≡ not p → q ≡ (p && q)
on true q e = refl
on false q e = absurd (false≢true e)

pub begins-short : (w s : List ℕ) → length s ≤ length w → false ≡ begins w s
unfolding begins
begins-short [] [] h = refl
begins-short [] (b ∷ s) h = absurd (omega arith)
begins-short (v ∷ w) [] h = refl
begins-short (v ∷ w) (b ∷ s) h = go (eqb b v) (begins-short w s (omega arith))
  where
    go : (t : Bool) → false ≡ begins w s → false ≡ (t && begins w s)
    go true e = e
    go false e = refl

begins-cut : (w s : List ℕ) → length w < length s → begins w s ≡ (pointwise eqb (take (length w) s) w && is_blank false (get_or s (length w) 0))
unfolding begins
begins-cut [] [] h = absurd (omega arith)
begins-cut [] (b ∷ s) h = refl
begins-cut (v ∷ w) [] h = absurd (omega arith)
begins-cut (v ∷ w) (b ∷ s) h =
    ap (λ (t : Bool). eqb b v && t) (begins-cut w s (omega arith))
    ∙ apart (eqb b v) (pointwise eqb (take (length w) s) w) (is_blank false (get_or s (length w) 0))

module _ (w s : List ℕ) (h : length w < length s) {r : Bool} (e : r ≡ not (pointwise eqb (take (length w) s) w)) where
  pub begins-other : r ≡ true → false ≡ begins w s
  begins-other t = off (pointwise eqb (take (length w) s) w) (is_blank false (get_or s (length w) 0)) (sym t ∙ e) ∙ sym (begins-cut w s h)

  pub begins-same : r ≡ false → is_blank false (get_or s (length w) 0) ≡ begins w s
  begins-same t = on (pointwise eqb (take (length w) s) w) (is_blank false (get_or s (length w) 0)) (sym t ∙ e) ∙ sym (begins-cut w s h)
