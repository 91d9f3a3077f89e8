-- The rows of the table and the lines of a text one after the other, as the code meets them.
use mathlib.Core.Path.{◌≡◌, refl, sym, ap, subst⁻¹, ◌∙◌}
use mathlib.Core.Bool.{Bool, true, false, ◌&&◌}
use mathlib.Core.List.{List, [], ◌∷◌}
use Prim.Native.Nat.{ℕ, suc, ◌+◌, ◌-◌, ◌≤◌, ◌<◌}
use native.Mathlib.Omega.{arith}
use borrow.Author.Tests.{leb-true}
use lib.ListN.{length, take, drop, length-drop}
use lib.Seq.{drop-drop}
use lib.Dec.{leb}
use Rattle.laws.proofs.Bools.{on_and}
use Rattle.plan.specs.Lines.{lines_of}
use Rattle.plan.specs.Passes.{line_length}
use Rattle.plan.proofs.EntryLaws.{lines_cons}
use Rattle.script.specs.Forms
use Rattle.script.specs.Forms.{table, forms, most_fields, allows, loose_letter, count_of, sign_of, fits, shown, form_for, Saying, fields, another, says}
use Rattle.script.specs.Scripts.{LineSaying, takes, unclear, one_says, or_next, first_says, line_in, ShownBy}
use Rattle.script.specs.declared.Line.{Line}
use Rattle.script.specs.declared.Shown.{Shown}
use Rattle.script.specs.declared.Line.TheVariants.{Takes, Passed}
use Rattle.script.proofs.ByteLaws.{drop-none}

-- ---- lines

pub no_lines : (s : List ℕ) (at : ℕ) → length s ≤ at → lines_of (drop at s) ≡ []
unfolding lines_of
no_lines s at h = ap lines_of (drop-none s at h)

lines-some : (s : List ℕ) → 0 < length s → lines_of s ≡ take (line_length s) s ∷ lines_of (drop (suc (line_length s)) s)
lines-some [] h = absurd (omega arith)
lines-some (b ∷ s) h = lines_cons b s

-- the line between two places, and those behind it
pub line-more : (text : List ℕ) (at end : ℕ) → end ≡ at + line_length (drop at text) → at < length text
    → lines_of (drop at text) ≡ take (end - at) (drop at text) ∷ lines_of (drop (end + 1) text)
line-more text at end e h =
    let n : line_length (drop at text) ≡ end - at = omega arith in
    let past : at + suc (line_length (drop at text)) ≡ end + 1 = omega arith in
    lines-some (drop at text) (omega (arith, length-drop at text))
    ∙ ap (λ (k : ℕ). take k (drop at text) ∷ lines_of (drop (suc (line_length (drop at text))) (drop at text))) n
    ∙ ap (λ (l : List ℕ). take (end - at) (drop at text) ∷ lines_of l) (drop-drop (suc (line_length (drop at text))) at text ∙ ap (λ (k : ℕ). drop k text) past)

-- where something is left, there is a line
pub line-some : (text : List ℕ) (at : ℕ) → at < length text
    → lines_of (drop at text) ≡ take (line_length (drop at text)) (drop at text) ∷ lines_of (drop (at + line_length (drop at text) + 1) text)
line-some text at h =
    let e : at + line_length (drop at text) - at ≡ line_length (drop at text) = omega arith in
    line-more text at (at + line_length (drop at text)) refl h ∙ ap (λ (k : ℕ). take k (drop at text) ∷ lines_of (drop (at + line_length (drop at text) + 1) text)) e

-- ---- the table

pub rows_are : (rows : List ℕ) → rows ≡ table → forms ≡ lines_of (drop 0 rows)
unfolding forms
rows_are rows e = ap lines_of (sym e)

some-rows : 0 < length table
unfolding table
some-rows = omega arith

pub rows-some : (rows : List ℕ) → rows ≡ table → 0 < length rows
rows-some rows e = let n = ap length e in omega (arith, n, some-rows)

-- of every form of a list a test holds
abbrev pub every : (List ℕ → Bool) → List (List ℕ) → Bool
every f [] = true
every f (x ∷ xs) = f x && every f xs

abbrev pub few : List ℕ → Bool
few form = leb (count_of form) most_fields

pub all-few : every few forms ≡ true
unfolding forms table lines_of count_of Forms.takes sign_of
all-few = refl

module _ (letter : ℕ) (fs : List ℕ) (form : List ℕ) (more : List (List ℕ)) where
  pub form-last : more ≡ [] → form_for (form ∷ more) letter fs ≡ form
  unfolding form_for
  form-last e = rw e

  pub form-own : (next : List ℕ) (rest : List (List ℕ)) → more ≡ next ∷ rest → (allows form letter && fits form fs) ≡ true → form_for (form ∷ more) letter fs ≡ form
  unfolding form_for
  form-own next rest e h = rw (e, h)

  pub form-other : (next : List ℕ) (rest : List (List ℕ)) → more ≡ next ∷ rest → (allows form letter && fits form fs) ≡ false → form_for (form ∷ more) letter fs ≡ form_for more letter fs
  unfolding form_for
  form-other next rest e h = rw (e, h)

-- ---- what a line says by one form, and by the first that it has

module _ (form : List ℕ) (letter : ℕ) (s l : List ℕ) where
  pub one-not : allows form letter ≡ false → unclear ≡ one_says form letter s l
  unfolding one_says
  one-not h = rw h

  pub one-another : allows form letter ≡ true → another ≡ says form s l → unclear ≡ one_says form letter s l
  unfolding one_says
  one-another h e = rw (h, ← e)

  pub one-fields : (m : List ℕ) (loose : Bool) → allows form letter ≡ true → fields m ≡ says form s l → loose ≡ allows form loose_letter
      → takes m loose ≡ one_says form letter s l
  unfolding one_says
  one-fields m loose h e q = rw (h, ← e) (ap (takes m) q)

module _ (form : List ℕ) (more lines : List (List ℕ)) (letter : ℕ) (s l : List ℕ) (q : lines ≡ form ∷ more) where
  pub first-kept : (x : LineSaying) → x ≡ one_says form letter s l → ((y : LineSaying) → or_next x y ≡ x) → first_says lines letter s l ≡ x
  unfolding first_says
  first-kept x e k = rw (q, ← e) (k (first_says more letter s l))

  pub first_next : unclear ≡ one_says form letter s l → first_says lines letter s l ≡ first_says more letter s l
  unfolding first_says
  first_next e = rw (q, ← e)

pub first-none : (letter : ℕ) (s l : List ℕ) → first_says [] letter s l ≡ unclear
unfolding first_says
first-none letter s l = refl

pub kept-takes : (r : Line) (room : List ℕ) (n : ℕ) (loose : Bool) → r ≡ Takes n loose → (y : LineSaying) → or_next (line_in r room) y ≡ line_in r room
kept-takes r room n loose e y = rw e

pub kept-passed : (r : Line) (room : List ℕ) → r ≡ Passed → (y : LineSaying) → or_next (line_in r room) y ≡ line_in r room
kept-passed r room e y = rw e

pub few-first : (form : List ℕ) (more lines : List (List ℕ)) → lines ≡ form ∷ more → every few lines ≡ true → (count_of form ≤ most_fields) × (every few more ≡ true)
few-first form more lines q e =
    let h : (few form && every few more) ≡ true = rw q at e in
    let w = on_and (few form) (every few more) h in
    (leb-true (count_of form) most_fields w.0, w.1)

-- the line of the form that was chosen
pub shown-as : (form chosen fs : List ℕ) (r : Shown) → chosen ≡ form → ShownBy form fs r → ShownBy chosen fs r
shown-as form chosen fs r e h = subst⁻¹ (λ (f : List ℕ). ShownBy f fs r) e h
