-- The lines of a text one at a time, and what each adds to the plan.
use mathlib.Core.Path.{◌≡◌, refl, sym, ap, ap₂, ◌∙◌}
use mathlib.Core.Bool.{Bool, true, false, true≢false, false≢true}
use mathlib.Core.List.{List, [], ◌∷◌, ◌++◌, map}
use Prim.Native.Nat.{ℕ, zero, suc, ◌+◌, ◌-◌, ◌≤◌, ◌<◌}
use native.Mathlib.Omega.{arith}
use lib.ListN.{length, take, drop, length-drop, length-map, drop_of_length-le}
use lib.Seq.{drop-drop}
use lib.Dec.{eqb}
use Rattle.laws.proofs.Bools.{bool_cases}
use Rattle.plan.specs.declared.Word.{Word}
use Rattle.plan.specs.declared.Word.TheVariants.{Passed, Move, Step, ClassList, Unclear}
use Rattle.plan.specs.Lines.{lines_of, with_first, is_blank, past_blanks, blank_then, up_to_blanks, trimmed, word_of, name_of, Entry, passed, move, step, list, unclear, entry_by, entry_of, entries_of}
use Rattle.plan.specs.Reading.{is_unclear, first_unclear, names_in, joined, ends_from, steps_below, steps_of, move_above, lists_of}
use Rattle.plan.specs.Passes.{line_length, is_move, is_step, is_list, not_clear, has_name}
use Rattle.plan.proofs.TextLaws.{length-within}

-- ---- lines

-- the first line, and the lines behind it
pub lines_cons : (b : ℕ) (s : List ℕ)
    → lines_of (b ∷ s) ≡ take (line_length (b ∷ s)) (b ∷ s) ∷ lines_of (drop (suc (line_length (b ∷ s))) (b ∷ s))
unfolding lines_of line_length
lines_cons b [] = bool_cases (eqb b 10) (λ e. rw e) (λ e. rw e)
lines_cons b (a ∷ s) = bool_cases (eqb b 10) (λ e. rw e) (λ e. rw e (ap (with_first b) (lines_cons a s)))

pub no-entries : (s : List ℕ) (at : ℕ) → length s ≤ at → entries_of (drop at s) ≡ []
unfolding entries_of lines_of
no-entries s at h = ap entries_of (drop_of_length-le s {i = at} h)

entries-cons : (b : ℕ) (s : List ℕ)
    → entries_of (b ∷ s) ≡ entry_of (take (line_length (b ∷ s)) (b ∷ s)) ∷ entries_of (drop (suc (line_length (b ∷ s))) (b ∷ s))
unfolding entries_of
entries-cons b s = ap (map entry_of) (lines_cons b s)

entries-some : (s : List ℕ) → 0 < length s → entries_of s ≡ entry_of (take (line_length s) s) ∷ entries_of (drop (suc (line_length s)) s)
entries-some [] h = absurd (omega arith)
entries-some (b ∷ s) h = entries-cons b s

module _ (text : List ℕ) (at end : ℕ) (e : end ≡ at + line_length (drop at text)) (h : at < length text) where
  -- the line ends within the text
  pub end-within : (at ≤ end) × (end ≤ length text)
  end-within = let l = length-within (drop at text) in (omega arith, omega (arith, length-drop at text))

  -- a turn of a pass: the line between two places has this word and this name
  pub entry_more : {line name : List ℕ} {w : Word} → line ≡ trimmed (take (end - at) (drop at text)) → w ≡ word_of line → name ≡ name_of line
      → entries_of (drop at text) ≡ entry_by w name ∷ entries_of (drop (end + 1) text)
  entry_more {line} {name} {w} p q r =
      let n : end - at ≡ line_length (drop at text) = omega arith in
      let past : at + suc (line_length (drop at text)) ≡ end + 1 = omega arith in
      entries-some (drop at text) (omega (arith, length-drop at text))
      ∙ ap₂ (λ (x : Entry) (es : List Entry). x ∷ es)
      (sym (ap₂ entry_by q r ∙ ap (λ (l : List ℕ). entry_by (word_of l) (name_of l)) p ∙ ap (λ (k : ℕ). entry_of (take k (drop at text))) n))
      (ap entries_of (drop-drop (suc (line_length (drop at text))) at text ∙ ap (λ (k : ℕ). drop k text) past))

-- ---- a name is no longer than its line

pub past-le : (around : Bool) (s : List ℕ) → length (past_blanks around s) ≤ length s
unfolding past_blanks
past-le around [] = omega arith
past-le around (b ∷ s) = let l = past-le around s in bool_cases (is_blank around b) (λ e. rw e (omega arith)) (λ e. rw e (omega arith))

then-le : (b : ℕ) (s : List ℕ) → length (blank_then b s) ≤ suc (length s)
then-le b [] = bool_cases (is_blank true b) (λ e. rw e (omega arith)) (λ e. rw e (omega arith))
then-le b (c ∷ s) = omega arith

pub up_le : (s : List ℕ) → length (up_to_blanks s) ≤ length s
unfolding up_to_blanks
up_le [] = omega arith
up_le (b ∷ s) = omega (arith, then-le b (up_to_blanks s), up_le s)

pub name-le : (s : List ℕ) → length (name_of (trimmed s)) ≤ length s
unfolding name_of
name-le s =
    omega (arith, past-le false (drop 4 (trimmed s)), length-drop 4 (trimmed s), up_le (past_blanks true s), past-le true s)

-- ---- what a line adds

-- a line is not understood by its word
pub unclear-word : (w : Word) (x : List ℕ) (m : ℕ) → is_unclear m (entry_by w x) ≡ not_clear w m
unclear-word Passed x m = refl
unclear-word Move x m = refl
unclear-word Step x m = refl
unclear-word ClassList x m = refl
unclear-word Unclear x m = refl

module _ (x : List ℕ) (es : List Entry) where
  pub unclear-on : (w : Word) (n m : ℕ) → not_clear w m ≡ true → first_unclear n m (entry_by w x ∷ es) ≡ n
  unfolding first_unclear
  unclear-on w n m e = rw (unclear-word w x m ∙ e)

  -- the names that are chosen begin with this line's
  pub names-on : (w : Word) (lists : Bool) → has_name w lists ≡ true → names_in lists (entry_by w x ∷ es) ≡ x ∷ names_in lists es
  unfolding names_in
  names-on Passed lists e = absurd (false≢true e)
  names-on Move false e = refl
  names-on Move true e = absurd (false≢true e)
  names-on Step false e = refl
  names-on Step true e = absurd (false≢true e)
  names-on ClassList false e = absurd (false≢true e)
  names-on ClassList true e = refl
  names-on Unclear lists e = absurd (false≢true e)

  pub names-off : (w : Word) (lists : Bool) → has_name w lists ≡ false → names_in lists (entry_by w x ∷ es) ≡ names_in lists es
  unfolding names_in
  names-off Passed lists e = refl
  names-off Move false e = absurd (true≢false e)
  names-off Move true e = refl
  names-off Step false e = absurd (true≢false e)
  names-off Step true e = refl
  names-off ClassList false e = refl
  names-off ClassList true e = absurd (true≢false e)
  names-off Unclear lists e = refl

  -- the steps up to the next move
  pub below-move : (w : Word) → is_move w ≡ true → steps_below (entry_by w x ∷ es) ≡ 0
  unfolding steps_below
  below-move Passed e = absurd (false≢true e)
  below-move Move e = refl
  below-move Step e = absurd (false≢true e)
  below-move ClassList e = absurd (false≢true e)
  below-move Unclear e = absurd (false≢true e)

  pub below_step : (w : Word) → is_step w ≡ true → steps_below (entry_by w x ∷ es) ≡ 1 + steps_below es
  unfolding steps_below
  below_step Passed e = absurd (false≢true e)
  below_step Move e = absurd (false≢true e)
  below_step Step e = omega arith
  below_step ClassList e = absurd (false≢true e)
  below_step Unclear e = absurd (false≢true e)

  pub below_other : (w : Word) → is_move w ≡ false → is_step w ≡ false → steps_below (entry_by w x ∷ es) ≡ steps_below es
  unfolding steps_below
  below_other Passed e f = refl
  below_other Move e f = absurd (true≢false e)
  below_other Step e f = absurd (true≢false f)
  below_other ClassList e f = refl
  below_other Unclear e f = refl

  -- the moves
  pub steps-move : (w : Word) → is_move w ≡ true → steps_of (entry_by w x ∷ es) ≡ steps_below es ∷ steps_of es
  unfolding steps_of
  steps-move Passed e = absurd (false≢true e)
  steps-move Move e = refl
  steps-move Step e = absurd (false≢true e)
  steps-move ClassList e = absurd (false≢true e)
  steps-move Unclear e = absurd (false≢true e)

  pub steps-other : (w : Word) → is_move w ≡ false → steps_of (entry_by w x ∷ es) ≡ steps_of es
  unfolding steps_of
  steps-other Passed e = refl
  steps-other Move e = absurd (true≢false e)
  steps-other Step e = refl
  steps-other ClassList e = refl
  steps-other Unclear e = refl

  -- the lists below m moves
  pub lists-move : (w : Word) (m : ℕ) → is_move w ≡ true → lists_of m (entry_by w x ∷ es) ≡ lists_of (m + 1) es
  unfolding lists_of
  lists-move Passed m e = absurd (false≢true e)
  lists-move Move m e = let q : suc m ≡ m + 1 = omega arith in ap (λ (k : ℕ). lists_of k es) q
  lists-move Step m e = absurd (false≢true e)
  lists-move ClassList m e = absurd (false≢true e)
  lists-move Unclear m e = absurd (false≢true e)

  pub lists-list : (w : Word) (m : ℕ) → is_list w ≡ true → lists_of m (entry_by w x ∷ es) ≡ move_above m ∷ lists_of m es
  unfolding lists_of
  lists-list Passed m e = absurd (false≢true e)
  lists-list Move m e = absurd (false≢true e)
  lists-list Step m e = absurd (false≢true e)
  lists-list ClassList m e = refl
  lists-list Unclear m e = absurd (false≢true e)

  pub lists-other : (w : Word) (m : ℕ) → is_move w ≡ false → is_list w ≡ false → lists_of m (entry_by w x ∷ es) ≡ lists_of m es
  unfolding lists_of
  lists-other Passed m e f = refl
  lists-other Move m e f = absurd (true≢false e)
  lists-other Step m e f = refl
  lists-other ClassList m e f = absurd (true≢false f)
  lists-other Unclear m e f = refl

pub names-none : (lists : Bool) → names_in lists [] ≡ []
unfolding names_in
names-none lists = refl

pub joined-none : joined [] ≡ []
unfolding joined
joined-none = refl

pub joined-cons : (x : List ℕ) (xs : List (List ℕ)) → joined (x ∷ xs) ≡ x ++ joined xs
unfolding joined
joined-cons x xs = refl

pub ends-cons : (at : ℕ) (x : List ℕ) (xs : List (List ℕ)) → ends_from at (x ∷ xs) ≡ (at + length x) ∷ ends_from (at + length x) xs
unfolding ends_from
ends-cons at x xs = refl

pub ends-none : (at : ℕ) → ends_from at [] ≡ []
unfolding ends_from
ends-none at = refl

pub below_none : steps_below [] ≡ 0
unfolding steps_below
below_none = refl

pub steps-none : steps_of [] ≡ []
unfolding steps_of
steps-none = refl

pub lists-none : (m : ℕ) → lists_of m [] ≡ []
unfolding lists_of
lists-none m = refl

-- ---- there are no more lines than bytes

pub below-le : (es : List Entry) → steps_below es ≤ length es
unfolding steps_below
below-le [] = omega arith
below-le (passed ∷ es) = omega (arith, below-le es)
below-le (move x ∷ es) = omega arith
below-le (step x ∷ es) = omega (arith, below-le es)
below-le (list x ∷ es) = omega (arith, below-le es)
below-le (unclear ∷ es) = omega (arith, below-le es)

first-le : (b : ℕ) (ls : List (List ℕ)) → length (with_first b ls) ≤ suc (length ls)
first-le b [] = omega arith
first-le b (l ∷ ls) = omega arith

lines-le : (s : List ℕ) → length (lines_of s) ≤ length s
unfolding lines_of
lines-le [] = omega arith
lines-le (b ∷ s) =
    bool_cases (eqb b 10) (λ e. rw e (omega (arith, lines-le s))) (λ e. rw e (omega (arith, first-le b (lines_of s), lines-le s)))

pub entries-le : (s : List ℕ) → length (entries_of s) ≤ length s
unfolding entries_of
entries-le s = omega (arith, length-map (lines_of s) entry_of, lines-le s)

-- below fewer than 65,536 moves no number is too large
pub above-le : (m : ℕ) → move_above m ≤ 65535 + (m - 65536)
above-le zero = omega arith
above-le (suc m) = omega arith
