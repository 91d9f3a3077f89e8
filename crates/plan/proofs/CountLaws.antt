-- Counting: what the lines passed take, and what those to come take.
use mathlib.Core.Path.{◌≡◌, refl, sym, ap, ap₂, ◌∙◌}
use mathlib.Core.Bool.{true, false}
use mathlib.Core.List.{List, [], ◌∷◌, ◌++◌, append_assoc}
use Prim.Native.Nat.{ℕ, zero, suc, ◌+◌, ◌≤◌}
use native.Mathlib.Omega.{arith}
use lib.ListN.{length, length-append}
use Rattle.plan.specs.declared.Counts.{Counts}
use Rattle.plan.specs.declared.PlanUnread.TheVariants.{NotUnderstood}
use Rattle.std.proofs.Common.{Ok, Err}
use Rattle.plan.specs.declared.Word.{Word}
use Rattle.plan.specs.declared.Word.TheVariants.{Passed, Move, Step, ClassList, Unclear}
use Rattle.plan.specs.Lines.{Entry, passed, move, step, list, unclear, entry_by}
use Rattle.plan.specs.Reading.{moves_after, first_unclear, names_in, all_names, joined, ends_from, steps_of, lists_of, counts_of, told}
use Rattle.plan.proofs.EntryLaws.{unclear-word}
use Rattle.plan.specs.Passes.{not_clear, no_counts, with_line}

-- ---- lengths

pub joined-append : (xs ys : List (List ℕ)) → joined (xs ++ ys) ≡ joined xs ++ joined ys
unfolding joined
joined-append [] ys = refl
joined-append (x ∷ xs) ys = ap (λ (s : List ℕ). x ++ s) (joined-append xs ys) ∙ sym (append_assoc x (joined xs) (joined ys))

pub ends-append : (at : ℕ) (xs ys : List (List ℕ)) → ends_from at (xs ++ ys) ≡ ends_from at xs ++ ends_from (at + length (joined xs)) ys
unfolding ends_from joined
ends-append at [] ys = let e : at ≡ at + 0 = omega arith in ap (λ (k : ℕ). ends_from k ys) e
ends-append at (x ∷ xs) ys =
    let e : at + length x + length (joined xs) ≡ at + length (x ++ joined xs) = omega (arith, length-append x (joined xs)) in
    ap (λ (s : List ℕ). (at + length x) ∷ s) (ends-append (at + length x) xs ys ∙ ap (λ (k : ℕ). ends_from (at + length x) xs ++ ends_from k ys) e)

pub length-ends : (at : ℕ) (xs : List (List ℕ)) → length (ends_from at xs) ≡ length xs
unfolding ends_from
length-ends at [] = refl
length-ends at (x ∷ xs) = ap suc (length-ends (at + length x) xs)

pub length-lists : (m : ℕ) (es : List Entry) → length (lists_of m es) ≡ length (names_in true es)
unfolding lists_of names_in
length-lists m [] = refl
length-lists m (passed ∷ es) = length-lists m es
length-lists m (move x ∷ es) = length-lists (suc m) es
length-lists m (step x ∷ es) = length-lists m es
length-lists m (list x ∷ es) = ap suc (length-lists m es)
length-lists m (unclear ∷ es) = length-lists m es

-- ---- what was counted, with what is to come

abbrev pub Sum : Counts → List Entry → Counts
Sum c es =
    record {
      names = c.names + (length (joined (names_in false es)) + length (joined (names_in true es)));
      ends = c.ends + (length (names_in false es) + length (names_in true es));
      moves = c.moves + length (steps_of es);
      lists = c.lists + length (names_in true es);
    }

pub same-counts : {b d : Counts} → b.names ≡ d.names → b.ends ≡ d.ends → b.moves ≡ d.moves → b.lists ≡ d.lists → b ≡ d
same-counts p q r s = λ i. record { names = p i; ends = q i; moves = r i; lists = s i }

pub sum-all : (es : List Entry) → Sum no_counts es ≡ counts_of es
sum-all es =
    same-counts
    (omega (arith, ap length (joined-append (names_in false es) (names_in true es)), length-append (joined (names_in false es)) (joined (names_in true es))))
    (omega (arith, length-ends 0 (all_names es), length-append (names_in false es) (names_in true es)))
    (omega arith)
    (omega (arith, length-lists 0 es))

pub sum-none : (c : Counts) → Sum c [] ≡ c
unfolding joined names_in steps_of
sum-none c = same-counts (omega arith) (omega arith) (omega arith) (omega arith)

pub sum_more : (c : Counts) (x : List ℕ) (es : List Entry) (w : Word) → Sum c (entry_by w x ∷ es) ≡ Sum (with_line c w (length x)) es
unfolding joined names_in steps_of
sum_more c x es Passed = refl
sum_more c x es Move = same-counts (omega (arith, length-append x (joined (names_in false es)))) (omega arith) (omega arith) (omega arith)
sum_more c x es Step = same-counts (omega (arith, length-append x (joined (names_in false es)))) (omega arith) (omega arith) (omega arith)
sum_more c x es ClassList = same-counts (omega (arith, length-append x (joined (names_in true es)))) (omega arith) (omega arith) (omega arith)
sum_more c x es Unclear = refl

-- a line adds no more than this
pub record Below (b c : Counts) (n : ℕ) : Type 0 where
  pub names : b.names ≤ c.names + n
  pub ends : b.ends ≤ c.ends + 1
  pub moves : b.moves ≤ c.moves + 1
  pub lists : b.lists ≤ c.lists + 1

pub line-below : (c : Counts) (w : Word) (n : ℕ) → Below (with_line c w n) c n
line-below c Passed n = record { names = omega arith; ends = omega arith; moves = omega arith; lists = omega arith }
line-below c Move n = record { names = omega arith; ends = omega arith; moves = omega arith; lists = omega arith }
line-below c Step n = record { names = omega arith; ends = omega arith; moves = omega arith; lists = omega arith }
line-below c ClassList n = record { names = omega arith; ends = omega arith; moves = omega arith; lists = omega arith }
line-below c Unclear n = record { names = omega arith; ends = omega arith; moves = omega arith; lists = omega arith }

-- ---- the first line that is not understood

moves-with : (c : Counts) (x : List ℕ) (w : Word) → moves_after c.moves (entry_by w x) ≡ (with_line c w (length x)).moves
moves-with c x Passed = refl
moves-with c x Move = omega arith
moves-with c x Step = refl
moves-with c x ClassList = refl
moves-with c x Unclear = refl

pub unclear-off : (c : Counts) (x : List ℕ) (es : List Entry) (w : Word) (n : ℕ) → not_clear w c.moves ≡ false
    → first_unclear n c.moves (entry_by w x ∷ es) ≡ first_unclear (n + 1) (with_line c w (length x)).moves es
unfolding first_unclear
unclear-off c x es w n e =
    let more : suc n ≡ n + 1 = omega arith in
    rw (unclear-word w x c.moves ∙ e) (ap₂ (λ (i m : ℕ). first_unclear i m es) more (moves-with c x w))

pub first-none : (n m : ℕ) → first_unclear n m [] ≡ 0
unfolding first_unclear
first-none n m = refl

-- ---- what counting answers

pub told-all : (es : List Entry) (c : Counts) → first_unclear 1 0 es ≡ 0 → c ≡ counts_of es → Ok c ≡ told es
unfolding told
told-all es c e q = rw e (ap Ok q)

pub told_line : (es : List Entry) (n : ℕ) → first_unclear 1 0 es ≡ n → 1 ≤ n → Err (NotUnderstood n) ≡ told es
unfolding told
told_line es zero e h = absurd (omega arith)
told_line es (suc n) e h = rw e
