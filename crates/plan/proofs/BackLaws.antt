-- A plan in memory against the lines that it was read from.
use mathlib.Core.Path.{◌≡◌, refl, sym, ap, ap₂, ◌∙◌}
use mathlib.Core.Bool.{Bool, true, false, false≢true}
use mathlib.Core.List.{List, [], ◌∷◌, ◌++◌, append_assoc}
use Prim.Native.Nat.{ℕ, suc, ◌+◌, ◌-◌, ◌≤◌}
use native.Mathlib.Omega.{arith}
use lib.ListN.{length, get_or, take, drop, length-append, get_or-append}
use lib.Seq.{get_or_at, drop-append_seam, take-append_seam}
use Rattle.plan.specs.Lines.{Entry, passed, move, step, list, unclear}
use Rattle.plan.specs.Names.{end_at, begin_at, name_at, names_of}
use Rattle.plan.specs.Reading.{first_unclear, name_in, names_in, joined, ends_from, steps_below, steps_of, move_above, lists_of}
use Rattle.plan.specs.Promises.{a_move, a_step, a_list, how_many, total, MoveFirst}
use Rattle.plan.proofs.CountLaws.{joined-append, ends-append, length-ends}

-- ---- a name among names one behind the other

zero-plus : (n : ℕ) → 0 + n ≡ n
zero-plus n = omega arith

last_end : (at : ℕ) (y : List ℕ) (pre : List (List ℕ)) → get_or (ends_from at (y ∷ pre)) (length pre) 0 ≡ at + length (joined (y ∷ pre))
unfolding ends_from joined
last_end at y [] = omega (arith, length-append y [])
last_end at y (z ∷ pre) = omega (arith, last_end (at + length y) z pre, length-append y (joined (z ∷ pre)))

module _ (pre : List (List ℕ)) (x : List ℕ) (post : List (List ℕ)) where
  all-joined : joined (pre ++ (x ∷ post)) ≡ joined pre ++ (x ++ joined post)
  unfolding joined
  all-joined = joined-append pre (x ∷ post)

  all-ends : ends_from 0 (pre ++ (x ∷ post)) ≡ ends_from 0 pre ++ ((length (joined pre) + length x) ∷ ends_from (length (joined pre) + length x) post)
  unfolding ends_from
  all-ends =
      let e : 0 + length (joined pre) ≡ length (joined pre) = omega arith in
      ends-append 0 pre (x ∷ post) ∙ ap (λ (k : ℕ). ends_from 0 pre ++ ((k + length x) ∷ ends_from (k + length x) post)) e

  all-length : length (joined (pre ++ (x ∷ post))) ≡ length (joined pre) + (length x + length (joined post))
  all-length =
      ap length all-joined ∙ length-append (joined pre) (x ++ joined post) ∙ ap (λ (k : ℕ). length (joined pre) + k) (length-append x (joined post))

  end_is : end_at (joined (pre ++ (x ∷ post))) (ends_from 0 (pre ++ (x ∷ post))) (length pre) ≡ length (joined pre) + length x
  end_is =
      let e : get_or (ends_from 0 (pre ++ (x ∷ post))) (length pre) 0 ≡ length (joined pre) + length x =
      ap (λ (l : List ℕ). get_or l (length pre) 0) all-ends
      ∙ get_or_at (ends_from 0 pre) (length (joined pre) + length x) (ends_from (length (joined pre) + length x) post) 0 (length pre) (length-ends 0 pre) in
      omega (arith, e, all-length)

begin-is : (pre : List (List ℕ)) (x : List ℕ) (post : List (List ℕ))
    → begin_at (joined (pre ++ (x ∷ post))) (ends_from 0 (pre ++ (x ∷ post))) (length pre) ≡ length (joined pre)
unfolding joined
begin-is [] x post = refl
begin-is (y ∷ pre) x post =
    let e : get_or (ends_from 0 ((y ∷ pre) ++ (x ∷ post))) (length pre) 0 ≡ length (joined (y ∷ pre)) =
    ap (λ (l : List ℕ). get_or l (length pre) 0) (all-ends (y ∷ pre) x post)
    ∙ get_or-append (ends_from 0 (y ∷ pre)) ((length (joined (y ∷ pre)) + length x) ∷ ends_from (length (joined (y ∷ pre)) + length x) post) 0 (length pre) (omega (arith, length-ends 0 (y ∷ pre)))
    ∙ last_end 0 y pre ∙ zero-plus (length (joined (y ∷ pre))) in
    omega (arith, e, all-length (y ∷ pre) x post)

-- the name behind others is the one that stands behind them
pub name-split : (pre : List (List ℕ)) (x : List ℕ) (post : List (List ℕ)) (k : ℕ) → k ≡ length pre
    → name_at (joined (pre ++ (x ∷ post))) (ends_from 0 (pre ++ (x ∷ post))) k ≡ x
unfolding name_at
name-split pre x post k q =
    let b = begin-is pre x post in
    let e = end_is pre x post in
    let n : length (joined pre) + length x - length (joined pre) ≡ length x = omega arith in
    ap (name_at (joined (pre ++ (x ∷ post))) (ends_from 0 (pre ++ (x ∷ post)))) q
    ∙ ap₂ (λ (i j : ℕ). take (j - i) (drop i (joined (pre ++ (x ∷ post))))) b e
    ∙ ap₂ (λ (m : ℕ) (s : List ℕ). take m (drop (length (joined pre)) s)) n (all-joined pre x post)
    ∙ ap (take (length x)) (drop-append_seam (joined pre) (x ++ joined post))
    ∙ take-append_seam x (joined post)

-- ---- how many lines

pub names-split : (b : Bool) (es fs : List Entry) → names_in b (es ++ fs) ≡ names_in b es ++ names_in b fs
unfolding names_in
names-split b [] fs = refl
names-split b (e ∷ es) fs = ap (λ (l : List (List ℕ)). name_in b e ++ l) (names-split b es fs) ∙ sym (append_assoc (name_in b e) (names_in b es) (names_in b fs))

pub names-le : (b : Bool) (es : List Entry) → length (names_in b es) ≤ length es
unfolding names_in
names-le b [] = omega arith
names-le b (passed ∷ es) = omega (arith, names-le b es)
names-le false (move x ∷ es) = omega (arith, names-le false es)
names-le true (move x ∷ es) = omega (arith, names-le true es)
names-le false (step x ∷ es) = omega (arith, names-le false es)
names-le true (step x ∷ es) = omega (arith, names-le true es)
names-le false (list x ∷ es) = omega (arith, names-le false es)
names-le true (list x ∷ es) = omega (arith, names-le true es)
names-le b (unclear ∷ es) = omega (arith, names-le b es)

-- names of moves and steps, and of lists
pub own-many : (es : List Entry) → length (names_in false es) ≡ how_many a_move es + how_many a_step es
unfolding names_in how_many
own-many [] = omega arith
own-many (passed ∷ es) = omega (arith, own-many es)
own-many (move x ∷ es) = omega (arith, own-many es)
own-many (step x ∷ es) = omega (arith, own-many es)
own-many (list x ∷ es) = omega (arith, own-many es)
own-many (unclear ∷ es) = omega (arith, own-many es)

pub list-many : (es : List Entry) → length (names_in true es) ≡ how_many a_list es
unfolding names_in how_many
list-many [] = omega arith
list-many (passed ∷ es) = omega (arith, list-many es)
list-many (move x ∷ es) = omega (arith, list-many es)
list-many (step x ∷ es) = omega (arith, list-many es)
list-many (list x ∷ es) = omega (arith, list-many es)
list-many (unclear ∷ es) = omega (arith, list-many es)

pub move-many : (es : List Entry) → length (steps_of es) ≡ how_many a_move es
unfolding steps_of how_many
move-many [] = omega arith
move-many (passed ∷ es) = omega (arith, move-many es)
move-many (move x ∷ es) = omega (arith, move-many es)
move-many (step x ∷ es) = omega (arith, move-many es)
move-many (list x ∷ es) = omega (arith, move-many es)
move-many (unclear ∷ es) = omega (arith, move-many es)

pub step-many : (es : List Entry) → steps_below es + total (steps_of es) ≡ how_many a_step es
unfolding steps_below steps_of total how_many
step-many [] = omega arith
step-many (passed ∷ es) = omega (arith, step-many es)
step-many (move x ∷ es) = omega (arith, step-many es)
step-many (step x ∷ es) = omega (arith, step-many es)
step-many (list x ∷ es) = omega (arith, step-many es)
step-many (unclear ∷ es) = omega (arith, step-many es)

-- ---- where every line is understood no step stands above the first move

pub no_step : (n : ℕ) (es : List Entry) → 1 ≤ n → first_unclear n 0 es ≡ 0 → steps_below es ≡ 0
unfolding first_unclear steps_below
no_step n [] h e = refl
no_step n (passed ∷ es) h e = no_step (suc n) es (omega arith) e
no_step n (move x ∷ es) h e = refl
no_step n (step x ∷ es) h e = absurd (omega arith)
no_step n (list x ∷ es) h e = no_step (suc n) es (omega arith) e
no_step n (unclear ∷ es) h e = absurd (omega arith)

-- ---- names before a move, and before all lists

pub own-all : (es : List Entry) → steps_below es + names_of (steps_of es) ≡ length (names_in false es)
unfolding steps_below steps_of names_of names_in
own-all [] = omega arith
own-all (passed ∷ es) = own-all es
own-all (move x ∷ es) = omega (arith, own-all es)
own-all (step x ∷ es) = omega (arith, own-all es)
own-all (list x ∷ es) = own-all es
own-all (unclear ∷ es) = own-all es

module _ (rest : List Entry) (none : steps_below rest ≡ 0) where
  pub own-before : (above : List Entry)
      → steps_below (above ++ rest) + names_of (take (how_many a_move above) (steps_of (above ++ rest))) ≡ length (names_in false above)
  unfolding steps_below steps_of names_of names_in how_many
  own-before [] = omega (arith, none)
  own-before (passed ∷ es) = own-before es
  own-before (move x ∷ es) =
      omega (arith, own-before es)
  own-before (step x ∷ es) = omega (arith, own-before es)
  own-before (list x ∷ es) = own-before es
  own-before (unclear ∷ es) = own-before es

-- ---- steps of a move, move of a list

pub steps-at : (above below : List Entry) (x : List ℕ) → get_or (steps_of (above ++ (move x ∷ below))) (how_many a_move above) 0 ≡ steps_below below
unfolding steps_of how_many
steps-at [] below x = refl
steps-at (passed ∷ es) below x = steps-at es below x
steps-at (move y ∷ es) below x = steps-at es below x
steps-at (step y ∷ es) below x = steps-at es below x
steps-at (list y ∷ es) below x = steps-at es below x
steps-at (unclear ∷ es) below x = steps-at es below x

first-none : (es : List Entry) → MoveFirst es → steps_below es ≡ 0
unfolding steps_below
first-none [] m = refl
first-none (passed ∷ es) m = absurd (false≢true m)
first-none (move x ∷ es) m = refl
first-none (step x ∷ es) m = absurd (false≢true m)
first-none (list x ∷ es) m = absurd (false≢true m)
first-none (unclear ∷ es) m = absurd (false≢true m)

pub below-own : (own below : List Entry) → how_many a_move own ≡ 0 → MoveFirst below → steps_below (own ++ below) ≡ how_many a_step own
unfolding steps_below how_many
below-own [] below h m = first-none below m
below-own (passed ∷ es) below h m = omega (arith, below-own es below (omega arith) m)
below-own (move x ∷ es) below h m = absurd (omega arith)
below-own (step x ∷ es) below h m = omega (arith, below-own es below (omega arith) m)
below-own (list x ∷ es) below h m = omega (arith, below-own es below (omega arith) m)
below-own (unclear ∷ es) below h m = omega (arith, below-own es below (omega arith) m)

pub lists_at : (m : ℕ) (above below : List Entry) (x : List ℕ)
    → get_or (lists_of m (above ++ (list x ∷ below))) (how_many a_list above) 0 ≡ move_above (m + how_many a_move above)
unfolding lists_of how_many
lists_at m [] below x = let e : m ≡ m + 0 = omega arith in ap move_above e
lists_at m (passed ∷ es) below x = lists_at m es below x
lists_at m (move y ∷ es) below x =
    let e : suc m + how_many a_move es ≡ m + suc (how_many a_move es) = omega arith in lists_at (suc m) es below x ∙ ap move_above e
lists_at m (step y ∷ es) below x = lists_at m es below x
lists_at m (list y ∷ es) below x = lists_at m es below x
lists_at m (unclear ∷ es) below x = lists_at m es below x
