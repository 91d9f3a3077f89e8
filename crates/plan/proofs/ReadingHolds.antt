-- A plan that was read says what the lines of its text say, and the first line that is not understood is named.
use mathlib.Core.Path.{◌≡◌, refl, sym, ap, subst, ◌∙◌}
use mathlib.Core.Bool.{true, false}
use mathlib.Core.List.{List, [], ◌∷◌, ◌++◌, append_assoc}
use Prim.Native.Nat.{ℕ, suc, ◌+◌, ◌≤◌}
use native.Mathlib.Omega.{arith}
use lib.ListN.{length, get_or, length-append}
use Rattle.laws.proofs.Bools.{bool_cases}
use Rattle.plan.specs.declared.Counts.{Counts}
use Rattle.std.proofs.Common.{Ok}
use Rattle.plan.specs.Lines.{Entry, passed, move, step, list, unclear, entries_of}
use Rattle.plan.specs.Names.{name_at, move_name, step_name, list_name}
use Rattle.plan.specs.Reading.{is_unclear, moves_after, first_unclear, names_in, all_names, joined, ends_from, steps_below, steps_of, move_above, lists_of, plan_names, plan_ends, plan_steps, most_bytes, read_answer}
use Rattle.plan.specs.Promises.{a_move, a_step, a_list, how_many, ReadBack, Reading}
use Rattle.plan.proofs.EntryLaws.{entries-le}
use Rattle.plan.proofs.AnswersHold.{read-tells}
use Rattle.plan.proofs.CountLaws.{length-lists}
use Rattle.plan.proofs.BackLaws.{name-split, names-split, names-le, own-many, list-many, move-many, step-many, no_step, own-all, own-before, steps-at, below-own, lists_at}

-- ---- names at their indices

-- every line is understood, and they are no more than a text can have
abbrev Good : List Entry → Type 0
Good es = (first_unclear 1 0 es ≡ 0) × (length es ≤ most_bytes)

below-first : (x : List ℕ) (es : List Entry) → steps_below (move x ∷ es) ≡ 0
unfolding steps_below
below-first x es = refl

names_at : (es : List Entry) (pre : List (List ℕ)) (x : List ℕ) (post : List (List ℕ)) (k : ℕ) → all_names es ≡ pre ++ (x ∷ post) → k ≡ length pre
    → name_at (plan_names es) (plan_ends es) k ≡ x
names_at es pre x post k p q = ap (λ (ns : List (List ℕ)). name_at (joined ns) (ends_from 0 ns) k) p ∙ name-split pre x post k q

module _ (above below : List Entry) (x : List ℕ) (good : Good (above ++ (move x ∷ below))) where
  -- the index of the move's name
  move-index : move_name (steps_of (above ++ (move x ∷ below))) (how_many a_move above) ≡ length (names_in false above)
  move-index =
      omega (
        arith,
        own-before (move x ∷ below) (below-first x below) above,
        no_step 1 (above ++ (move x ∷ below)) (omega arith) good.0,
        names-le false above,
        length-append above (move x ∷ below),
        good.1,
      )

  move-back : name_at (plan_names (above ++ (move x ∷ below))) (plan_ends (above ++ (move x ∷ below))) (move_name (plan_steps (above ++ (move x ∷ below))) (how_many a_move above)) ≡ x
  unfolding names_in
  move-back =
      let es = above ++ (move x ∷ below) in
      names_at es (names_in false above) x (names_in false below ++ names_in true es) (move_name (plan_steps es) (how_many a_move above))
      (ap (λ (l : List (List ℕ)). l ++ names_in true es) (names-split false above (move x ∷ below))
      ∙ append_assoc (names_in false above) (x ∷ names_in false below) (names_in true es))
      move-index

module _ {A : Type 0} (a : List A) (x : A) (o : List A) (y : A) (b t : List A) where
  regroup : (a ++ (x ∷ (o ++ (y ∷ b)))) ++ t ≡ (a ++ (x ∷ o)) ++ (y ∷ (b ++ t))
  regroup =
      append_assoc a (x ∷ (o ++ (y ∷ b))) t ∙ ap (λ (l : List A). a ++ (x ∷ l)) (append_assoc o (y ∷ b) t) ∙ sym (append_assoc a (x ∷ o) (y ∷ (b ++ t)))

module _ (above own below : List Entry) (x y : List ℕ) (good : Good (above ++ (move x ∷ (own ++ (step y ∷ below))))) (none : how_many a_move own ≡ 0) where
  step_back : name_at (plan_names (above ++ (move x ∷ (own ++ (step y ∷ below))))) (plan_ends (above ++ (move x ∷ (own ++ (step y ∷ below)))))
      (step_name (plan_steps (above ++ (move x ∷ (own ++ (step y ∷ below))))) (how_many a_move above) (how_many a_step own + 1)) ≡ y
  unfolding names_in
  step_back =
      let es = above ++ (move x ∷ (own ++ (step y ∷ below))) in
      let a = names_in false above in
      let o = names_in false own in
      names_at es (a ++ (x ∷ o)) y (names_in false below ++ names_in true es) (step_name (plan_steps es) (how_many a_move above) (how_many a_step own + 1))
      (ap (λ (l : List (List ℕ)). l ++ names_in true es)
      (names-split false above (move x ∷ (own ++ (step y ∷ below))) ∙ ap (λ (l : List (List ℕ)). a ++ (x ∷ l)) (names-split false own (step y ∷ below)))
      ∙ regroup a x o y (names_in false below) (names_in true es))
      (omega (
        arith,
        move-index above (own ++ (step y ∷ below)) x good,
        own-many own,
        none,
        length-append a (x ∷ o),
        names-le false above,
        names-le false own,
        length-append above (move x ∷ (own ++ (step y ∷ below))),
        length-append own (step y ∷ below),
        good.1,
      ))

module _ (above below : List Entry) (x : List ℕ) (good : Good (above ++ (list x ∷ below))) where
  list_back : name_at (plan_names (above ++ (list x ∷ below))) (plan_ends (above ++ (list x ∷ below))) (list_name (plan_steps (above ++ (list x ∷ below))) (how_many a_list above)) ≡ x
  unfolding names_in
  list_back =
      let es = above ++ (list x ∷ below) in
      let own = names_in false es in
      let l = names_in true above in
      names_at es (own ++ l) x (names_in true below) (list_name (plan_steps es) (how_many a_list above))
      (ap (λ (s : List (List ℕ)). own ++ s) (names-split true above (list x ∷ below)) ∙ sym (append_assoc own l (x ∷ names_in true below)))
      (omega (
        arith,
        own-all es,
        no_step 1 es (omega arith) good.0,
        list-many above,
        names-le false es,
        names-le true above,
        length-append own l,
        length-append above (list x ∷ below),
        good.1,
      ))

back : (es : List Entry) → Good es → ReadBack es
back es good =
    record {
      moves = move-many es;
      steps = omega (arith, step-many es, no_step 1 es (omega arith) good.0);
      lists = length-lists 0 es ∙ list-many es;
      move_name =
          λ above below x q.
          subst (λ (l : List Entry). name_at (plan_names l) (plan_ends l) (move_name (plan_steps l) (how_many a_move above)) ≡ x) (sym q)
          (move-back above below x (subst Good q good));
      move_steps =
          λ above own below x q none first.
          ap (λ (l : List Entry). get_or (steps_of l) (how_many a_move above) 0) q ∙ steps-at above (own ++ below) x ∙ below-own own below none first;
      step_name =
          λ above own below x y q none.
          subst (λ (l : List Entry). name_at (plan_names l) (plan_ends l) (step_name (plan_steps l) (how_many a_move above) (how_many a_step own + 1)) ≡ y) (sym q)
          (step_back above own below x y (subst Good q good) none);
      list_name =
          λ above below x q.
          subst (λ (l : List Entry). name_at (plan_names l) (plan_ends l) (list_name (plan_steps l) (how_many a_list above)) ≡ x) (sym q)
          (list_back above below x (subst Good q good));
      list_move =
          λ above below x q.
          let e : 0 + how_many a_move above ≡ how_many a_move above = omega arith in
          ap (λ (l : List Entry). get_or (lists_of 0 l) (how_many a_list above) 0) q ∙ lists_at 0 above below x ∙ ap move_above e;
    }

-- ---- from the answer

read-good : (text : List ℕ) (names ends steps lists : ℕ) (c : Counts) → read_answer text names ends steps lists ≡ Ok c → Good (entries_of text)
read-good text names ends steps lists c e =
    let r = read-tells text names ends steps lists c e in (r.1, omega (arith, r.0, entries-le text))

-- ---- lines that are not understood

moves-after : (m : ℕ) (e : Entry) (es : List Entry) → moves_after m e + how_many a_move es ≡ m + how_many a_move (e ∷ es)
unfolding how_many
moves-after m passed es = refl
moves-after m (move x) es = omega arith
moves-after m (step x) es = refl
moves-after m (list x) es = refl
moves-after m unclear es = refl

module _ (below : List Entry) (e : Entry) where
  bad-at : (n m : ℕ) (above : List Entry) → 1 ≤ n → first_unclear n m above ≡ 0 → is_unclear (m + how_many a_move above) e ≡ true
      → first_unclear n m (above ++ (e ∷ below)) ≡ n + length above
  unfolding first_unclear how_many
  bad-at n m [] h q b = let z : m + 0 ≡ m = omega arith in rw (ap (λ (k : ℕ). is_unclear k e) (sym z) ∙ b) (omega arith)
  bad-at n m (a ∷ cs) h q b =
      bool_cases (is_unclear m a)
      (λ t. let z : n ≡ 0 = rw t at q in absurd (omega arith))
      (λ t.
      let r = bad-at (suc n) (moves_after m a) cs (omega arith) (rw t at q) (ap (λ (k : ℕ). is_unclear k e) (moves-after m a cs) ∙ b) in
      rw t (omega (arith, r)))

  bad-none : (n m : ℕ) (above : List Entry) → 1 ≤ n → first_unclear n m (above ++ (e ∷ below)) ≡ 0 → is_unclear (m + how_many a_move above) e ≡ false
  unfolding first_unclear how_many
  bad-none n m [] h q =
      let z : m + 0 ≡ m = omega arith in
      bool_cases (is_unclear m e) (λ t. let o : n ≡ 0 = rw t at q in absurd (omega arith)) (λ t. ap (λ (k : ℕ). is_unclear k e) z ∙ t)
  bad-none n m (a ∷ cs) h q =
      bool_cases (is_unclear m a)
      (λ t. let z : n ≡ 0 = rw t at q in absurd (omega arith))
      (λ t. ap (λ (k : ℕ). is_unclear k e) (sym (moves-after m a cs)) ∙ bad-none (suc n) (moves_after m a) cs (omega arith) (rw t at q))

from-none : (e : Entry) (above : List Entry) → is_unclear (0 + how_many a_move above) e ≡ is_unclear (how_many a_move above) e
from-none e above = let z : 0 + how_many a_move above ≡ how_many a_move above = omega arith in ap (λ (k : ℕ). is_unclear k e) z

pub reading-holds : Reading
reading-holds =
    record {
      names_apart = λ before after x. name-split before x after (length before) refl;
      read_back = λ text names ends steps lists c e. back (entries_of text) (read-good text names ends steps lists c e);
      first_bad =
          λ above below e q b.
          let z : 1 + length above ≡ length above + 1 = omega arith in
          bad-at below e 1 0 above (omega arith) q (from-none e above ∙ b) ∙ z;
      none_bad = λ above below e q. sym (from-none e above) ∙ bad-none below e 1 0 above (omega arith) q;
    }
