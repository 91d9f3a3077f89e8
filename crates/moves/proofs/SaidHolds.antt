-- What is said of a plan and the judgement of a book: one line where either is refused, else every line whole.
use Prim.Native.Nat.{ℕ, ◌+◌, ◌-◌, ◌≤◌, ◌<◌}
use native.Mathlib.Omega.{arith}
use mathlib.Core.Path.{◌≡◌, refl, sym, ap, ◌∙◌}
use mathlib.Core.Bool.{Bool, true, false, cond}
use mathlib.Core.List.{List, [], ◌∷◌}
use lib.Dec.{leb, ltb}
use lib.ListN.{get_or, length, length-append}
use borrow.Author.Tests.{ltb-false, ltb-true}
use Rattle.left.specs.Left.{left_in}
use Rattle.plan.specs.Names.{list_name, move_name, name_at, step_name}
use Rattle.plan.specs.Verdict.{plan_number, plan_verdict, refusal_number}
use Rattle.plan.specs.declared.PlanRefusal.{PlanRefusal}
use Rattle.std.proofs.Common.{Ok}
use Rattle.plan.proofs.JudgingHolds.{judging-holds}
use Rattle.onward.specs.declared.Judgement.{Judgement}
use Rattle.listing.specs.Words.{decimal}
use Rattle.listing.proofs.TextPromisesHold.{text-promises}
use Rattle.moves.specs.Lines.{accepted_line, left_line, list_line, move_line, part_letters, plan_line, shown, step_letters, todo_letters, told_line, word_letters}
use Rattle.moves.specs.Moves.{todo_for, word_for}
use Rattle.moves.specs.Promises.{Said}
use Rattle.moves.specs.declared.ListWord.{ListWord}
use Rattle.moves.specs.declared.ListWord.TheVariants.{Moved, PutBack, StillOpen}
use Rattle.moves.specs.declared.Part.{Part}
use Rattle.moves.specs.declared.Part.TheVariants.{Itself, OfStep, OfUndo}
use Rattle.moves.specs.declared.Todo.{Todo}
use Rattle.moves.specs.declared.Todo.TheVariants.{Aborts, Begins, Commits, Nothing}
use Rattle.moves.proofs.SaidLaws.{accepted-left, accepted-told, count-refused, count-told, count-unfit, said-refused, said-told, said-unfit, told-list, told_move}

-- ---- every line fits a text

plan-whole : (x : PlanRefusal) → shown (plan_line x) ≡ plan_line x
plan-whole x = text-promises.fits [] (plan_line x) (simp length-append (omega (arith, text-promises.digits (refusal_number x))))

left-whole : (n : ℕ) → shown (left_line n) ≡ left_line n
left-whole n = text-promises.fits [] (left_line n) (simp length-append (omega (arith, text-promises.digits n)))

module _ (names ends steps : List ℕ) (short : (k : ℕ) → length (name_at names ends k) ≤ 24) where
  word-le : (w : ListWord) → length (word_letters w) ≤ 11
  word-le Moved = omega arith
  word-le PutBack = omega arith
  word-le StillOpen = omega arith

  list-whole : (j : ℕ) (w : ListWord) → shown (list_line names ends steps j w) ≡ list_line names ends steps j w
  list-whole j w =
      text-promises.fits [] (list_line names ends steps j w) (simp length-append (omega (arith, short (list_name steps j), word-le w)))

  either-le : (b : Bool) (i k : ℕ) → length (cond b (name_at names ends (step_name steps i k)) (115 ∷ 116 ∷ 101 ∷ 112 ∷ 32 ∷ decimal k)) ≤ 25
  either-le true i k = omega (arith, short (step_name steps i k))
  either-le false i k = omega (arith, text-promises.digits k)

  step-le : (i k : ℕ) → length (step_letters names ends steps i k) ≤ 25
  step-le i k = either-le (leb k (get_or steps i 0)) i k

  part-le : (i : ℕ) (p : Part) → length (part_letters names ends steps i p) ≤ 37
  part-le i Itself = omega arith
  part-le i (OfStep k) = simp length-append (omega (arith, step-le i k))
  part-le i (OfUndo k) = simp length-append (omega (arith, step-le i k))

  todo-le : (i : ℕ) (t : Todo) → length (todo_letters names ends steps i t) ≤ 44
  todo-le i Nothing = omega arith
  todo-le i (Begins p) = simp length-append (omega (arith, part-le i p))
  todo-le i (Commits p) = simp length-append (omega (arith, part-le i p))
  todo-le i (Aborts p) = simp length-append (omega (arith, part-le i p))

  move-whole : (i : ℕ) (t : Todo) → shown (move_line names ends steps i t) ≡ move_line names ends steps i t
  move-whole i t =
      text-promises.fits [] (move_line names ends steps i t) (simp length-append (omega (arith, short (move_name steps i), todo-le i t)))

-- a line behind that of how much is left
below : (names ends steps lists : List ℕ) (r : Judgement) (k : ℕ) → accepted_line names ends steps lists r (1 + k) ≡ told_line names ends steps lists r k
below names ends steps lists r k =
    let back : 1 + k - 1 ≡ k = omega arith in
    sym (accepted-told names ends steps lists r (1 + k) (λ z. omega arith)) ∙ ap (told_line names ends steps lists r) back

-- ---- of a plan that fits no name is long

module _ (names ends steps lists : List ℕ) (fits : plan_verdict names ends steps lists ≡ Ok tt) where
  short : (k : ℕ) → length (name_at names ends k) ≤ 24
  short k =
      let none = ((judging-holds names ends steps lists).fits_0.0 (ap plan_number fits)).2 in
      at_most (ltb 24 (length (name_at names ends k))) refl none
    where
      at_most : (b : Bool) → ltb 24 (length (name_at names ends k)) ≡ b → ((m : ℕ) × (24 < length (name_at names ends m)) → ⊥) → length (name_at names ends k) ≤ 24
      at_most true t none = absurd (none (k, ltb-true 24 (length (name_at names ends k)) t))
      at_most false t none = ltb-false 24 (length (name_at names ends k)) t

pub said-holds : (names ends steps lists : List ℕ) (r : Judgement) → Said names ends steps lists r
said-holds names ends steps lists r =
    record {
      plan_first = λ x e. (sym (count-unfit names ends steps lists r x (sym e)), λ k. sym (said-unfit names ends steps lists r k x (sym e)) ∙ plan-whole x);
      book_next = λ f x e.
          (sym (count-refused names ends steps lists r (sym f) x (sym e)), λ k. sym (said-refused names ends steps lists r k (sym f) x (sym e)));
      all_told = λ f e. sym (count-told names ends steps lists r (sym f) (sym e));
      left_told = λ f e.
          sym (said-told names ends steps lists r 0 (sym f) (sym e)) ∙ sym (accepted-left names ends steps lists r 0 refl (left_in r.tables r.state) refl)
          ∙ left-whole (left_in r.tables r.state);
      lists_told = λ f e j h.
          sym (said-told names ends steps lists r (1 + j) (sym f) (sym e)) ∙ below names ends steps lists r j ∙ sym (told-list names ends steps lists r j h)
          ∙ list-whole names ends steps (short names ends steps lists f) j (word_for r.tables r.state (get_or lists j 0));
      moves_told = λ f e i.
          let k = length lists + i in
          let back : k - length lists ≡ i = omega arith in
          sym (said-told names ends steps lists r (1 + k) (sym f) (sym e)) ∙ below names ends steps lists r k ∙ sym (told_move names ends steps lists r k (omega arith))
          ∙ ap (λ (n : ℕ). shown (move_line names ends steps n (todo_for r.tables r.state n))) back
          ∙ move-whole names ends steps (short names ends steps lists f) i (todo_for r.tables r.state i);
    }
