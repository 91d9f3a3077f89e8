-- What is said of lists and moves, case by case as the code comes to it; and lines put together part by part.
use Prim.Native.Nat.{ℕ, ◌+◌, ◌-◌, ◌≤◌, ◌<◌}
use native.Mathlib.Omega.{arith}
use mathlib.Core.Path.{◌≡◌, sym, ap, ◌∙◌}
use mathlib.Core.Bool.{Bool, true, false}
use mathlib.Core.List.{List, [], ◌++◌}
use lib.ListN.{get_or, length}
use borrow.Author.Tests.{eq-eqb, le-ltb, lt-leb, lt-ltb, ne_eqb}
use Rattle.terms.specs.declared.Verdict.{Verdict}
use Rattle.terms.specs.declared.Verdict.TheVariants.{Accepted, Refused}
use Rattle.terms.specs.declared.Refusal.{Refusal}
use Rattle.tables.specs.declared.Tables.{Tables}
use Rattle.rules.specs.declared.State.{State}
use Rattle.closing.specs.Closing.{closing, settled}
use Rattle.closing.specs.declared.NextStep.{NextStep}
use Rattle.left.specs.Left.{left_in}
use Rattle.plan.specs.Verdict.{PlanVerdict, plan_verdict}
use Rattle.plan.specs.declared.PlanRefusal.{PlanRefusal}
use Rattle.std.proofs.Common.{Ok, Err}
use Rattle.onward.specs.declared.Judgement.{Judgement}
use Rattle.listing.specs.Lines.{line_of}
use Rattle.listing.specs.Texts.{with_all}
use Rattle.listing.specs.Words.{decimal}
use Rattle.listing.proofs.TextPromisesHold.{text-promises}
use Rattle.moves.specs.Lines.{accepted_line, by_book, by_plan, count_by_book, count_by_plan, left_line, list_line, move_line, plan_line, said_line, said_lines, shown, step_letters, told_line}
use Rattle.moves.specs.Moves.{part_of, saga_committed, todo_by, todo_for, word_for}
use Rattle.moves.specs.Words.{step_number}
use Rattle.moves.specs.declared.ListWord.TheVariants.{Moved, PutBack, StillOpen}

-- ---- a class list

module _ (tables : Tables) (s : State) (i : ℕ) (b : Bool) (e : b ≡ saga_committed tables s i) where
  pub word_moved : b ≡ true → Moved ≡ word_for tables s i
  unfolding word_for
  word_moved t = rw (sym e ∙ t)

  module _ (c : Bool) (d : c ≡ settled tables s i) (off : b ≡ false) where
    pub word_back : c ≡ true → PutBack ≡ word_for tables s i
    unfolding word_for
    word_back t = rw (sym e ∙ off, sym d ∙ t)

    pub word-open : c ≡ false → StillOpen ≡ word_for tables s i
    unfolding word_for
    word-open t = rw (sym e ∙ off, sym d ∙ t)

-- ---- a move

pub todo-is : (tables : Tables) (s : State) (i : ℕ) (x : NextStep) → x ≡ closing tables s i → todo_by (part_of tables i) x ≡ todo_for tables s i
unfolding todo_for
todo-is tables s i x e = ap (todo_by (part_of tables i)) e

-- ---- lines, part by part

-- one part, and then the rest
pub then : (l xs ys : List ℕ) {t u : List ℕ} → t ≡ with_all l xs → u ≡ with_all t ys → u ≡ with_all l (xs ++ ys)
then l xs ys p q = q ∙ ap (λ (k : List ℕ). with_all k ys) p ∙ sym (text-promises.parts l xs ys)

-- a line begins with nothing
pub first : (xs : List ℕ) {t u : List ℕ} → t ≡ [] → u ≡ with_all t xs → u ≡ with_all [] xs
first xs p q = q ∙ ap (λ (k : List ℕ). with_all k xs) p

module _ (names ends steps : List ℕ) (i k n : ℕ) (e : n ≡ get_or steps i 0) where
  pub step-numbered : n < k → step_number ++ decimal k ≡ step_letters names ends steps i k
  step-numbered h = rw (lt-leb k (get_or steps i 0) (omega arith))

-- ---- which line it is

module _ (names ends steps lists : List ℕ) (r : Judgement) (k : ℕ) where
  pub told-list : k < length lists → shown (list_line names ends steps k (word_for r.tables r.state (get_or lists k 0))) ≡ told_line names ends steps lists r k
  told-list h = rw (lt-ltb k (length lists) h)

  pub told_move : length lists ≤ k
      → shown (move_line names ends steps (k - length lists) (todo_for r.tables r.state (k - length lists))) ≡ told_line names ends steps lists r k
  told_move h = rw (le-ltb k (length lists) h)

  pub accepted-left : k ≡ 0 → (n : ℕ) → n ≡ left_in r.tables r.state → shown (left_line n) ≡ accepted_line names ends steps lists r k
  accepted-left z n e = rw (eq-eqb k 0 z) (ap (λ (m : ℕ). shown (left_line m)) e)

  pub accepted-told : (k ≡ 0 → ⊥) → told_line names ends steps lists r (k - 1) ≡ accepted_line names ends steps lists r k
  accepted-told z = rw (ne_eqb k 0 z)

  pub said-unfit : (x : PlanRefusal) → Err x ≡ plan_verdict names ends steps lists → shown (plan_line x) ≡ said_line names ends steps lists r k
  unfolding said_line
  said-unfit x e = ap (λ (v : PlanVerdict). by_plan names ends steps lists r v k) e

  module _ (fits : Ok tt ≡ plan_verdict names ends steps lists) where
    pub said-refused : (x : Refusal) → Refused x ≡ r.answer → line_of r 0 ≡ said_line names ends steps lists r k
    unfolding said_line
    said-refused x e =
        ap (λ (v : Verdict). by_book names ends steps lists r v k) e ∙ ap (λ (v : PlanVerdict). by_plan names ends steps lists r v k) fits

    pub said-told : Accepted ≡ r.answer → accepted_line names ends steps lists r k ≡ said_line names ends steps lists r k
    unfolding said_line
    said-told e = ap (λ (v : Verdict). by_book names ends steps lists r v k) e ∙ ap (λ (v : PlanVerdict). by_plan names ends steps lists r v k) fits

module _ (names ends steps lists : List ℕ) (r : Judgement) where
  pub count-unfit : (x : PlanRefusal) → Err x ≡ plan_verdict names ends steps lists → 1 ≡ said_lines names ends steps lists r
  unfolding said_lines
  count-unfit x e = ap (λ (v : PlanVerdict). count_by_plan names ends steps lists r v) e

  module _ (fits : Ok tt ≡ plan_verdict names ends steps lists) where
    pub count-refused : (x : Refusal) → Refused x ≡ r.answer → 1 ≡ said_lines names ends steps lists r
    unfolding said_lines
    count-refused x e = ap (λ (v : Verdict). count_by_book names ends steps lists r v) e ∙ ap (λ (v : PlanVerdict). count_by_plan names ends steps lists r v) fits

    pub count-told : Accepted ≡ r.answer → 1 + (length lists + length steps) ≡ said_lines names ends steps lists r
    unfolding said_lines
    count-told e = ap (λ (v : Verdict). count_by_book names ends steps lists r v) e ∙ ap (λ (v : PlanVerdict). count_by_plan names ends steps lists r v) fits
