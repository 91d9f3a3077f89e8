-- What staff read, byte for byte: a line that says how much is left, one for each class list, then one for each move; or one line that says why nothing is said of
-- any list.
use Rattle.std.specs.Prelude.{ℕ, ◌+◌, ◌-◌, cond, Ok, Err, List, [], ◌++◌, eqb, leb, ltb, get_or, length}
use Rattle.terms.specs.declared.Verdict.{Verdict}
use Rattle.terms.specs.declared.Verdict.TheVariants.{Accepted, Refused}
use Rattle.left.specs.Left.{left_in}
use Rattle.plan.specs.Names.{list_name, move_name, name_at, step_name}
use Rattle.plan.specs.Verdict.{PlanVerdict, plan_verdict, refusal_number}
use Rattle.plan.specs.declared.PlanRefusal.{PlanRefusal}
use Rattle.onward.specs.declared.Judgement.{Judgement}
use Rattle.listing.specs.Lines.{line_of}
use Rattle.listing.specs.Texts.{with_all}
use Rattle.listing.specs.Words.{decimal, line_feed}
use Rattle.moves.specs.Moves.{todo_for, word_for}
use Rattle.moves.specs.Words.{abort_verb, begin_verb, colon, commit_verb, left_head, list_head, move_head, moved_word, no_events, nothing_word, plan_refused, put_back_word, step_number, still_open_word, the_move, the_step, the_undo}
use Rattle.moves.specs.declared.ListWord.{ListWord}
use Rattle.moves.specs.declared.ListWord.TheVariants.{Moved, PutBack, StillOpen}
use Rattle.moves.specs.declared.Part.{Part}
use Rattle.moves.specs.declared.Part.TheVariants.{Itself, OfStep, OfUndo}
use Rattle.moves.specs.declared.Todo.{Todo}
use Rattle.moves.specs.declared.Todo.TheVariants.{Aborts, Begins, Commits, Nothing}

abbrev pub word_letters : ListWord → List ℕ
word_letters Moved = moved_word
word_letters PutBack = put_back_word
word_letters StillOpen = still_open_word

-- ---- a plan in memory: names, ends, steps, lists

module _ (names ends steps : List ℕ) where
  -- step k of move i by its name; one that the plan does not name, by its number
  abbrev pub step_letters : ℕ → ℕ → List ℕ
  step_letters i k = cond (leb k (get_or steps i 0)) (name_at names ends (step_name steps i k)) (step_number ++ decimal k)

  abbrev pub part_letters : ℕ → Part → List ℕ
  part_letters i Itself = the_move
  part_letters i (OfStep k) = the_step ++ step_letters i k
  part_letters i (OfUndo k) = the_undo ++ step_letters i k

  abbrev pub todo_letters : ℕ → Todo → List ℕ
  todo_letters i Nothing = nothing_word
  todo_letters i (Begins part) = begin_verb ++ part_letters i part
  todo_letters i (Commits part) = commit_verb ++ part_letters i part
  todo_letters i (Aborts part) = abort_verb ++ part_letters i part

  -- 'move Week 46: begin the undo of diets'
  abbrev pub move_line : ℕ → Todo → List ℕ
  move_line i todo = move_head ++ (name_at names ends (move_name steps i) ++ (colon ++ (todo_letters i todo ++ line_feed)))

  -- 'list 4A moved'
  abbrev pub list_line : ℕ → ListWord → List ℕ
  list_line j word = list_head ++ (name_at names ends (list_name steps j) ++ (word_letters word ++ line_feed))

-- 'left 6'
abbrev pub left_line : ℕ → List ℕ
left_line n = left_head ++ (decimal n ++ line_feed)

-- 'plan refused 25 0 0'
abbrev pub plan_line : PlanRefusal → List ℕ
plan_line r = plan_refused ++ (decimal (refusal_number r) ++ (no_events ++ line_feed))

-- ---- the lines of a plan and the judgement of its book

-- what a text shows of a line: all of it, where no name is longer than a plan's may be
abbrev pub shown : List ℕ → List ℕ
shown l = with_all [] l

module _ (names ends steps lists : List ℕ) (r : Judgement) where
  abbrev pub told_line : ℕ → List ℕ
  told_line k =
      cond (ltb k (length lists))
      (shown (list_line names ends steps k (word_for r.tables r.state (get_or lists k 0))))
      (shown (move_line names ends steps (k - length lists) (todo_for r.tables r.state (k - length lists))))

  -- how much is left of all sagas in the book, then the lists and the moves
  abbrev pub accepted_line : ℕ → List ℕ
  accepted_line k = cond (eqb k 0) (shown (left_line (left_in r.tables r.state))) (told_line (k - 1))

  -- the plan is judged first, then the book; where either is refused, that is the one line
  abbrev pub by_book : Verdict → ℕ → List ℕ
  by_book Accepted k = accepted_line k
  by_book (Refused x) k = line_of r 0

  abbrev pub by_plan : PlanVerdict → ℕ → List ℕ
  by_plan (Ok fits) k = by_book r.answer k
  by_plan (Err x) k = shown (plan_line x)

  unfoldable pub said_line : ℕ → List ℕ
  said_line k = by_plan (plan_verdict names ends steps lists) k

  abbrev pub count_by_book : Verdict → ℕ
  count_by_book Accepted = 1 + (length lists + length steps)
  count_by_book (Refused x) = 1

  abbrev pub count_by_plan : PlanVerdict → ℕ
  count_by_plan (Ok fits) = count_by_book r.answer
  count_by_plan (Err x) = 1

  unfoldable pub said_lines : ℕ
  said_lines = count_by_plan (plan_verdict names ends steps lists)
