-- What staff read of one plan, letter by letter: every word, every thing to do, and every refusal of a plan.
use Rattle.std.specs.Prelude.{ℕ, ◌≡◌, List, [], ◌∷◌, map}
use Rattle.plan.specs.declared.PlanRefusal.TheVariants.{LongName, NoSuchMove, TooManyLists, TooManySteps}
use Rattle.moves.specs.Lines.{list_line, move_line, plan_line}
use Rattle.moves.specs.declared.ListWord.TheVariants.{Moved, PutBack, StillOpen}
use Rattle.moves.specs.declared.Part.TheVariants.{Itself, OfStep, OfUndo}
use Rattle.moves.specs.declared.Todo.TheVariants.{Aborts, Begins, Commits, Nothing}

-- move 'Week 46' with the steps 'names' and 'diets', move 'Week 47' with the step 'labels', and the lists '4A', '4B' and '5C'
abbrev names : List ℕ
names = 87 ∷ 101 ∷ 101 ∷ 107 ∷ 32 ∷ 52 ∷ 54 ∷ 110 ∷ 97 ∷ 109 ∷ 101 ∷ 115 ∷ 100 ∷ 105 ∷ 101 ∷ 116 ∷ 115 ∷ 87 ∷ 101 ∷ 101 ∷ 107 ∷ 32 ∷ 52 ∷ 55 ∷ 108 ∷ 97 ∷ 98 ∷ 101 ∷ 108 ∷ 115 ∷ 52 ∷ 65 ∷ 52 ∷ 66 ∷ 53 ∷ 67 ∷ []

abbrev ends : List ℕ
ends = 7 ∷ 12 ∷ 17 ∷ 24 ∷ 30 ∷ 32 ∷ 34 ∷ 36 ∷ []

abbrev steps : List ℕ
steps = 2 ∷ 1 ∷ []

pub record Spoken : Type 0 where
  -- 'list 4A moved'
  pub moved : list_line names ends steps 0 Moved ≡ 108 ∷ 105 ∷ 115 ∷ 116 ∷ 32 ∷ 52 ∷ 65 ∷ 32 ∷ 109 ∷ 111 ∷ 118 ∷ 101 ∷ 100 ∷ 10 ∷ []
  -- 'list 4B put back'
  pub put_back : list_line names ends steps 1 PutBack ≡ 108 ∷ 105 ∷ 115 ∷ 116 ∷ 32 ∷ 52 ∷ 66 ∷ 32 ∷ 112 ∷ 117 ∷ 116 ∷ 32 ∷ 98 ∷ 97 ∷ 99 ∷ 107 ∷ 10 ∷ []
  -- 'list 5C still open'
  pub still_open : list_line names ends steps 2 StillOpen ≡ 108 ∷ 105 ∷ 115 ∷ 116 ∷ 32 ∷ 53 ∷ 67 ∷ 32 ∷ 115 ∷ 116 ∷ 105 ∷ 108 ∷ 108 ∷ 32 ∷ 111 ∷ 112 ∷ 101 ∷ 110 ∷ 10 ∷ []
  -- 'move Week 46: nothing'
  pub nothing : move_line names ends steps 0 Nothing ≡ 109 ∷ 111 ∷ 118 ∷ 101 ∷ 32 ∷ 87 ∷ 101 ∷ 101 ∷ 107 ∷ 32 ∷ 52 ∷ 54 ∷ 58 ∷ 32 ∷ 110 ∷ 111 ∷ 116 ∷ 104 ∷ 105 ∷ 110 ∷ 103 ∷ 10 ∷ []
  -- 'move Week 47: abort the move'
  pub abort_move : move_line names ends steps 1 (Aborts Itself) ≡ 109 ∷ 111 ∷ 118 ∷ 101 ∷ 32 ∷ 87 ∷ 101 ∷ 101 ∷ 107 ∷ 32 ∷ 52 ∷ 55 ∷ 58 ∷ 32 ∷ 97 ∷ 98 ∷ 111 ∷ 114 ∷ 116 ∷ 32 ∷ 116 ∷ 104 ∷ 101 ∷ 32 ∷ 109 ∷ 111 ∷ 118 ∷ 101 ∷ 10 ∷ []
  -- 'move Week 46: commit the move'
  pub commit_move : move_line names ends steps 0 (Commits Itself) ≡ 109 ∷ 111 ∷ 118 ∷ 101 ∷ 32 ∷ 87 ∷ 101 ∷ 101 ∷ 107 ∷ 32 ∷ 52 ∷ 54 ∷ 58 ∷ 32 ∷ 99 ∷ 111 ∷ 109 ∷ 109 ∷ 105 ∷ 116 ∷ 32 ∷ 116 ∷ 104 ∷ 101 ∷ 32 ∷ 109 ∷ 111 ∷ 118 ∷ 101 ∷ 10 ∷ []
  -- 'move Week 46: abort the step diets'
  pub abort_step : move_line names ends steps 0 (Aborts (OfStep 2)) ≡ 109 ∷ 111 ∷ 118 ∷ 101 ∷ 32 ∷ 87 ∷ 101 ∷ 101 ∷ 107 ∷ 32 ∷ 52 ∷ 54 ∷ 58 ∷ 32 ∷ 97 ∷ 98 ∷ 111 ∷ 114 ∷ 116 ∷ 32 ∷ 116 ∷ 104 ∷ 101 ∷ 32 ∷ 115 ∷ 116 ∷ 101 ∷ 112 ∷ 32 ∷ 100 ∷ 105 ∷ 101 ∷ 116 ∷ 115 ∷ 10 ∷ []
  -- 'move Week 46: begin the undo of names'
  pub begin_undo : move_line names ends steps 0 (Begins (OfUndo 1)) ≡ 109 ∷ 111 ∷ 118 ∷ 101 ∷ 32 ∷ 87 ∷ 101 ∷ 101 ∷ 107 ∷ 32 ∷ 52 ∷ 54 ∷ 58 ∷ 32 ∷ 98 ∷ 101 ∷ 103 ∷ 105 ∷ 110 ∷ 32 ∷ 116 ∷ 104 ∷ 101 ∷ 32 ∷ 117 ∷ 110 ∷ 100 ∷ 111 ∷ 32 ∷ 111 ∷ 102 ∷ 32 ∷ 110 ∷ 97 ∷ 109 ∷ 101 ∷ 115 ∷ 10 ∷ []
  -- 'move Week 47: commit the undo of labels'
  pub commit_undo : move_line names ends steps 1 (Commits (OfUndo 1)) ≡ 109 ∷ 111 ∷ 118 ∷ 101 ∷ 32 ∷ 87 ∷ 101 ∷ 101 ∷ 107 ∷ 32 ∷ 52 ∷ 55 ∷ 58 ∷ 32 ∷ 99 ∷ 111 ∷ 109 ∷ 109 ∷ 105 ∷ 116 ∷ 32 ∷ 116 ∷ 104 ∷ 101 ∷ 32 ∷ 117 ∷ 110 ∷ 100 ∷ 111 ∷ 32 ∷ 111 ∷ 102 ∷ 32 ∷ 108 ∷ 97 ∷ 98 ∷ 101 ∷ 108 ∷ 115 ∷ 10 ∷ []
  -- 'move Week 47: begin the undo of step 3'
  pub no_name : move_line names ends steps 1 (Begins (OfUndo 3)) ≡ 109 ∷ 111 ∷ 118 ∷ 101 ∷ 32 ∷ 87 ∷ 101 ∷ 101 ∷ 107 ∷ 32 ∷ 52 ∷ 55 ∷ 58 ∷ 32 ∷ 98 ∷ 101 ∷ 103 ∷ 105 ∷ 110 ∷ 32 ∷ 116 ∷ 104 ∷ 101 ∷ 32 ∷ 117 ∷ 110 ∷ 100 ∷ 111 ∷ 32 ∷ 111 ∷ 102 ∷ 32 ∷ 115 ∷ 116 ∷ 101 ∷ 112 ∷ 32 ∷ 51 ∷ 10 ∷ []
  -- 'plan refused 25 0 0' and so on to 28
  pub refused : map plan_line (TooManySteps ∷ TooManyLists ∷ LongName ∷ NoSuchMove ∷ [])
      ≡ (112 ∷ 108 ∷ 97 ∷ 110 ∷ 32 ∷ 114 ∷ 101 ∷ 102 ∷ 117 ∷ 115 ∷ 101 ∷ 100 ∷ 32 ∷ 50 ∷ 53 ∷ 32 ∷ 48 ∷ 32 ∷ 48 ∷ 10 ∷ []) ∷ (112 ∷ 108 ∷ 97 ∷ 110 ∷ 32 ∷ 114 ∷ 101 ∷ 102 ∷ 117 ∷ 115 ∷ 101 ∷ 100 ∷ 32 ∷ 50 ∷ 54 ∷ 32 ∷ 48 ∷ 32 ∷ 48 ∷ 10 ∷ []) ∷ (112 ∷ 108 ∷ 97 ∷ 110 ∷ 32 ∷ 114 ∷ 101 ∷ 102 ∷ 117 ∷ 115 ∷ 101 ∷ 100 ∷ 32 ∷ 50 ∷ 55 ∷ 32 ∷ 48 ∷ 32 ∷ 48 ∷ 10 ∷ []) ∷ (112 ∷ 108 ∷ 97 ∷ 110 ∷ 32 ∷ 114 ∷ 101 ∷ 102 ∷ 117 ∷ 115 ∷ 101 ∷ 100 ∷ 32 ∷ 50 ∷ 56 ∷ 32 ∷ 48 ∷ 32 ∷ 48 ∷ 10 ∷ []) ∷ []
