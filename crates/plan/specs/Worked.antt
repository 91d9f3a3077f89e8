-- Two texts and what is read from them.
use Rattle.std.specs.Prelude.{◌≡◌, Ok, Err, List, [], ◌∷◌, ℕ}
use Rattle.plan.specs.declared.PlanUnread.TheVariants.{NotUnderstood}
use Rattle.plan.specs.Lines.{passed, move, step, list, entries_of}
use Rattle.plan.specs.Reading.{plan_names, plan_ends, plan_steps, plan_lists, read_answer}
use Rattle.plan.specs.Verdict.{plan_number, plan_verdict}

-- 'list X', line feed; 'move A b', carriage return, line feed; tab, 'step c ', line feed; 'list  D', line feed; '# e'
abbrev pub text : List ℕ
text =
    108 ∷ 105 ∷ 115 ∷ 116 ∷ 32 ∷ 88 ∷ 10
    ∷ 109 ∷ 111 ∷ 118 ∷ 101 ∷ 32 ∷ 65 ∷ 32 ∷ 98 ∷ 13 ∷ 10
    ∷ 9 ∷ 115 ∷ 116 ∷ 101 ∷ 112 ∷ 32 ∷ 99 ∷ 32 ∷ 10
    ∷ 108 ∷ 105 ∷ 115 ∷ 116 ∷ 32 ∷ 32 ∷ 68 ∷ 10
    ∷ 35 ∷ 32 ∷ 101 ∷ []

-- '#', line feed; 'move', blank, line feed
abbrev pub nameless : List ℕ
nameless = 35 ∷ 10 ∷ 109 ∷ 111 ∷ 118 ∷ 101 ∷ 32 ∷ 10 ∷ []

pub record Worked : Type 0 where
  pub entries : entries_of text ≡ list (88 ∷ []) ∷ move (65 ∷ 32 ∷ 98 ∷ []) ∷ step (99 ∷ []) ∷ list (68 ∷ []) ∷ passed ∷ []
  -- the names 'A b', 'c', 'X' and 'D'; one move with one step; a list above the first move, and one of move 0
  pub names : plan_names (entries_of text) ≡ 65 ∷ 32 ∷ 98 ∷ 99 ∷ 88 ∷ 68 ∷ []
  pub ends : plan_ends (entries_of text) ≡ 3 ∷ 4 ∷ 5 ∷ 6 ∷ []
  pub steps : plan_steps (entries_of text) ≡ 1 ∷ []
  pub lists : plan_lists (entries_of text) ≡ 65535 ∷ 0 ∷ []
  -- rooms of just this size hold it
  pub fits : read_answer text 6 4 1 2 ≡ Ok (record { names = 6; ends = 4; moves = 1; lists = 2 })
  -- and it is refused, since a list's move is not there
  pub lost : plan_number (plan_verdict (plan_names (entries_of text)) (plan_ends (entries_of text)) (plan_steps (entries_of text)) (plan_lists (entries_of text))) ≡ 28
  -- a move without a name is not understood
  pub second : read_answer nameless 6 4 1 2 ≡ Err (NotUnderstood 2)
