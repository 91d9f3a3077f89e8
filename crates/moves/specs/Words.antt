-- The words that staff read, letter by letter.
use Rattle.std.specs.Prelude.{ℕ, List, [], ◌∷◌}

-- 'left '
abbrev pub left_head : List ℕ
left_head = 108 ∷ 101 ∷ 102 ∷ 116 ∷ 32 ∷ []

-- 'list '
abbrev pub list_head : List ℕ
list_head = 108 ∷ 105 ∷ 115 ∷ 116 ∷ 32 ∷ []

-- 'move '
abbrev pub move_head : List ℕ
move_head = 109 ∷ 111 ∷ 118 ∷ 101 ∷ 32 ∷ []

-- ': '
abbrev pub colon : List ℕ
colon = 58 ∷ 32 ∷ []

-- ' moved'
abbrev pub moved_word : List ℕ
moved_word = 32 ∷ 109 ∷ 111 ∷ 118 ∷ 101 ∷ 100 ∷ []

-- ' put back'
abbrev pub put_back_word : List ℕ
put_back_word = 32 ∷ 112 ∷ 117 ∷ 116 ∷ 32 ∷ 98 ∷ 97 ∷ 99 ∷ 107 ∷ []

-- ' still open'
abbrev pub still_open_word : List ℕ
still_open_word = 32 ∷ 115 ∷ 116 ∷ 105 ∷ 108 ∷ 108 ∷ 32 ∷ 111 ∷ 112 ∷ 101 ∷ 110 ∷ []

-- 'nothing'
abbrev pub nothing_word : List ℕ
nothing_word = 110 ∷ 111 ∷ 116 ∷ 104 ∷ 105 ∷ 110 ∷ 103 ∷ []

-- 'begin '
abbrev pub begin_verb : List ℕ
begin_verb = 98 ∷ 101 ∷ 103 ∷ 105 ∷ 110 ∷ 32 ∷ []

-- 'commit '
abbrev pub commit_verb : List ℕ
commit_verb = 99 ∷ 111 ∷ 109 ∷ 109 ∷ 105 ∷ 116 ∷ 32 ∷ []

-- 'abort '
abbrev pub abort_verb : List ℕ
abort_verb = 97 ∷ 98 ∷ 111 ∷ 114 ∷ 116 ∷ 32 ∷ []

-- 'the move'
abbrev pub the_move : List ℕ
the_move = 116 ∷ 104 ∷ 101 ∷ 32 ∷ 109 ∷ 111 ∷ 118 ∷ 101 ∷ []

-- 'the step '
abbrev pub the_step : List ℕ
the_step = 116 ∷ 104 ∷ 101 ∷ 32 ∷ 115 ∷ 116 ∷ 101 ∷ 112 ∷ 32 ∷ []

-- 'the undo of '
abbrev pub the_undo : List ℕ
the_undo = 116 ∷ 104 ∷ 101 ∷ 32 ∷ 117 ∷ 110 ∷ 100 ∷ 111 ∷ 32 ∷ 111 ∷ 102 ∷ 32 ∷ []

-- 'step '
abbrev pub step_number : List ℕ
step_number = 115 ∷ 116 ∷ 101 ∷ 112 ∷ 32 ∷ []

-- 'plan refused '
abbrev pub plan_refused : List ℕ
plan_refused = 112 ∷ 108 ∷ 97 ∷ 110 ∷ 32 ∷ 114 ∷ 101 ∷ 102 ∷ 117 ∷ 115 ∷ 101 ∷ 100 ∷ 32 ∷ []

-- ' 0 0'
abbrev pub no_events : List ℕ
no_events = 32 ∷ 48 ∷ 32 ∷ 48 ∷ []
