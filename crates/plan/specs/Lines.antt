-- The text of a plan: its lines, and what each line says.
use Rattle.std.specs.Prelude.{ℕ, Bool, true, false, cond, ◌&&◌, ◌||◌, List, [], ◌∷◌, map, drop, eqb}
use Rattle.plan.specs.declared.Word.{Word}
use Rattle.plan.specs.declared.Word.TheVariants.{Passed, Move, Step, ClassList, Unclear}

-- ---- lines

-- a byte more at the front of the first line
abbrev pub with_first : ℕ → List (List ℕ) → List (List ℕ)
with_first b [] = (b ∷ []) ∷ []
with_first b (l ∷ ls) = (b ∷ l) ∷ ls

-- lines end with a line feed (10); the last one may lack it
unfoldable pub lines_of : List ℕ → List (List ℕ)
lines_of [] = []
lines_of (b ∷ s) = cond (eqb b 10) ([] ∷ lines_of s) (with_first b (lines_of s))

-- a blank (32) or a tab (9); around a line a carriage return (13) too
abbrev pub is_blank : Bool → ℕ → Bool
is_blank around b = eqb b 32 || (eqb b 9 || (around && eqb b 13))

-- without the blanks at the front
unfoldable pub past_blanks : Bool → List ℕ → List ℕ
past_blanks around [] = []
past_blanks around (b ∷ s) = cond (is_blank around b) (past_blanks around s) (b ∷ s)

-- a byte more in front; a blank in front of nothing is left off
abbrev pub blank_then : ℕ → List ℕ → List ℕ
blank_then b [] = cond (is_blank true b) [] (b ∷ [])
blank_then b (c ∷ s) = b ∷ c ∷ s

-- without the blanks at the end
unfoldable pub up_to_blanks : List ℕ → List ℕ
up_to_blanks [] = []
up_to_blanks (b ∷ s) = blank_then b (up_to_blanks s)

-- blanks, tabs and carriage returns at the front and at the end of a line count for nothing
abbrev pub trimmed : List ℕ → List ℕ
trimmed line = up_to_blanks (past_blanks true line)

-- ---- what is left of a line

-- 'move'
abbrev pub move_word : List ℕ
move_word = 109 ∷ 111 ∷ 118 ∷ 101 ∷ []

-- 'step'
abbrev pub step_word : List ℕ
step_word = 115 ∷ 116 ∷ 101 ∷ 112 ∷ []

-- 'list'
abbrev pub list_word : List ℕ
list_word = 108 ∷ 105 ∷ 115 ∷ 116 ∷ []

-- the line begins with the word, and a blank or a tab follows
unfoldable pub begins : List ℕ → List ℕ → Bool
begins [] [] = false
begins [] (b ∷ s) = is_blank false b
begins (w ∷ ws) [] = false
begins (w ∷ ws) (b ∷ s) = eqb b w && begins ws s

-- a move, a step or a class list, or none of these
abbrev pub by_word : List ℕ → Word
by_word line = cond (begins move_word line) Move (cond (begins step_word line) Step (cond (begins list_word line) ClassList Unclear))

-- nothing, or something that starts with '#' (35), is passed over
unfoldable pub word_of : List ℕ → Word
word_of [] = Passed
word_of (b ∷ s) = cond (eqb b 35) Passed (by_word (b ∷ s))

-- what follows the word, which has four letters, and the blanks or tabs behind it
unfoldable pub name_of : List ℕ → List ℕ
name_of line = past_blanks false (drop 4 line)

-- ---- what a line says

pub data Entry : Type 0 where
  passed : Entry
  move : List ℕ → Entry
  step : List ℕ → Entry
  list : List ℕ → Entry
  unclear : Entry

abbrev pub entry_by : Word → List ℕ → Entry
entry_by Passed x = passed
entry_by Move x = move x
entry_by Step x = step x
entry_by ClassList x = list x
entry_by Unclear x = unclear

abbrev pub entry_of : List ℕ → Entry
entry_of line = entry_by (word_of (trimmed line)) (name_of (trimmed line))

-- line by line
unfoldable pub entries_of : List ℕ → List Entry
entries_of text = map entry_of (lines_of text)
