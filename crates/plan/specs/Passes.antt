-- What the passes over a text go by: one line, one name, one store at a time.
use Rattle.std.specs.Prelude.{ℕ, suc, ◌+◌, Bool, true, false, cond, not, List, [], ◌∷◌, ◌++◌, length, take, drop, eqb}
use Rattle.plan.specs.declared.Counts.{Counts}
use Rattle.plan.specs.declared.Word.{Word}
use Rattle.plan.specs.declared.Word.TheVariants.{Passed, Move, Step, ClassList, Unclear}

-- how many bytes stand before the first line feed
unfoldable pub line_length : List ℕ → ℕ
line_length [] = 0
line_length (b ∷ s) = cond (eqb b 10) 0 (suc (line_length s))

abbrev pub is_move : Word → Bool
is_move Passed = false
is_move Move = true
is_move Step = false
is_move ClassList = false
is_move Unclear = false

abbrev pub is_step : Word → Bool
is_step Passed = false
is_step Move = false
is_step Step = true
is_step ClassList = false
is_step Unclear = false

abbrev pub is_list : Word → Bool
is_list Passed = false
is_list Move = false
is_list Step = false
is_list ClassList = true
is_list Unclear = false

-- a line with this word below m moves is not understood
abbrev pub not_clear : Word → ℕ → Bool
not_clear Passed m = false
not_clear Move m = false
not_clear Step m = eqb m 0
not_clear ClassList m = false
not_clear Unclear m = true

-- the line has a name of a move or a step (false), or of a list (true)
abbrev pub has_name : Word → Bool → Bool
has_name Passed lists = false
has_name Move lists = not lists
has_name Step lists = not lists
has_name ClassList lists = lists
has_name Unclear lists = false

abbrev pub no_counts : Counts
no_counts = record { names = 0; ends = 0; moves = 0; lists = 0 }

-- with a line more, whose name has n bytes
abbrev pub with_line : Counts → Word → ℕ → Counts
with_line c Passed n = c
with_line c Move n = record { names = c.names + n; ends = c.ends + 1; moves = c.moves + 1; lists = c.lists }
with_line c Step n = record { names = c.names + n; ends = c.ends + 1; moves = c.moves; lists = c.lists }
with_line c ClassList n = record { names = c.names + n; ends = c.ends + 1; moves = c.moves; lists = c.lists + 1 }
with_line c Unclear n = c

-- a room with a list laid over it from a place on
abbrev pub laid : List ℕ → ℕ → List ℕ → List ℕ
laid room at l = take at room ++ l ++ drop (at + length l) room
