-- The plan that the lines of a text say, and what reading a text into lent rooms answers.
use Rattle.std.specs.Prelude.{ℕ, zero, suc, ◌+◌, Bool, true, false, cond, ◌&&◌, Result, Ok, Err, List, [], ◌∷◌, ◌++◌, length, drop, ltb, leb, eqb}
use Rattle.plan.specs.declared.Counts.{Counts}
use Rattle.plan.specs.declared.PlanUnread.{PlanUnread}
use Rattle.plan.specs.declared.PlanUnread.TheVariants.{NotUnderstood, NoRoom, TooLong}
use Rattle.plan.specs.Lines.{Entry, passed, move, step, list, unclear, entries_of}

-- ---- lines that are not understood

-- a line below m moves that is not understood; so is a step above the first move
abbrev pub is_unclear : ℕ → Entry → Bool
is_unclear m passed = false
is_unclear m (move x) = false
is_unclear m (step x) = eqb m 0
is_unclear m (list x) = false
is_unclear m unclear = true

-- how many moves stand above the next line
abbrev pub moves_after : ℕ → Entry → ℕ
moves_after m passed = m
moves_after m (move x) = suc m
moves_after m (step x) = m
moves_after m (list x) = m
moves_after m unclear = m

-- the number of the first line that is not understood, where the first has number n and m moves stand above it; 0 if all are understood
unfoldable pub first_unclear : ℕ → ℕ → List Entry → ℕ
first_unclear n m [] = 0
first_unclear n m (e ∷ es) = cond (is_unclear m e) n (first_unclear (suc n) (moves_after m e) es)

-- ---- names

-- the name of a move or a step (false), or that of a list (true)
abbrev pub name_in : Bool → Entry → List (List ℕ)
name_in lists passed = []
name_in false (move x) = x ∷ []
name_in true (move x) = []
name_in false (step x) = x ∷ []
name_in true (step x) = []
name_in false (list x) = []
name_in true (list x) = x ∷ []
name_in lists unclear = []

-- these names, as their lines stand
unfoldable pub names_in : Bool → List Entry → List (List ℕ)
names_in lists [] = []
names_in lists (e ∷ es) = name_in lists e ++ names_in lists es

-- move 0, its steps, move 1, its steps, ..; then the lists'
abbrev pub all_names : List Entry → List (List ℕ)
all_names es = names_in false es ++ names_in true es

-- the bytes of names one behind the other
unfoldable pub joined : List (List ℕ) → List ℕ
joined [] = []
joined (x ∷ xs) = x ++ joined xs

-- where each of them ends, the first beginning at a place
unfoldable pub ends_from : ℕ → List (List ℕ) → List ℕ
ends_from at [] = []
ends_from at (x ∷ xs) = (at + length x) ∷ ends_from (at + length x) xs

-- ---- steps and lists belong to the nearest move above them

-- how many steps stand above the next move
unfoldable pub steps_below : List Entry → ℕ
steps_below [] = 0
steps_below (passed ∷ es) = steps_below es
steps_below (move x ∷ es) = 0
steps_below (step x ∷ es) = suc (steps_below es)
steps_below (list x ∷ es) = steps_below es
steps_below (unclear ∷ es) = steps_below es

-- for each move how many steps it has
unfoldable pub steps_of : List Entry → List ℕ
steps_of [] = []
steps_of (passed ∷ es) = steps_of es
steps_of (move x ∷ es) = steps_below es ∷ steps_of es
steps_of (step x ∷ es) = steps_of es
steps_of (list x ∷ es) = steps_of es
steps_of (unclear ∷ es) = steps_of es

-- the last of m moves; above the first move there is none, which is said by 65,535
abbrev pub move_above : ℕ → ℕ
move_above zero = 65535
move_above (suc m) = m

-- for each list the number of its move, below m moves
unfoldable pub lists_of : ℕ → List Entry → List ℕ
lists_of m [] = []
lists_of m (passed ∷ es) = lists_of m es
lists_of m (move x ∷ es) = lists_of (suc m) es
lists_of m (step x ∷ es) = lists_of m es
lists_of m (list x ∷ es) = move_above m ∷ lists_of m es
lists_of m (unclear ∷ es) = lists_of m es

-- ---- the plan in memory

abbrev pub plan_names : List Entry → List ℕ
plan_names es = joined (all_names es)

abbrev pub plan_ends : List Entry → List ℕ
plan_ends es = ends_from 0 (all_names es)

abbrev pub plan_steps : List Entry → List ℕ
plan_steps es = steps_of es

abbrev pub plan_lists : List Entry → List ℕ
plan_lists es = lists_of 0 es

-- how much of each room it takes
abbrev pub counts_of : List Entry → Counts
counts_of es =
    record {
      names = length (plan_names es);
      ends = length (plan_ends es);
      moves = length (plan_steps es);
      lists = length (plan_lists es);
    }

-- ---- what reading answers

-- a plan has at most so many bytes
abbrev pub most_bytes : ℕ
most_bytes = 65536

-- how much of each room was filled, or why the text is not read
abbrev pub PlanRead : Type 0
PlanRead = Result Counts PlanUnread

-- the first line that is not understood, or how much the plan takes
abbrev pub told_by : ℕ → Counts → PlanRead
told_by zero counts = Ok counts
told_by (suc n) counts = Err (NotUnderstood (suc n))

unfoldable pub told : List Entry → PlanRead
told es = told_by (first_unclear 1 0 es) (counts_of es)

-- each room is large enough
abbrev pub has_room : Counts → ℕ → ℕ → ℕ → ℕ → Bool
has_room counts names ends steps lists =
    leb counts.names names && (leb counts.ends ends && (leb counts.moves steps && leb counts.lists lists))

-- a plan that no room is too small for
abbrev pub if_room : PlanRead → ℕ → ℕ → ℕ → ℕ → PlanRead
if_room (Ok counts) names ends steps lists = cond (has_room counts names ends steps lists) (Ok counts) (Err NoRoom)
if_room (Err why) names ends steps lists = Err why

-- reading into rooms of so many elements
unfoldable pub read_answer : List ℕ → ℕ → ℕ → ℕ → ℕ → PlanRead
read_answer text names ends steps lists = cond (ltb most_bytes (length text)) (Err TooLong) (if_room (told (entries_of text)) names ends steps lists)

-- a room after it: what was written stands at its front; refused reading leaves it as it was
unfoldable pub room_after : PlanRead → List ℕ → List ℕ → List ℕ
room_after (Ok counts) written room = written ++ drop (length written) room
room_after (Err why) written room = room
