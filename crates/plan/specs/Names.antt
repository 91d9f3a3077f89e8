-- A plan in memory: `names` (bytes), `ends` (for each name where it ends in `names`), `steps` (for each move how many steps it has), `lists`
-- (for each class list the number of its move, from 0). Names stand in this order: move 0, its steps, move 1, its steps, ..; then the lists'.
use Rattle.std.specs.Prelude.{ℕ, zero, suc, ◌+◌, ◌-◌, min, List, [], ◌∷◌, length, get_or, take, drop}

-- ---- name k

-- where it ends: an end past the bytes counts as their number, an end that is not there as 0
abbrev pub end_at : List ℕ → List ℕ → ℕ → ℕ
end_at names ends k = min (get_or ends k 0) (length names)

-- where it begins: where the name before it ends
abbrev pub begin_at : List ℕ → List ℕ → ℕ → ℕ
begin_at names ends zero = 0
begin_at names ends (suc k) = end_at names ends k

-- the bytes between; none where the end lies before the begin
unfoldable pub name_at : List ℕ → List ℕ → ℕ → List ℕ
name_at names ends k = take (end_at names ends k - begin_at names ends k) (drop (begin_at names ends k) names)

-- ---- which name it is

-- how many names moves have that have so many steps: each its own and one for each step
unfoldable pub names_of : List ℕ → ℕ
names_of [] = 0
names_of (n ∷ steps) = 1 + n + names_of steps

-- an index; no plan has names up to the highest, so what is past it counts as the highest
abbrev pub index : ℕ → ℕ
index n = min n 18446744073709551615

-- the name of move i stands behind those of the moves before it
abbrev pub move_name : List ℕ → ℕ → ℕ
move_name steps i = index (names_of (take i steps))

-- the name of its step k, from 1, stands k names behind its own
abbrev pub step_name : List ℕ → ℕ → ℕ → ℕ
step_name steps i k = index (move_name steps i + k)

-- the name of list j stands behind those of all moves, and j lists
abbrev pub list_name : List ℕ → ℕ → ℕ
list_name steps j = index (index (names_of steps) + j)
