-- What the contracts of the crate cite. Assumes nothing.
use Rattle.std.specs.Prelude.{ℕ, ◌≤◌, ◌<◌, List, length, take, Result, Ok, Err}
use Rattle.std.specs.Io.KnownBytes.{Consumes, IsAtEnd}
use Rattle.std.specs.declared.io.Error.{Error}
use Rattle.std.specs.declared.option.Option.{Option}

-- the bytes that were read lie within the room; of a read that failed nothing is said
abbrev pub Within : Result ℕ Error → List ℕ → Type 0
Within (Ok n) room = n ≤ length room
Within (Err reason) room = Unit {0}

-- the front of the room has what the input lost, in its order, and if there is room left the input is at its end; what the input had and has is
-- only spoken of where it is known
abbrev pub TakesFrom : Option (List ℕ) → Option (List ℕ) → Result ℕ Error → List ℕ → Type 0
TakesFrom old new (Ok n) room = Consumes old new (take n room) × (n < length room → IsAtEnd new)
TakesFrom old new (Err reason) room = Unit {0}
