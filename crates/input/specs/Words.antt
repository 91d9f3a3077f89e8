-- What asking for a word of the command line answered, files by names that are no text, and the front of a room.
use Rattle.std.specs.Prelude.{Option, ◌≡◌, ℕ, Bool, true, false, Result, Ok, Err, Some, pos, None, ◌≤◌}
use Rattle.std.specs.IoError.{raw_os_error}
use Rattle.std.specs.declared.env.FillError.{FillError}
use Rattle.std.specs.declared.env.FillError.TheVariants.{NotPresent, TooLong}
use Rattle.std.specs.declared.io.Error.{Error}

-- a word that is longer than what it is read into is there, too
abbrev pub is_word : Result ℕ FillError → Bool
is_word (Ok n) = true
is_word (Err TooLong) = true
is_word (Err NotPresent) = false

-- the reason is the system's 84, that the bytes are no letters
abbrev pub NoLetters : {A : Type 0} → Result A Error → Type 0
NoLetters (Ok file) = ⊥
NoLetters (Err reason) = raw_os_error reason ≡ Some (pos 84)

-- so many bytes were put, and a room of n bytes holds them
abbrev pub IsFront : Option ℕ → ℕ → Type 0
IsFront None n = ⊥
IsFront (Some k) n = k ≤ n
