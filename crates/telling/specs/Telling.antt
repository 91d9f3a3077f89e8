-- What telling answers. Whether standard output takes what is written no contract can say; a line is named exactly as reading the plan names it.
use Rattle.std.specs.Prelude.{ℕ, ◌≡◌, List, Result, Ok, Err}
use Rattle.plan.specs.Lines.{entries_of}
use Rattle.plan.specs.Reading.{told}
use Rattle.plan.specs.declared.PlanUnread.{PlanUnread}
use Rattle.plan.specs.declared.PlanUnread.TheVariants.{NotUnderstood, NoRoom, TooLong as LongText}
use Rattle.telling.specs.declared.NotTold.{NotTold}
use Rattle.telling.specs.declared.NotTold.TheVariants.{NotUnderstood as NoSense, NotWritten, TooLong}

-- all lines are understood
abbrev pub Understood : List ℕ → Type 0
Understood text = (n : ℕ) → told (entries_of text) ≡ Err (NotUnderstood n) → ⊥

abbrev pub Tells : List ℕ → Result (Unit {0}) NotTold → Type 0
Tells text (Ok whole) = Understood text
Tells text (Err (NotWritten reason)) = Understood text
Tells text (Err (NoSense n)) = told (entries_of text) ≡ Err (NotUnderstood n)
Tells text (Err TooLong) = text ≡ text

-- a plan that was not read is not told
abbrev pub not_told : PlanUnread → NotTold
not_told (NotUnderstood n) = NoSense n
not_told NoRoom = TooLong
not_told LongText = TooLong
