-- The record move (document 02, request 5): what is said of each class list, and the one thing to do next for each move. Move i is saga i of the book.
use Rattle.std.specs.Prelude.{ℕ, ◌+◌, ◌-◌, Bool, cond, ◌&&◌, eqb, leb}
use Rattle.std.proofs.Math.Option.{Option, none, some}
use Rattle.terms.specs.declared.Event.{Event}
use Rattle.terms.specs.declared.Event.TheVariants.{Abort, Begin, Commit}
use Rattle.tables.specs.Sorts.{first_of, steps_of}
use Rattle.tables.specs.declared.Tables.{Tables}
use Rattle.rules.specs.States.{is_committed}
use Rattle.rules.specs.declared.State.{State}
use Rattle.closing.specs.Closing.{closing, is_listed, own_of, settled}
use Rattle.closing.specs.declared.NextStep.{NextStep}
use Rattle.closing.specs.declared.NextStep.TheVariants.{NoStep, ToAbort, ToBegin, ToCommit}
use Rattle.moves.specs.declared.ListWord.{ListWord}
use Rattle.moves.specs.declared.ListWord.TheVariants.{Moved, PutBack, StillOpen}
use Rattle.moves.specs.declared.Part.{Part}
use Rattle.moves.specs.declared.Part.TheVariants.{Itself, OfStep, OfUndo}
use Rattle.moves.specs.declared.Todo.{Todo}
use Rattle.moves.specs.declared.Todo.TheVariants.{Aborts, Begins, Commits, Nothing}

-- ---- a class list

-- the move's saga is in the book and committed
abbrev pub saga_committed : Tables → State → ℕ → Bool
saga_committed tables s i = is_listed tables i && is_committed (own_of tables s i 0)

-- '"Moved" must be shown exactly when the list's saga committed, "put back" exactly when that saga was begun, is settled and didn't commit, and
-- "still open" otherwise.' A saga that is settled was begun.
unfoldable pub word_for : Tables → State → ℕ → ListWord
word_for tables s i = cond (saga_committed tables s i) Moved (cond (settled tables s i) PutBack StillOpen)

-- ---- a move

-- which of a move's own transactions this is: S itself, step k, or the undo of step k
abbrev pub part_by : ℕ → ℕ → Part
part_by n k = cond (eqb k 0) Itself (cond (leb k n) (OfStep k) (OfUndo (k - n)))

abbrev pub part_of : Tables → ℕ → ℕ → Part
part_of tables i t = part_by (steps_of tables i) (t - first_of tables i)

abbrev pub todo_by : (ℕ → Part) → NextStep → Todo
todo_by part NoStep = Nothing
todo_by part (ToBegin t) = Begins (part t)
todo_by part (ToCommit t) = Commits (part t)
todo_by part (ToAbort t) = Aborts (part t)

-- "for each move the one thing to do next": the closing step, in the move's own words
unfoldable pub todo_for : Tables → State → ℕ → Todo
todo_for tables s i = todo_by (part_of tables i) (closing tables s i)

-- ---- what it comes to in the book

-- f is S, f + k is step k, f + n + k is the undo of step k
abbrev pub transaction_by : ℕ → ℕ → Part → ℕ
transaction_by f n Itself = f
transaction_by f n (OfStep k) = f + k
transaction_by f n (OfUndo k) = f + (n + k)

-- the event that does it
abbrev pub event_by : ℕ → ℕ → Todo → Option Event
event_by f n Nothing = none
event_by f n (Begins part) = some (Begin (transaction_by f n part))
event_by f n (Commits part) = some (Commit (transaction_by f n part))
event_by f n (Aborts part) = some (Abort (transaction_by f n part))

abbrev pub event_for : Tables → ℕ → Todo → Option Event
event_for tables i todo = event_by (first_of tables i) (steps_of tables i) todo
