-- The state that lent numbers stand for: one number for each transaction, one for each operation, and how many operations there are.
use Rattle.std.specs.Prelude.{ℕ, ◌<◌, ◌≡◌, true, List, length}
use Rattle.terms.specs.Limits.{most_transactions}
use Rattle.cells.specs.Cells.{WholeOps, fits, ops_in}
use Rattle.rules.specs.Lent.{transactions_in}
use Rattle.rules.specs.declared.State.{State}
use Rattle.judge.specs.declared.Change.{Change}
use Rattle.judge.specs.declared.Change.TheVariants.{Nothing, Enters, Ends, EndsOne, Makes, Gives, Hands, Spawns}

abbrev pub state_in : List ℕ → List ℕ → ℕ → State
state_in transactions ops n = record { transactions = transactions_in transactions; ops = ops_in ops n }

-- a state with a place for each of the 64 transactions, and whole operations: every state that a book leads to
abbrev pub Whole : State → Type 0
Whole s = (length s.transactions ≡ most_transactions) × WholeOps s.ops

-- a change that lent numbers can take: every change of an accepted event is one
abbrev pub Fitting : Change → Type 0
Fitting Nothing = Unit {0}
Fitting (Enters t p) = Unit {0}
Fitting (Ends t p fate) = Unit {0}
Fitting (EndsOne q fate) = Unit {0}
Fitting (Makes op) = fits op ≡ true
Fitting (Gives q r) = r < most_transactions
Fitting (Hands t m) = m < most_transactions
Fitting (Spawns m c) = m < most_transactions
