-- What a number stands for as a transaction. From the low end: its phase, and whose child it is; the rest is left as it is. Every number stands for one; 0 is idle, and
-- nobody's child.
use Rattle.std.specs.Prelude.{ℕ, ◌+◌, ◌-◌, ◌*◌, ◌/◌, ◌%◌, Bool, true, cond, List, map, eqb, ltb, set, take, None, Some}
use Rattle.terms.specs.Limits.{most_transactions}
use Rattle.rules.specs.declared.Phase.{Phase}
use Rattle.rules.specs.declared.Phase.TheVariants.{Idle, Active, Committed, Aborted}
use Rattle.rules.specs.States.{Parent}
use Rattle.rules.specs.declared.Transaction.{Transaction}
use Rattle.rules.specs.States.{spawned}

abbrev pub phase_by : ℕ → Phase
phase_by k = cond (eqb k 0) Idle (cond (eqb k 1) Active (cond (eqb k 2) Committed Aborted))

abbrev pub phase_in : ℕ → Phase
phase_in c = phase_by (c % 4)

abbrev pub phase_code : Phase → ℕ
phase_code Idle = 0
phase_code Active = 1
phase_code Committed = 2
phase_code Aborted = 3

-- the number in another phase, with whatever else it has
abbrev pub with_phase : Phase → ℕ → ℕ
with_phase p c = c / 4 * 4 + phase_code p

-- 0 is nobody, and every other number one more than the parent's
abbrev pub parent_by : ℕ → Parent
parent_by k = cond (eqb k 0) None (Some (k - 1))

abbrev pub parent_in : ℕ → Parent
parent_in c = parent_by (c / 4 % 128)

-- the number of an active child of m's, with whatever else it has
abbrev pub under_in : ℕ → ℕ → ℕ
under_in m c = c / 512 * 512 + (m + 1) * 4 + 1

abbrev pub parent_code : Parent → ℕ
parent_code None = 0
parent_code (Some m) = m + 1

-- a number can stand for a child of this parent
abbrev pub parent_fits : Parent → Bool
parent_fits None = true
parent_fits (Some m) = ltb m most_transactions

-- the number of a transaction, with nothing else
abbrev pub cell_of : Transaction → ℕ
cell_of x = parent_code x.parent * 4 + phase_code x.phase

abbrev pub transaction_in : ℕ → Transaction
transaction_in c = record { phase = phase_in c; parent = parent_in c }

-- the transactions that numbers stand for: no more than a book has
unfoldable pub transactions_in : List ℕ → List Transaction
transactions_in cells = take most_transactions (map transaction_in cells)

-- one spawned; what is no transaction spawns none
abbrev pub spawned_in : ℕ → ℕ → List Transaction → List Transaction
spawned_in m t ts = cond (ltb m most_transactions) (spawned m t ts) ts

-- t stands as x; what no number can stand for is not put
abbrev pub put_in : ℕ → Transaction → List Transaction → List Transaction
put_in t x ts = cond (parent_fits x.parent) (set ts t x) ts
