-- The state (docs/RULES.md, 2 States and who may act): "A transaction is idle, active, committed or aborted."
use Rattle.std.specs.Prelude.{ℕ, ◌+◌, Bool, true, false, ◌||◌, eqb, List, get_or, set, replicate, Option, None, Some}
use Rattle.terms.specs.Limits.{most_transactions}
use Rattle.ties.specs.Operations.{no_ops}
use Rattle.rules.specs.declared.Phase.{Phase}
use Rattle.rules.specs.declared.Phase.TheVariants.{Idle, Active, Committed, Aborted}
use Rattle.rules.specs.declared.Transaction.{Transaction}
use Rattle.rules.specs.declared.State.{State}

-- whose child a transaction is, if anyone's: whoever spawned it, for good
abbrev pub Parent : Type 0
Parent = Option ℕ

abbrev pub is_idle : Phase → Bool
is_idle Idle = true
is_idle Active = false
is_idle Committed = false
is_idle Aborted = false

abbrev pub is_active : Phase → Bool
is_active Idle = false
is_active Active = true
is_active Committed = false
is_active Aborted = false

abbrev pub is_committed : Phase → Bool
is_committed Idle = false
is_committed Active = false
is_committed Committed = true
is_committed Aborted = false

abbrev pub is_aborted : Phase → Bool
is_aborted Idle = false
is_aborted Active = false
is_aborted Committed = false
is_aborted Aborted = true

-- "Idle counts as not ended."
abbrev pub has_ended : Phase → Bool
has_ended p = is_committed p || is_aborted p

abbrev pub idle : Transaction
idle = record { phase = Idle; parent = None }

-- before the first event
abbrev pub empty_state : State
empty_state = record { transactions = replicate most_transactions idle; ops = no_ops }

-- the phase of t; what is no transaction is idle
abbrev pub phase_of : List Transaction → ℕ → Phase
phase_of ts t = (get_or ts t idle).phase

-- the phases of a saga's own transactions, f its first number and n its steps: 0 is S, i is T(i), n + i is C(i)
abbrev pub own : List Transaction → ℕ → ℕ → Phase
own ts f k = phase_of ts (f + k)

-- the transaction in another phase, with whatever else it has
abbrev pub in_phase : Phase → Transaction → Transaction
in_phase p x = record { phase = p; parent = x.parent }

-- t enters a phase
unfoldable pub entered : Phase → ℕ → List Transaction → List Transaction
entered p t ts = set ts t (in_phase p (get_or ts t idle))

-- ---- "one clerk opens helpers' transactions under their own"

-- whose child t is; what is no transaction is nobody's
abbrev pub parent_of : List Transaction → ℕ → Parent
parent_of ts t = (get_or ts t idle).parent

abbrev pub is_child : Parent → Bool
is_child None = false
is_child (Some m) = true

-- a child of m's own, which its own children are not
abbrev pub is_under : ℕ → Parent → Bool
is_under m None = false
is_under m (Some p) = eqb p m

-- "the child becomes active": m spawns t, whose parent it is from then on
unfoldable pub spawned : ℕ → ℕ → List Transaction → List Transaction
spawned m t ts = set ts t (record { phase = Active; parent = Some m })
