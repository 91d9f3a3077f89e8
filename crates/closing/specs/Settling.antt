-- What a manager asks: taking the closing steps of a begun saga settles it, in exactly as many steps as the number says; and doing so for
-- all begun sagas in rising order settles them all.
use Rattle.std.specs.Prelude.{ℕ, zero, suc, ◌+◌, ◌≤◌, ◌<◌, ◌≡◌, ◌≢◌, ◌⊎◌, true, List, [], ◌∷◌, ◌++◌, length, Ok}
use Rattle.std.proofs.Math.Option.{Option, none, some}
use Rattle.number.specs.declared.Edition.{Edition}
use Rattle.tables.specs.Accepted.{Well}
use Rattle.tables.specs.Sorts.{first_of, steps_of}
use Rattle.tables.specs.Reading.{tables_by}
use Rattle.tables.specs.declared.Circles.{Circles}
use Rattle.tables.specs.declared.Tables.{Tables}
use Rattle.rules.specs.declared.Phase.TheVariants.{Aborted, Committed, Idle}
use Rattle.terms.specs.declared.Event.{Event}
use Rattle.rules.specs.declared.State.{State}
use Rattle.judge.specs.Judge.{judged}
use Rattle.histories.specs.Histories.{history, reached, run, taken}
use Rattle.closing.specs.Closing.{event_of, own_of, outstanding, closing, settled}
use Rattle.closing.specs.Demand.{all_foreign, back_run, commits_of, whole_run}

-- the next k closing steps of saga i, each judged where the one before it left off
abbrev pub and_on : Option Event → (Event → List Event) → List Event
and_on none go = []
and_on (some e) go = go e

unfoldable pub closing_steps : Tables → ℕ → State → ℕ → List Event
closing_steps tables i s zero = []
closing_steps tables i s (suc k) = and_on (event_of (closing tables s i)) (λ e. e ∷ closing_steps tables i (judged tables s e).state k)

-- all that saga i still owes
abbrev pub close_one : Tables → ℕ → State → List Event
close_one tables i s = closing_steps tables i s (outstanding tables s i)

-- the same for the sagas of index below k, in rising order
unfoldable pub close_all : Tables → State → ℕ → List Event
close_all tables s zero = []
close_all tables s (suc k) = close_all tables s k ++ close_one tables k (run tables s (close_all tables s k))

-- what the sagas of index below k owe together
unfoldable pub owed_below : Tables → State → ℕ → ℕ
owed_below tables s zero = 0
owed_below tables s (suc k) = owed_below tables s k + outstanding tables s k

pub record Settles (tables : Tables) (es : List Event) : Type 0 where
  -- one begun saga: as many steps as the number says, all accepted, and then it is settled
  pub one : (i : ℕ) → i < tables.sagas → own_of tables (reached tables es) i 0 ≢ Idle →
      (length (close_one tables i (reached tables es)) ≡ outstanding tables (reached tables es) i)
      × (taken tables (reached tables es) (close_one tables i (reached tables es)) ≡ close_one tables i (reached tables es))
      × (settled tables (run tables (reached tables es) (close_one tables i (reached tables es))) i ≡ true)
  -- all begun sagas, in rising order: as many steps as all owe together, all accepted, and then every one is settled
  pub sum : length (close_all tables (reached tables es) tables.sagas) ≡ owed_below tables (reached tables es) tables.sagas
  pub all : (taken tables (reached tables es) (close_all tables (reached tables es) tables.sagas) ≡ close_all tables (reached tables es) tables.sagas)
      × ((i : ℕ) → i < tables.sagas → own_of tables (reached tables es) i 0 ≢ Idle →
      settled tables (run tables (reached tables es) (close_all tables (reached tables es) tables.sagas)) i ≡ true)
  -- in rising order: for every k the steps of the sagas below k come before those of all others
  pub rising : (k : ℕ) → k ≤ tables.sagas
      → (front : List Event) × (back : List Event) × (close_all tables (reached tables es) tables.sagas ≡ front ++ back)
      × ((i : ℕ) → k ≤ i → i < tables.sagas → all_foreign (first_of tables i) (steps_of tables i) front ≡ true)
      × ((i : ℕ) → i < k → all_foreign (first_of tables i) (steps_of tables i) back ≡ true)
  -- and no saga owes anything then, begun or not
  pub over : (i : ℕ) → i < tables.sagas → outstanding tables (run tables (reached tables es) (close_all tables (reached tables es) tables.sagas)) i ≡ 0

-- for all well-formed tables
abbrev pub ClosingSettles : Type 0
ClosingSettles = (tables : Tables) → Well tables → (es : List Event) → Settles tables es

-- so for all tables that reading accepts, circles permitted or not
abbrev pub ClosingSettlesRead : Type 0
ClosingSettlesRead = (circles : Circles) (ed : Edition) (s : List ℕ) (at : ℕ) → (tables_by circles ed s).answer ≡ Ok at
    → (es : List Event) → Settles (tables_by circles ed s).tables es

-- ---- what a settled saga has run

pub record SettledRun (tables : Tables) (i : ℕ) : Type 0 where
  -- its commits are exactly T1..Tn, S if it committed, and exactly T1..Tj, Cj..C1 for some j below n if it did not
  pub ran : (es : List Event) → settled tables (reached tables es) i ≡ true
      → ((own_of tables (reached tables es) i 0 ≡ Committed)
      × (commits_of (first_of tables i) (steps_of tables i) (history tables es) ≡ whole_run (first_of tables i) (steps_of tables i)))
      ⊎ ((own_of tables (reached tables es) i 0 ≡ Aborted)
      × ((j : ℕ) × (j < steps_of tables i) × (commits_of (first_of tables i) (steps_of tables i) (history tables es) ≡ back_run (first_of tables i) (steps_of tables i) j)))
  -- it stays settled, whatever events follow
  pub stays : (es fs : List Event) → settled tables (reached tables es) i ≡ true → settled tables (run tables (reached tables es) fs) i ≡ true

abbrev pub SettledRuns : Type 0
SettledRuns = (tables : Tables) → Well tables → (i : ℕ) → i < tables.sagas → SettledRun tables i
