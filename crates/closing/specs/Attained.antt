-- Both runs are attained: where no dependency is declared, every saga can be run to its end, and can be put back after every step but the last.
use Rattle.std.specs.Prelude.{ℕ, ◌<◌, ◌≡◌, true, List}
use Rattle.tables.specs.Accepted.{Well}
use Rattle.tables.specs.Counts.{dependency_count}
use Rattle.tables.specs.Sorts.{first_of, steps_of}
use Rattle.tables.specs.declared.Tables.{Tables}
use Rattle.terms.specs.declared.Event.{Event}
use Rattle.histories.specs.Histories.{history, reached}
use Rattle.closing.specs.Closing.{settled}
use Rattle.closing.specs.Demand.{back_run, commits_of, whole_run}

-- there are events, all of them accepted, after which saga i is settled and its commits are these
pub record Attained (tables : Tables) (i : ℕ) (commits : List ℕ) : Type 0 where
  pub events : List Event
  pub accepted : history tables events ≡ events
  pub commits_are : commits_of (first_of tables i) (steps_of tables i) (history tables events) ≡ commits
  pub settles : settled tables (reached tables events) i ≡ true

pub record RunsAttained (tables : Tables) (i : ℕ) : Type 0 where
  -- T1..Tn, S
  pub whole : Attained tables i (whole_run (first_of tables i) (steps_of tables i))
  -- T1..Tj, Cj..C1, for every j below n
  pub back : (j : ℕ) → j < steps_of tables i → Attained tables i (back_run (first_of tables i) (steps_of tables i) j)

abbrev pub BothAttained : Type 0
BothAttained = (tables : Tables) → Well tables → dependency_count tables ≡ 0 → (i : ℕ) → i < tables.sagas → RunsAttained tables i
