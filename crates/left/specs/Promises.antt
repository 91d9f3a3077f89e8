-- What is promised of the sum that is kept, for all well-formed tables.
use Rattle.std.specs.Prelude.{ℕ, ◌≤◌, ◌≡◌, true, List, Ok}
use Rattle.terms.specs.Limits.{most_transactions}
use Rattle.terms.specs.declared.Event.{Event}
use Rattle.terms.specs.declared.Refusal.{Refusal}
use Rattle.terms.specs.declared.Verdict.TheVariants.{Refused}
use Rattle.number.specs.declared.Edition.{Edition}
use Rattle.tables.specs.Accepted.{Well}
use Rattle.tables.specs.Reading.{tables_by}
use Rattle.tables.specs.Sorts.{first_of, steps_of}
use Rattle.tables.specs.declared.Circles.{Circles}
use Rattle.tables.specs.declared.Tables.{Tables}
use Rattle.rules.specs.States.{empty_state}
use Rattle.rules.specs.declared.State.{State}
use Rattle.judge.specs.Judge.{judged}
use Rattle.histories.specs.Histories.{next, reached, run}
use Rattle.closing.specs.Closing.{outstanding}
use Rattle.closing.specs.Demand.{foreign}
use Rattle.left.specs.Left.{left_after, left_in, left_then}

-- an event changes the number of no saga but the one that owns the transaction it begins or ends, in any state
abbrev pub NoOther : Type 0
NoOther = (tables : Tables) → Well tables → (s : State) (e : Event) (i : ℕ) → foreign (first_of tables i) (steps_of tables i) e ≡ true
    → outstanding tables (next tables s e) i ≡ outstanding tables s i

pub record KeepsSum (tables : Tables) : Type 0 where
  -- before the first event nothing is left
  pub start : left_in tables empty_state ≡ 0
  -- an event moves the sum of any state to the sum of the next, and a refused event leaves it
  pub event : (s : State) (e : Event) → left_then tables s (left_in tables s) e ≡ left_in tables (next tables s e)
  pub refused : (s : State) (e : Event) (r : Refusal) → (judged tables s e).verdict ≡ Refused r → left_then tables s (left_in tables s) e ≡ left_in tables s
  -- "After any sequence of events it equals the sum worked out from the definition, also after refused events."
  pub always : (es : List Event) → left_after tables empty_state 0 es ≡ left_in tables (reached tables es)
  -- also for a board that is switched on later
  pub later : (s : State) (es : List Event) → left_after tables s (left_in tables s) es ≡ left_in tables (run tables s es)
  -- no more than there may be transactions
  pub most : (s : State) → left_in tables s ≤ most_transactions

abbrev pub SumKept : Type 0
SumKept = (tables : Tables) → Well tables → KeepsSum tables

-- so for all tables that reading accepts, circles permitted or not
abbrev pub SumKeptRead : Type 0
SumKeptRead = (circles : Circles) (ed : Edition) (s : List ℕ) (at : ℕ) → (tables_by circles ed s).answer ≡ Ok at → KeepsSum (tables_by circles ed s).tables
