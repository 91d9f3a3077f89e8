-- Demand 3, said of books: of the state to which each way of reading comes.
use Rattle.std.specs.Prelude.{ℕ, ◌*◌, ◌≤◌, ◌<◌, ◌≡◌, true, ◌↔◌, ◌≢◌, ◌⊎◌, List, length, Ok}
use Rattle.terms.specs.Limits.{most_bytes}
use Rattle.terms.specs.declared.Event.{Event}
use Rattle.number.specs.declared.Edition.{Edition}
use Rattle.items.specs.Items.{items_after}
use Rattle.tables.specs.Reading.{tables_by}
use Rattle.tables.specs.Sorts.{first_of, steps_of}
use Rattle.tables.specs.declared.Circles.{Circles}
use Rattle.tables.specs.declared.Tables.{Tables}
use Rattle.rules.specs.declared.Phase.TheVariants.{Idle}
use Rattle.rules.specs.declared.State.{State}
use Rattle.histories.specs.Histories.{history, reached, run}
use Rattle.closing.specs.Closing.{outstanding, own_of, settled}
use Rattle.closing.specs.Demand.{Beginning, Closes, all_foreign, back_run, commits_of, whole_run}
use Rattle.book.specs.Demands.{events_of}
use Rattle.book.specs.Reading.{reading_by}
use Rattle.onward.specs.Onward.{events_in, judgement_by}

-- saga i after these events, refused ones dropped, where they lead to this state
pub record SagaThere (tables : Tables) (es : List Event) (s : State) (i : ℕ) : Type 0 where
  pub led_to : s ≡ reached tables es
  -- its commits in order
  pub order : Beginning (commits_of (first_of tables i) (steps_of tables i) (history tables es)) (whole_run (first_of tables i) (steps_of tables i))
      ⊎ ((j : ℕ)
      × (j < steps_of tables i)
      × Beginning (commits_of (first_of tables i) (steps_of tables i) (history tables es)) (back_run (first_of tables i) (steps_of tables i) j))
  -- a number at most 2n, 0 exactly when settled
  pub bounded : outstanding tables s i ≤ 2 * steps_of tables i
  pub zero : own_of tables s i 0 ≢ Idle → (outstanding tables s i ≡ 0) ↔ (settled tables s i ≡ true)
  -- above 0 a closing step that is accepted, also after others' events, and lowers the number by one
  pub closes : (others : List Event) → all_foreign (first_of tables i) (steps_of tables i) others ≡ true → 0 < outstanding tables s i
      → Closes tables i s (run tables s others)

-- each saga of a book whose tables are accepted, in both ways
pub record SagasOfBook (circles : Circles) (ed : Edition) (s : List ℕ) (at i : ℕ) : Type 0 where
  pub read_on : SagaThere (tables_by circles ed s).tables (events_in (items_after ed s at)) (judgement_by circles ed s).state i
  pub to_first_refusal : SagaThere (tables_by circles ed s).tables (events_of circles ed s at) (reading_by circles ed s).state i

abbrev pub Demand3Books : Type 0
Demand3Books =
    (circles : Circles) (ed : Edition) (s : List ℕ) (at : ℕ) → length s ≤ most_bytes → (tables_by circles ed s).answer ≡ Ok at
    → (i : ℕ) → i < (tables_by circles ed s).tables.sagas → SagasOfBook circles ed s at i
