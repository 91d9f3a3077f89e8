-- What is promised of any run of events, said of books: of every book whose tables are accepted, and of every saga in it; and a closing step written behind
-- the accepted opening.
use Rattle.std.specs.Prelude.{ℕ, ◌+◌, ◌*◌, ◌≤◌, ◌<◌, ◌≡◌, List, [], ◌∷◌, ◌++◌, length, Ok}
use Rattle.terms.specs.Limits.{most_bytes}
use Rattle.terms.specs.declared.Verdict.TheVariants.{Accepted}
use Rattle.number.specs.declared.Edition.{Edition}
use Rattle.tables.specs.Reading.{tables_by}
use Rattle.tables.specs.declared.Circles.{Circles}
use Rattle.histories.specs.Families.{Families}
use Rattle.histories.specs.May.{AcceptedWhen}
use Rattle.histories.specs.Promises.{AnyRun}
use Rattle.closing.specs.Closing.{closing, outstanding}
use Rattle.closing.specs.Committing.{Commits}
use Rattle.closing.specs.Demand.{Demand}
use Rattle.closing.specs.Settling.{Settles}
use Rattle.closing.specs.declared.NextStep.{NextStep}
use Rattle.closing.specs.declared.NextStep.TheVariants.{NoStep, ToBegin, ToCommit, ToAbort}
use Rattle.book.specs.Demands.{events_of}
use Rattle.book.specs.Reading.{reading_by}

-- ---- the history of a book (`ReadsRun` joins it to what reading returns)

pub record Kept (circles : Circles) (ed : Edition) (s : List ℕ) (at : ℕ) : Type 0 where
  pub any_run : AnyRun (tables_by circles ed s).tables (events_of circles ed s at)
  pub families : Families (tables_by circles ed s).tables (events_of circles ed s at)
  pub when : AcceptedWhen (tables_by circles ed s).tables (events_of circles ed s at)
  pub commits : Commits (tables_by circles ed s).tables (events_of circles ed s at)
  pub settles : Settles (tables_by circles ed s).tables (events_of circles ed s at)
  pub demand : (i : ℕ) → i < (tables_by circles ed s).tables.sagas → Demand (tables_by circles ed s).tables i

abbrev pub BooksKept : Type 0
BooksKept = (circles : Circles) (ed : Edition) (s : List ℕ) (at : ℕ) → (tables_by circles ed s).answer ≡ Ok at → Kept circles ed s at

-- ---- a closing step in bytes

abbrev pub step_bytes : NextStep → List ℕ
step_bytes NoStep = []
step_bytes (ToBegin t) = 1 ∷ t ∷ []
step_bytes (ToCommit t) = 2 ∷ t ∷ []
step_bytes (ToAbort t) = 3 ∷ t ∷ []

-- what saga i owes after a book
abbrev pub owed_after : Circles → Edition → List ℕ → ℕ → ℕ
owed_after circles ed s i = outstanding (reading_by circles ed s).tables (reading_by circles ed s).state i

abbrev pub step_after : Circles → Edition → List ℕ → ℕ → List ℕ
step_after circles ed s i = step_bytes (closing (reading_by circles ed s).tables (reading_by circles ed s).state i)

-- a book that is accepted whole, with the closing step of saga i behind it: two bytes, accepted whole again, one event more, and one less is owed
pub record Behind (circles : Circles) (ed : Edition) (s : List ℕ) (i : ℕ) : Type 0 where
  pub two : length (step_after circles ed s i) ≡ 2
  pub accepted : (reading_by circles ed (s ++ step_after circles ed s i)).answer ≡ Accepted
  pub events : (reading_by circles ed (s ++ step_after circles ed s i)).events ≡ (reading_by circles ed s).events + 1
  pub tables : (reading_by circles ed (s ++ step_after circles ed s i)).tables ≡ (reading_by circles ed s).tables
  pub owes : owed_after circles ed (s ++ step_after circles ed s i) i + 1 ≡ owed_after circles ed s i

-- if the two bytes fit
abbrev pub ClosingBehind : Type 0
ClosingBehind =
    (circles : Circles) (ed : Edition) (s : List ℕ) → (reading_by circles ed s).answer ≡ Accepted → length s + 2 ≤ most_bytes
    → (i : ℕ) → i < (reading_by circles ed s).tables.sagas → 0 < owed_after circles ed s i → Behind circles ed s i

-- a book with twice the outstanding bytes free can be closed whole for saga i: some bytes behind it, two for each step, and nothing is owed
pub record ClosedWhole (circles : Circles) (ed : Edition) (s : List ℕ) (i : ℕ) : Type 0 where
  pub rest : List ℕ
  pub long : length rest ≡ 2 * owed_after circles ed s i
  pub accepted : (reading_by circles ed (s ++ rest)).answer ≡ Accepted
  pub nothing : owed_after circles ed (s ++ rest) i ≡ 0

abbrev pub ClosesWhole : Type 0
ClosesWhole =
    (circles : Circles) (ed : Edition) (s : List ℕ) → (reading_by circles ed s).answer ≡ Accepted
    → (i : ℕ) → i < (reading_by circles ed s).tables.sagas → length s + 2 * owed_after circles ed s i ≤ most_bytes → ClosedWhole circles ed s i
