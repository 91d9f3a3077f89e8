-- Accepted histories are histories of the saga model: all axioms together, for all well-formed tables and any events, refused ones dropped.
use Rattle.std.specs.Prelude.{◌≡◌, ℕ, ◌<◌, List, Ok}
use Rattle.number.specs.declared.Edition.{Edition}
use Rattle.terms.specs.declared.Event.{Event}
use Rattle.terms.specs.declared.Mark.{Mark}
use Rattle.tables.specs.Accepted.{Well}
use Rattle.tables.specs.Reading.{tables_by}
use Rattle.tables.specs.Sorts.{first_of, steps_of}
use Rattle.tables.specs.declared.Circles.{Circles}
use Rattle.tables.specs.declared.Tables.{Tables}
use Rattle.histories.specs.Histories.{history}
use Rattle.acta.specs.Accepting.{Accepting, Unlocked}
use Rattle.acta.specs.Awaiting.{InTurn}
use Rattle.acta.specs.ByTheLetter.{ByTheLetter}
use Rattle.acta.specs.Completing.{Complete, Completed, NeverStuck}
use Rattle.acta.specs.Delegating.{AsIf, Delegation, Endings, given_at_once}
use Rattle.acta.specs.Depending.{Depending, Transitive}
use Rattle.acta.specs.Frame.{LeavesOthers}
use Rattle.acta.specs.Fundamental.{Fundamental, Sorts}
use Rattle.acta.specs.Nesting.{Nesting}
use Rattle.acta.specs.Objects.{ConflictSerializable, OffRings, Recoverable}
use Rattle.acta.specs.SagaLemmas.{SagaLemmas, WordsAttained}
use Rattle.acta.specs.SagaWords.{SagaRun}
use Rattle.acta.specs.Structure.{Structure}
use Rattle.acta.specs.Told.{IsHistory, IsTold}
use Rattle.acta.specs.Undos.{UndosPass}

pub record Axioms (tables : Tables) (es : List Event) : Type 0 where
  -- ★1, ★2 and ★9: what a history is, and that the state is what it tells
  pub is_history : IsHistory tables es
  pub is_told : IsTold tables es (history tables es)
  -- ★3, ★4 and ★6: the fundamental axioms, the sorts, the declared dependencies
  pub fundamental : Fundamental (history tables es)
  pub sorts : Sorts tables (history tables es)
  pub depending : Depending tables (history tables es)
  -- ★5: each saga's own events are a beginning of one of 1 + 3n words
  pub saga_runs : (i : ℕ) → i < tables.sagas → SagaRun tables (history tables es) i
  -- and what those say: Lemmas 10.1 and 10.2, Theorem 10.1, 18 to 21, and the order of its commits
  pub saga_lemmas : (i : ℕ) → i < tables.sagas → SagaLemmas (first_of tables i) (steps_of tables i) (history tables es)
  -- and each of those words is attained
  pub words_attained : (i : ℕ) → i < tables.sagas → WordsAttained tables i
  -- ★6, those of the saga's structure
  pub structure : Structure tables (history tables es)
  -- ★7 and ★8: operations and delegation
  pub endings : Endings tables (history tables es)
  pub delegation : Delegation tables (history tables es)
  -- ★10, ★11 and ★12: atomic objects and serializability
  pub off_rings : OffRings (history tables es)
  pub recoverable : Recoverable (history tables es)
  pub serializable : ConflictSerializable (history tables es)
  -- children
  pub nesting : Nesting (history tables es)
  -- ★13: nobody is stuck, and every history can be completed
  pub never_stuck : NeverStuck tables (history tables es)
  pub completed : Completed tables (history tables es)
  -- ★14: a complete one meets the formulas by the letter
  pub by_the_letter : Complete tables (history tables es) → ByTheLetter tables (history tables es)
  -- ★15: nothing else is refused
  pub accepting : Accepting tables (history tables es)
  -- undos get through; an event leaves what is others' as it was
  pub undos_pass : UndosPass tables (history tables es)
  pub frame : LeavesOthers (history tables es)
  -- AD is transitive, and so is waiting to begin
  pub transitive : Transitive tables (history tables es)
  -- what waits for itself never happens
  pub in_turn : InTurn tables (history tables es)
  -- nothing is hidden and nothing locked
  pub unlocked : Unlocked tables (history tables es)
  -- a delegated operation is as if the receiver had performed it
  pub as_if : (t r o : ℕ) (m : Mark) → history tables (given_at_once (history tables es) t r o m) ≡ given_at_once (history tables es) t r o m → AsIf tables (history tables es) t r o m

abbrev pub Acta : Type 0
Acta = (tables : Tables) → Well tables → (es : List Event) → Axioms tables es

-- so for all tables that reading accepts, circles permitted or not
abbrev pub ActaRead : Type 0
ActaRead = (circles : Circles) (ed : Edition) (s : List ℕ) (at : ℕ) → (tables_by circles ed s).answer ≡ Ok at → (es : List Event) → Axioms (tables_by circles ed s).tables es
