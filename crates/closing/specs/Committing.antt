-- What ties can never bar: the commit of an active undo, and that of S once its last step is committed.
use Rattle.std.specs.Prelude.{ℕ, ◌≡◌, true, false, List, Ok}
use Rattle.terms.specs.declared.Event.{Event}
use Rattle.terms.specs.declared.Event.TheVariants.{Commit}
use Rattle.terms.specs.declared.Verdict.TheVariants.{Accepted}
use Rattle.number.specs.declared.Edition.{Edition}
use Rattle.ties.specs.Ties.{dirty, on_ring}
use Rattle.tables.specs.Reading.{tables_by}
use Rattle.tables.specs.Sorts.{is_saga, sort_of}
use Rattle.tables.specs.declared.Circles.{Circles}
use Rattle.tables.specs.declared.Tables.{Tables}
use Rattle.rules.specs.Rules.{active_undo}
use Rattle.judge.specs.Judge.{judged}
use Rattle.rules.specs.Rules.{commit_barred}
use Rattle.rules.specs.States.{is_active, phase_of}
use Rattle.histories.specs.Histories.{reached}

pub record Commits (tables : Tables) (es : List Event) : Type 0 where
  -- "So that an undo can always commit": an active undo's commit is accepted
  pub undo : (u : ℕ) → active_undo tables (reached tables es).transactions u ≡ true → (judged tables (reached tables es) (Commit u)).verdict ≡ Accepted
  -- an active S is barred by nothing but its steps: no dependency, no dirty read, no ring
  pub saga : (t : ℕ) → is_saga (sort_of tables t) ≡ true → is_active (phase_of (reached tables es).transactions t) ≡ true
      → commit_barred (reached tables es).transactions (sort_of tables t) ≡ false → (judged tables (reached tables es) (Commit t)).verdict ≡ Accepted
  -- nothing is ever S's, so it has no dirty read and is on no ring; nor has or is an active undo
  pub saga_free : (t : ℕ) → is_saga (sort_of tables t) ≡ true → (dirty (reached tables es).ops t ≡ false) × (on_ring (reached tables es).ops t ≡ false)
  pub undo_free : (u : ℕ) → active_undo tables (reached tables es).transactions u ≡ true
      → (dirty (reached tables es).ops u ≡ false) × (on_ring (reached tables es).ops u ≡ false)

-- for all tables that reading accepts, and whatever the events
abbrev pub AlwaysCommits : Type 0
AlwaysCommits = (circles : Circles) (ed : Edition) (s : List ℕ) (at : ℕ) → (tables_by circles ed s).answer ≡ Ok at
    → (es : List Event) → Commits (tables_by circles ed s).tables es
