-- What is promised of the record move.
use Rattle.std.specs.Prelude.{ℕ, ◌+◌, ◌≤◌, ◌<◌, ◌≡◌, true, ◌↔◌, ◌≢◌, Ok, Err, List, get_or, length}
use Rattle.std.proofs.Math.Option.{some}
use Rattle.terms.specs.Limits.{most_bytes}
use Rattle.terms.specs.declared.Event.{Event}
use Rattle.terms.specs.declared.Refusal.{Refusal}
use Rattle.terms.specs.declared.Verdict.TheVariants.{Accepted, Refused}
use Rattle.tables.specs.Reading.{tables_by, edition_of}
use Rattle.tables.specs.declared.Circles.TheVariants.{Forbidden}
use Rattle.tables.specs.declared.Tables.{Tables}
use Rattle.rules.specs.declared.Phase.TheVariants.{Committed, Idle}
use Rattle.rules.specs.declared.State.{State}
use Rattle.judge.specs.Judge.{judged}
use Rattle.closing.specs.Closing.{closing, event_of, is_listed, outstanding, own_of, settled}
use Rattle.left.specs.Left.{left_in}
use Rattle.plan.specs.Verdict.{plan_verdict}
use Rattle.plan.specs.declared.PlanRefusal.{PlanRefusal}
use Rattle.onward.specs.Onward.{judgement_of}
use Rattle.onward.specs.declared.Judgement.{Judgement}
use Rattle.listing.specs.Lines.{line_of}
use Rattle.moves.specs.Lines.{left_line, list_line, move_line, plan_line, said_line, said_lines}
use Rattle.moves.specs.Moves.{event_for, todo_for, word_for}
use Rattle.moves.specs.declared.ListWord.TheVariants.{Moved, PutBack, StillOpen}
use Rattle.moves.specs.declared.Todo.TheVariants.{Nothing}

-- the saga of index i is in the book, and S is committed
pub record HasCommitted (tables : Tables) (s : State) (i : ℕ) : Type 0 where
  pub listed : is_listed tables i ≡ true
  pub committed : own_of tables s i 0 ≡ Committed

-- the saga of index i is in the book, was begun, is settled and did not commit
pub record BackedOut (tables : Tables) (s : State) (i : ℕ) : Type 0 where
  pub listed : is_listed tables i ≡ true
  pub begun : own_of tables s i 0 ≢ Idle
  pub settled : settled tables s i ≡ true
  pub not_committed : HasCommitted tables s i → ⊥

-- one of three words, and never two: each exactly when its sentence holds
pub record Words (tables : Tables) (s : State) (i : ℕ) : Type 0 where
  pub moved : (word_for tables s i ≡ Moved) ↔ HasCommitted tables s i
  pub put_back : (word_for tables s i ≡ PutBack) ↔ BackedOut tables s i
  pub still_open : (word_for tables s i ≡ StillOpen) ↔ ((HasCommitted tables s i → ⊥) × (BackedOut tables s i → ⊥))

-- the thing to do next, in a state
pub record NextThing (tables : Tables) (s : State) (i : ℕ) : Type 0 where
  -- it is the closing step of that saga
  pub closes : event_for tables i (todo_for tables s i) ≡ event_of (closing tables s i)
  -- there is none exactly when the move owes nothing
  pub nothing : (todo_for tables s i ≡ Nothing) ↔ (outstanding tables s i ≡ 0)
  -- done as the next event it is accepted, and the move owes one less
  pub accepted : (e : Event) → event_for tables i (todo_for tables s i) ≡ some e → (judged tables s e).verdict ≡ Accepted
  pub lowers : (e : Event) → event_for tables i (todo_for tables s i) ≡ some e → outstanding tables (judged tables s e).state i + 1 ≡ outstanding tables s i

-- what is said of a plan and the judgement of a book
pub record Said (names ends steps lists : List ℕ) (r : Judgement) : Type 0 where
  -- where the plan is refused that is all that is said, and else where the book is refused
  pub plan_first : (x : PlanRefusal) → plan_verdict names ends steps lists ≡ Err x
      → (said_lines names ends steps lists r ≡ 1) × ((k : ℕ) → said_line names ends steps lists r k ≡ plan_line x)
  pub book_next : plan_verdict names ends steps lists ≡ Ok tt → (x : Refusal) → r.answer ≡ Refused x
      → (said_lines names ends steps lists r ≡ 1) × ((k : ℕ) → said_line names ends steps lists r k ≡ line_of r 0)
  -- else a line that says how much is left, one for each list, and behind them one for each move, and nothing is cut off
  pub all_told : plan_verdict names ends steps lists ≡ Ok tt → r.answer ≡ Accepted → said_lines names ends steps lists r ≡ 1 + (length lists + length steps)
  pub left_told : plan_verdict names ends steps lists ≡ Ok tt → r.answer ≡ Accepted → said_line names ends steps lists r 0 ≡ left_line (left_in r.tables r.state)
  pub lists_told : plan_verdict names ends steps lists ≡ Ok tt → r.answer ≡ Accepted → (j : ℕ) → j < length lists
      → said_line names ends steps lists r (1 + j) ≡ list_line names ends steps j (word_for r.tables r.state (get_or lists j 0))
  pub moves_told : plan_verdict names ends steps lists ≡ Ok tt → r.answer ≡ Accepted → (i : ℕ)
      → said_line names ends steps lists r (1 + (length lists + i)) ≡ move_line names ends steps i (todo_for r.tables r.state i)

pub record MovePromises : Type 0 where
  -- of any state
  pub words : (tables : Tables) (s : State) (i : ℕ) → Words tables s i
  -- of every book whose tables are accepted, and every saga in it
  pub next : (s : List ℕ) (at : ℕ) → length s ≤ most_bytes → (tables_by Forbidden (edition_of s) s).answer ≡ Ok at
      → (i : ℕ) → is_listed (judgement_of s).tables i ≡ true → NextThing (judgement_of s).tables (judgement_of s).state i
  -- of any plan and any judgement
  pub said : (names ends steps lists : List ℕ) (r : Judgement) → Said names ends steps lists r
