-- What a history is, and that the state is what the history tells (000, 10.2.1 and 10.2.3).
use Rattle.std.specs.Prelude.{ℕ, ◌<◌, ◌≡◌, true, not, ◌↔◌, List, ◌++◌}
use Rattle.terms.specs.declared.Event.{Event}
use Rattle.terms.specs.declared.Verdict.TheVariants.{Accepted}
use Rattle.ties.specs.Operations.{op_at, size}
use Rattle.ties.specs.Ties.{before, on_ring, tied}
use Rattle.tables.specs.declared.Tables.{Tables}
use Rattle.rules.specs.States.{is_aborted, is_active, is_committed, is_idle, parent_of, phase_of}
use Rattle.judge.specs.Judge.{judged}
use Rattle.histories.specs.Histories.{history, reached}
use Rattle.acta.specs.Words.{Happens, OnRing, Precedes, Tied, aborted, began, committed, fate, in_progress, invoked, mark, object, parent, responsible}

-- ★1
pub record IsHistory (tables : Tables) (es : List Event) : Type 0 where
  -- 000, 10.2.1: a history is the events that occurred. Judged again from the start, all of them are accepted again
  pub again : history tables (history tables es) ≡ history tables es
  -- and lead to the same state: refused events may stand anywhere, and leave no trace
  pub state : reached tables (history tables es) ≡ reached tables es
  -- 000, H_ct: every beginning of a history is one
  pub beginnings : (u v : List Event) → history tables es ≡ u ++ v → history tables u ≡ u
  -- each event of it was accepted where those before it lead to
  pub each : (u : List Event) (e : Event) → Happens (history tables es) u e → (judged tables (reached tables u) e).verdict ≡ Accepted

-- ★2, for well-formed tables; h is the history
pub record IsTold (tables : Tables) (es h : List Event) : Type 0 where
  -- 000, 10.2.1: what has not begun is idle, what is in progress active
  pub idle : (t : ℕ) → is_idle (phase_of (reached tables es).transactions t) ≡ not (began h t)
  pub active : (t : ℕ) → is_active (phase_of (reached tables es).transactions t) ≡ in_progress h t
  pub committed_is : (t : ℕ) → is_committed (phase_of (reached tables es).transactions t) ≡ committed h t
  pub aborted_is : (t : ℕ) → is_aborted (phase_of (reached tables es).transactions t) ≡ aborted h t
  -- 000, Spawn: whose child each is
  pub parents : (t : ℕ) → parent_of (reached tables es).transactions t ≡ parent h t
  -- how many operations there are, and of each its object, its mark, its fate and who is responsible for it (000, ResponsibleTr)
  pub count : size (reached tables es).ops ≡ invoked h
  pub objects : (q : ℕ) → q < invoked h → (op_at (reached tables es).ops q).object ≡ object h q
  pub marks : (q : ℕ) → q < invoked h → (op_at (reached tables es).ops q).mark ≡ mark h q
  pub responsibles : (q : ℕ) → q < invoked h → (op_at (reached tables es).ops q).responsible ≡ responsible h q
  pub fates : (q : ℕ) → q < invoked h → (op_at (reached tables es).ops q).fate ≡ fate h q
  -- ★9: 004, section 2, where 000's axioms atomic 6 and saga 11 take operations in progress only: q is tied to every conflicting one not dropped when it came
  pub ties : (p q : ℕ) → (tied (reached tables es).ops p q ≡ true) ↔ Tied h p q
  -- 000, 10.3: whom C sets before whom, and who is on a ring of it
  pub order : (a b : ℕ) → (before (reached tables es).ops a b ≡ true) ↔ Precedes h a b
  pub rings : (t : ℕ) → (on_ring (reached tables es).ops t ≡ true) ↔ OnRing h t
