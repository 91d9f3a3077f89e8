-- An accepted event of one of the saga's own transactions is a move.
use Prim.Native.Nat.{ℕ, ◌+◌, ◌-◌, ◌*◌, ◌≤◌, ◌<◌}
use native.Mathlib.Omega.{arith}
use mathlib.Core.Path.{◌≡◌, refl, ap, ◌∙◌}
use mathlib.Core.Bool.{false, not, ◌||◌}
use lib.Dec.{ltb, leb}
use borrow.Author.Tests.{ltb-true, lt-leb}
use Rattle.laws.proofs.Bools.{clash, off-not, on_and, on-not, or-rest}
use Rattle.laws.proofs.Decisions.{by_place}
use Rattle.tables.specs.Sorts.{first_of, is_plain, sort_of, steps_of}
use Rattle.tables.specs.declared.Sort.TheVariants.{Saga as SagaItself}
use Rattle.tables.specs.declared.Tables.{Tables}
use Rattle.tables.proofs.SagaLaws.{sort-saga, sort-step, sort-undo}
use Rattle.rules.specs.Rules.{step_begins, undo_begins, undone}
use Rattle.rules.specs.States.{is_aborted, is_active, is_committed, own}
use Rattle.terms.specs.declared.Event.{Event}
use Rattle.terms.specs.declared.Event.TheVariants.{Abort, Begin, Commit}
use Rattle.rules.specs.declared.Phase.{Phase}
use Rattle.rules.specs.declared.Phase.TheVariants.{Aborted, Committed}
use Rattle.rules.specs.declared.State.{State}
use Rattle.rules.proofs.PhaseLaws.{aborted_is, active-is, active-not, code-inj, committed_is, committed-not}
use Rattle.histories.proofs.Steps.{Ending, Entering}
use Rattle.ties.specs.declared.Fate.TheVariants.{Aborted as FateAborted, Committed as FateCommitted}
use Rattle.closing.proofs.Moves.{Move, abort-saga, abort_step, begin-saga, begin-step, begin_undo, commit-saga, commit-step, commit_undo, moved_at, moved_to}
use Rattle.closing.proofs.OutstandingLaws.{move_event}

-- a move at k to c, whose event is e
pub record Moves (f n : ℕ) (P : ℕ → Phase) (k c : ℕ) (e : Event) : Type 0 where
  pub move : Move n P
  pub at : moved_at move ≡ k
  pub to : moved_to move ≡ c
  pub event : e ≡ move_event f move

module _ (tables : Tables) (i : ℕ) (s : State) where
  abbrev f : ℕ
  f = first_of tables i

  abbrev n : ℕ
  n = steps_of tables i

  abbrev P : ℕ → Phase
  P = own s.transactions f

  pub f0 : f + 0 ≡ f
  f0 = omega arith

  -- S is the first of its own
  pub sort-first : 1 ≤ n → sort_of tables (f + 0) ≡ SagaItself f n
  sort-first h = ap (sort_of tables) f0 ∙ sort-saga tables i h

  -- none of them is plain
  pub own-not-plain : 1 ≤ n → (k : ℕ) → k < 2 * n → is_plain (sort_of tables (f + k)) ≡ false
  own-not-plain 1≤n =
      by_place (λ k. is_plain (sort_of tables (f + k)) ≡ false) n (λ z. rw (sort-first 1≤n)) (λ k a b. rw (sort-step tables i k a b)) (λ j a b. rw (sort-undo tables i j a b))

  pub begin-own : 1 ≤ n → (k : ℕ) → k < 2 * n → Entering tables s (f + k) → Moves f n P k 1 (Begin (f + k))
  begin-own 1≤n =
      by_place
      (λ k. Entering tables s (f + k) → Moves f n P k 1 (Begin (f + k)))
      n
      (λ z off.
      record {
        move = begin-saga off.idle;
        at = refl;
        to = refl;
        event = ap {B = Event} Begin f0;
      })
      (λ k a b off.
      let r = rw (sort-step tables i k a b) at off.rule in
      let t = on_and (is_active (P 0)) (leb k 1 || is_committed (P (k - 1))) (off-not (step_begins P k) r) in
      record {
        move =
            begin-step
            k
            a
            b
            off.idle
            (active-is (P 0) t.0)
            (λ l. committed_is (P (k - 1)) (or-rest (leb k 1) (is_committed (P (k - 1))) t.1 (lt-leb k 1 l)));
        at = refl;
        to = refl;
        event = refl;
      })
      (λ j a b off.
      let r = rw (sort-undo tables i j a b) at off.rule in
      let t = on_and (is_aborted (P 0)) _ (off-not (undo_begins n P j) r) in
      let u = on_and (is_committed (P j)) _ t.1 in
      let v = on_and (not (is_active (P (j + 1)))) (not (is_committed (P (j + 1))) || undone n P (j + 1)) u.1 in
      record {
        move =
            begin_undo
            j
            a
            b
            off.idle
            (aborted_is (P 0) t.0)
            (committed_is (P j) u.0)
            (active-not (P (j + 1)) (on-not (is_active (P (j + 1))) v.0))
            (λ c.
            let w =
            on_and
            (ltb (j + 1) n)
            (is_committed (P (n + (j + 1))))
            (or-rest
            (not (is_committed (P (j + 1))))
            (undone n P (j + 1))
            v.1
            (ap (λ (p : Phase). not (is_committed p)) (code-inj (P (j + 1)) Committed c)))
            in
            (ltb-true (j + 1) n w.0, committed_is (P (n + (j + 1))) w.1));
        at = refl {a = n + j};
        to = refl;
        event = refl {a = Begin (f + (n + j))};
      })

  pub commit-own : 1 ≤ n → (k : ℕ) → k < 2 * n → Ending tables s (f + k) Committed FateCommitted → Moves f n P k 2 (Commit (f + k))
  commit-own 1≤n =
      by_place
      (λ k. Ending tables s (f + k) Committed FateCommitted → Moves f n P k 2 (Commit (f + k)))
      n
      (λ z off.
      let r = rw (sort-first 1≤n) at off.rule.0 in
      record {
        move =
            commit-saga
            off.active
            (committed_is (P n) (off-not (is_committed (P n)) r));
        at = refl;
        to = refl;
        event = ap {B = Event} Commit f0;
      })
      (λ k a b off.
      let r = rw (sort-step tables i k a b) at off.rule.0 in
      record {
        move =
            commit-step
            k
            a
            b
            off.active
            (active-is (P 0) (off-not (is_active (P 0)) r));
        at = refl;
        to = refl;
        event = refl;
      })
      (λ j a b off.
      record {
        move = commit_undo j a b off.active;
        at = refl;
        to = refl;
        event = refl;
      })

  pub abort-own : 1 ≤ n → (k : ℕ) → k < 2 * n → Ending tables s (f + k) Aborted FateAborted → Moves f n P k 3 (Abort (f + k))
  abort-own 1≤n =
      by_place
      (λ k. Ending tables s (f + k) Aborted FateAborted → Moves f n P k 3 (Abort (f + k)))
      n
      (λ z off.
      let r = rw (sort-first 1≤n) at off.rule.1 in
      record {
        move = abort-saga off.active (committed-not (P n) r);
        at = refl;
        to = refl;
        event = ap {B = Event} Abort f0;
      })
      (λ k a b off.
      record {
        move = abort_step k a b off.active;
        at = refl;
        to = refl;
        event = refl;
      })
      (λ j a b off. clash refl (rw (sort-undo tables i j a b) at off.rule.0))
