-- The promises of one event, proved: when it is accepted, what it does to what it names, that all else stays, and the order of judging.
use Prim.Native.Nat.{ℕ, ◌<◌}
use mathlib.Core.Path.{◌≡◌, refl, sym, ap, ◌∙◌, subst⁻¹}
use mathlib.Core.Bool.{Bool, true, false, cond, not, ◌&&◌, and-false, false≢true}
use lib.Dec.{eqb, ltb}
use lib.Seq.{get_or-set_other}
use borrow.Author.Tests.{eq-eqb, eqb-false, leb-false, lt-ltb}
use Rattle.laws.specs.Lines.{Off}
use Rattle.laws.proofs.Bools.{clash, off-or}
use Rattle.laws.proofs.Decisions.{lt-or}
use Rattle.terms.specs.declared.Event.{Event}
use Rattle.terms.specs.declared.Event.TheVariants.{Abort, AbortOne, Begin, Commit, CommitOne, Delegate, Operation as Invoke, Spawn}
use Rattle.terms.specs.declared.Mark.{Mark}
use Rattle.terms.specs.declared.Refusal.TheVariants.{DirtyRead, OnRing}
use Rattle.terms.specs.declared.Verdict.TheVariants.{Accepted}
use Rattle.ties.specs.Operations.{all_held_by, ended_as, is_active as is_active_op, made, most_operations, new_op, no_operation, only_active, op_at, passed_to, rewritten, size}
use Rattle.ties.specs.declared.Fate.TheVariants.{Aborted as FateAborted, Committed as FateCommitted}
use Rattle.ties.specs.declared.Operation.{Operation}
use Rattle.ties.specs.declared.Ops.{Ops}
use Rattle.ties.proofs.OpsLaws.{made_at, made-full, made-room, rewritten-at}
use Rattle.tables.specs.Sorts.{is_plain, sort_of}
use Rattle.tables.specs.declared.Tables.{Tables}
use Rattle.rules.specs.States.{entered, is_child, phase_of}
use Rattle.rules.specs.States.{Parent}
use Rattle.rules.specs.declared.Phase.{Phase}
use Rattle.rules.specs.declared.Transaction.{Transaction}
use Rattle.rules.specs.declared.Phase.TheVariants.{Aborted, Active, Committed}
use Rattle.rules.specs.declared.State.{State}
use Rattle.rules.proofs.StateLaws.{entered-other, entered-parent, entered-same, spawned-other, spawned-same}
use Rattle.judge.specs.Judge.{change_of, clerk_of, commit_lines_under, commit_under, hand_lines, judged, lines, state_after, verdict_by}
use Rattle.judge.specs.Promises.{Does, EventPromises, Frame, Helpers, JudgingOrder, OneEvent, all_of, judging_order, left_of, names_of, nothing, one, refusals_of}
use Rattle.judge.proofs.ClerkLaws.{by-clerk}
use Rattle.judge.proofs.EventLaws.{by-verdict, first_line, line_first, lines-off, never-given, next-no, next-ok, off-lines, verdict-lines}

-- an operation that is not meant is not rewritten
left : (c active meant : Bool) (y x : Operation) → meant ≡ false → cond c (cond (active && meant) y x) x ≡ x
left true active meant y x n = rw (n, and-false active)
left false active meant y x n = refl

held-left : (how : Operation → Operation) (t : ℕ) (ops : Ops) (q : ℕ) → eqb (op_at ops q).responsible t ≡ false → op_at (rewritten (all_held_by t) how ops) q ≡ op_at ops q
held-left how t ops q n =
    rewritten-at (all_held_by t) how (λ k. refl) ops q
    ∙ left (ltb q (size ops)) (is_active_op (op_at ops q).fate) (eqb (op_at ops q).responsible t) (how (op_at ops q)) (op_at ops q) n

only-left : (how : Operation → Operation) (p : ℕ) (ops : Ops) (q : ℕ) → eqb q p ≡ false → op_at (rewritten (only_active p) how ops) q ≡ op_at ops q
only-left how p ops q n =
    rewritten-at (only_active p) how (λ k. refl) ops q ∙ left (ltb q (size ops)) (is_active_op (op_at ops q).fate) (eqb q p) (how (op_at ops q)) (op_at ops q) n

made-left : (op : Operation) (ops : Ops) (q : ℕ) → eqb q ops.count ≡ false → op_at (made op ops) q ≡ op_at ops q
made-left op ops q n =
    lt-or ops.count most_operations
    (λ l. rw (made-room op ops l) (get_or-set_other ops.all ops.count q op no_operation (eqb-false q ops.count n)))
    (λ l. rw (made-full op ops l))

-- what t is at work on is rewritten with its end
ends-kept : (s : State) (t : ℕ) (p : Phase) (how : Operation → Operation) → Frame (record { transaction = one t; child = nothing; operation = all_of s t; makes = false }) s
    (record { transactions = entered p t s.transactions; ops = rewritten (all_held_by t) how s.ops })
unfolding rewritten
ends-kept s t p how =
    record {
      phases = λ u n. entered-other s.transactions t u p (eqb-false u t n);
      parents = λ u n. entered-parent s.transactions t u p;
      operations = held-left how t s.ops;
      count = λ z. refl;
    }

-- one operation is
one_kept : (s : State) (q : ℕ) (how : Operation → Operation) → Frame (record { transaction = nothing; child = nothing; operation = one q; makes = false }) s
    (record { transactions = s.transactions; ops = rewritten (only_active q) how s.ops })
unfolding rewritten
one_kept s q how = record { phases = λ u n. refl; parents = λ u n. refl; operations = only-left how q s.ops; count = λ z. refl }

kept : (tables : Tables) (s : State) (e : Event) → Frame (names_of s e) s (state_after (change_of tables s.transactions e) s)
unfolding state_after
kept tables s (Begin t) =
    record {
      phases = λ u n. entered-other s.transactions t u Active (eqb-false u t n);
      parents = λ u n. entered-parent s.transactions t u Active;
      operations = λ q n. refl;
      count = λ z. refl;
    }
kept tables s (Commit t) =
    by-clerk tables s.transactions t (λ (p : Parent). Frame (names_of s (Commit t)) s (state_after (commit_under t p) s))
    (λ o. ends-kept s t Committed (ended_as FateCommitted (size s.ops)))
    (λ m h. ends-kept s t Committed (passed_to m))
kept tables s (Abort t) = ends-kept s t Aborted (ended_as FateAborted (size s.ops))
kept tables s (Invoke t o m) =
    record { phases = λ u n. refl; parents = λ u n. refl; operations = made-left (new_op t o m) s.ops; count = λ z. absurd (false≢true (sym z)) }
kept tables s (Delegate t r q) = one_kept s q (passed_to r)
kept tables s (CommitOne t q) = one_kept s q (ended_as FateCommitted (size s.ops))
kept tables s (AbortOne t q) = one_kept s q (ended_as FateAborted (size s.ops))
kept tables s (Spawn m c) =
    record {
      phases = λ u n. ap (λ (x : Transaction). x.phase) (spawned-other s.transactions m c u (eqb-false u c n));
      parents = λ u n. ap (λ (x : Transaction). x.parent) (spawned-other s.transactions m c u (eqb-false u c n));
      operations = λ q n. refl;
      count = λ z. refl;
    }

frame : (tables : Tables) (s : State) (e : Event) → Frame (names_of s e) s (judged tables s e).state
frame tables s e =
    by-verdict tables s e
    (λ v. subst⁻¹ (Frame (names_of s e) s) (next-ok tables s e v) (kept tables s e))
    (λ r v. subst⁻¹ (Frame (names_of s e) s) (next-no tables s e r v) (record { phases = λ u n. refl; parents = λ u n. refl; operations = λ q n. refl; count = λ z. refl }))

does : (tables : Tables) (s : State) → Does tables s
unfolding state_after
does tables s =
    record {
      begins = λ t l v. rw (next-ok tables s (Begin t) v) (entered-same s.transactions t Active l);
      commits = λ t l v.
          rw (next-ok tables s (Commit t) v)
          (by-clerk tables s.transactions t (λ (p : Parent). phase_of (state_after (commit_under t p) s).transactions t ≡ Committed)
          (λ o. entered-same s.transactions t Committed l)
          (λ m h. entered-same s.transactions t Committed l));
      aborts = λ t l v. rw (next-ok tables s (Abort t) v) (entered-same s.transactions t Aborted l);
      invokes = λ t o m full v.
          let room = has_room tables s t o m v in
          rw (next-ok tables s (Invoke t o m) v) (
            made_at (new_op t o m) s.ops full room s.ops.count ∙ rw (eq-eqb s.ops.count s.ops.count refl),
            ap (λ (x : Ops). x.count) (made-room (new_op t o m) s.ops room),
          );
      spawns = λ m c l v.
          let there = spawned-same s.transactions m c l in
          rw (next-ok tables s (Spawn m c) v) (ap (λ (x : Transaction). x.phase) there, ap (λ (x : Transaction). x.parent) there);
    }
  where
    has_room : (tables : Tables) (s : State) (t o : ℕ) (m : Mark) → (judged tables s (Invoke t o m)).verdict ≡ Accepted → s.ops.count < most_operations
    has_room tables s t o m v = room-left (lines-off tables s (Invoke t o m) v)
      where
        room-left : Off (lines tables s (Invoke t o m)) → s.ops.count < most_operations
        room-left (known, (no_saga, (active, (waited, (no_ring, (room, u)))))) = leb-false most_operations s.ops.count room

helpers : (tables : Tables) (s : State) → Helpers tables s
unfolding state_after
helpers tables s =
    record {
      hands = λ t m e v q l.
          ap (λ (x : State). op_at x.ops q) (next-ok tables s (Commit t) v ∙ ap (λ (p : Parent). state_after (commit_under t p) s) e)
          ∙ rewritten-at (all_held_by t) (passed_to m) (λ k. refl) s.ops q
          ∙ rw (lt-ltb q (size s.ops) l);
      clean = λ t m e.
          let given = verdict-lines tables s (Commit t) ∙ ap (λ (p : Parent). verdict_by (commit_lines_under tables s.transactions s.ops t p)) e in
          let own = hand_lines tables s.transactions s.ops t m in
          (λ v. never-given DirtyRead own refl (sym given ∙ v), λ v. never-given OnRing own refl (sym given ∙ v));
      no_single = λ t m q e v.
          clash (ap is_child e) (off-or (not (is_plain (sort_of tables t))) (is_child (clerk_of tables s.transactions t)) (lines-off tables s (CommitOne t q) v).1.0).1;
    }

judging-order : JudgingOrder
judging-order = record { numbers = refl; kept = in_order }
  where
    in_order : (tables : Tables) (s : State) (e : Event) → left_of (refusals_of (lines tables s e)) judging_order ≡ true
    in_order tables s (Begin t) = refl
    in_order tables s (Commit t) =
        by-clerk tables s.transactions t (λ (p : Parent). left_of (refusals_of (commit_lines_under tables s.transactions s.ops t p)) judging_order ≡ true) (λ o. refl) (λ m h. refl)
    in_order tables s (Abort t) = refl
    in_order tables s (Invoke t o m) = refl
    in_order tables s (Delegate t r q) = refl
    in_order tables s (CommitOne t q) = refl
    in_order tables s (AbortOne t q) = refl
    in_order tables s (Spawn m c) = refl

one_event : (tables : Tables) (s : State) (e : Event) → OneEvent tables s e
one_event tables s e =
    record {
      accepted = (lines-off tables s e, off-lines tables s e);
      refused = λ r. (first_line tables s e r, line_first tables s e r);
      unchanged = λ r v. next-no tables s e r v;
    }

pub event-promises : EventPromises
event-promises = record { one_event = one_event; does = does; helpers = helpers; frame = frame; judging_order = judging-order }
