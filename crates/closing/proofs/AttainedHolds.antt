-- Both runs of a saga are attained: step by step, with no operation made, every event is accepted.
use Prim.Native.Nat.{ℕ, zero, suc, ◌+◌, ◌-◌, ◌≤◌, ◌<◌}
use native.Mathlib.Omega.{arith}
use mathlib.Core.Path.{◌≡◌, refl, sym, ap, ap₂, subst, ◌∙◌}
use mathlib.Core.Logic.{◌≢◌, ⊎_elim}
use mathlib.Core.Bool.{true, false, not, ◌&&◌, ◌||◌}
use mathlib.Core.List.{List, [], ◌∷◌, ◌++◌, append-nil}
use lib.Dec.{leb, ltb}
use borrow.Author.Tests.{le-leb, lt-ltb}
use Rattle.laws.specs.Index.{highest}
use Rattle.laws.proofs.Bools.{and-off, and_on, clash, not-off, or_left, or_right}
use Rattle.laws.proofs.Decisions.{lt-or, same_or}
use Rattle.laws.proofs.HighestLaws.{none-highest}
use Rattle.terms.specs.declared.Event.{Event}
use Rattle.terms.specs.declared.Event.TheVariants.{Begin}
use Rattle.terms.specs.declared.Verdict.TheVariants.{Accepted}
use Rattle.ties.proofs.RingLaws.{ring-none}
use Rattle.tables.specs.Accepted.{Well}
use Rattle.tables.specs.Counts.{dependency_count}
use Rattle.tables.specs.Sorts.{first_of, is_plain, sort_of, steps_of}
use Rattle.tables.specs.declared.Tables.{Tables}
use Rattle.tables.proofs.SagaLaws.{sort-step}
use Rattle.rules.specs.Rules.{step_begins, undone}
use Rattle.rules.specs.States.{empty_state, is_active, is_committed, own}
use Rattle.rules.specs.declared.Phase.{Phase}
use Rattle.rules.specs.declared.State.{State}
use Rattle.rules.proofs.PhaseLaws.{code, not-active, of-aborted, of-active, of-committed, of-idle}
use Rattle.rules.proofs.RuleLaws.{none-declared}
use Rattle.rules.proofs.StateLaws.{all-idle}
use Rattle.judge.specs.Judge.{change_of, judged, state_after}
use Rattle.judge.specs.Promises.{names_of}
use Rattle.judge.proofs.EventLaws.{next-ok}
use Rattle.judge.proofs.EventPromisesHold.{event-promises}
use Rattle.histories.specs.Histories.{history, reached, run, taken}
use Rattle.histories.proofs.AcceptedWhenHolds.{accepted-when}
use Rattle.histories.proofs.Kin.{clerk-is, kin}
use Rattle.histories.proofs.Steps.{nobodys}
use Rattle.histories.proofs.RunLaws.{run-append, run_none, run_ok, taken-append, taken_none, taken-ok}
use Rattle.closing.specs.Attained.{Attained, BothAttained}
use Rattle.closing.specs.Closing.{active_step, settled}
use Rattle.closing.specs.Demand.{back_run, commits_of, downs, ups, whole_run}
use Rattle.closing.proofs.ClosingAccepted.{accept, does}
use Rattle.closing.proofs.Demand3Holds.{good-run, good_start, has-step, settled_is}
use Rattle.closing.proofs.Moves.{At, Move, Moved, Next, abort-saga, abort_step, begin-saga, begin-step, begin_undo, commit-saga, commit-step, commit_undo, moved_at, moved_to}
use Rattle.closing.proofs.Order.{fair, shape_of}
use Rattle.closing.proofs.OwnEvents.{f0, sort-first}
use Rattle.closing.proofs.OutstandingLaws.{move_event, settled_of}
use Rattle.closing.proofs.SettledRunsHold.{settled-runs}
use Rattle.closing.proofs.Shapes.{Shape, Steps, back, closed, forward}
use Rattle.closing.proofs.UndoTies.{Tidy}

-- ---- how far a saga has come

-- S is in phase p; T1 to Tk are committed and later steps idle; the undos above d are committed as far as k, and those up to d are idle
record Stage (n : ℕ) (P : ℕ → Phase) (p k d : ℕ) : Type 0 where
  saga : At P 0 p
  done : (i : ℕ) → 1 ≤ i → i ≤ k → At P i 2
  idle : (i : ℕ) → k < i → i ≤ n → At P i 0
  undone : (i : ℕ) → d < i → i ≤ k → At P (n + i) 2
  waiting : (i : ℕ) → 1 ≤ i → i ≤ d → i < n → At P (n + i) 0

-- at x the phase is c now, all else is as before
record Put (P P' : ℕ → Phase) (x c : ℕ) : Type 0 where
  here : At P' x c
  other : (i : ℕ) → i ≢ x → code (P' i) ≡ code (P i)

-- begun, then committed
twice : {P P' P'' : ℕ → Phase} {x c e : ℕ} → Put P P' x c → Put P' P'' x e → Put P P'' x e
twice a b = record { here = b.here; other = λ i z. b.other i z ∙ a.other i z }

module _ {n : ℕ} {P P' : ℕ → Phase} where
  saga-put : {p k d : ℕ} (q : ℕ) → 1 ≤ n → Stage n P p k d → Put P P' 0 q → Stage n P' q k d
  saga-put q one st m =
      record {
        saga = m.here;
        done = λ i a b. m.other i (λ z. omega arith) ∙ st.done i a b;
        idle = λ i a b. m.other i (λ z. omega arith) ∙ st.idle i a b;
        undone = λ i a b. m.other (n + i) (λ z. omega arith) ∙ st.undone i a b;
        waiting = λ i a b c. m.other (n + i) (λ z. omega arith) ∙ st.waiting i a b c;
      }

  step-put : {p : ℕ} (k : ℕ) → k < n → Stage n P p k n → Put P P' (suc k) 2 → Stage n P' p (suc k) n
  step-put k l st m =
      record {
        saga = m.other 0 (λ z. omega arith) ∙ st.saga;
        done = λ i a b. same_or i (suc k) (λ q. ap (λ (x : ℕ). code (P' x)) q ∙ m.here) (λ q. m.other i q ∙ st.done i a (omega arith));
        idle = λ i a b. m.other i (λ z. omega arith) ∙ st.idle i (omega arith) b;
        undone = λ i a b. absurd (omega arith);
        waiting = λ i a b c. m.other (n + i) (λ z. omega arith) ∙ st.waiting i a b c;
      }

  undo-put : {p : ℕ} (k d : ℕ) → k < n → Stage n P p k (suc d) → Put P P' (n + suc d) 2 → Stage n P' p k d
  undo-put k d l st m =
      record {
        saga = m.other 0 (λ z. omega arith) ∙ st.saga;
        done = λ i a b. m.other i (λ z. omega arith) ∙ st.done i a b;
        idle = λ i a b. m.other i (λ z. omega arith) ∙ st.idle i a b;
        undone = λ i a b. same_or i (suc d) (λ q. ap (λ (x : ℕ). code (P' (n + x))) q ∙ m.here) (λ q. m.other (n + i) (λ z. omega arith) ∙ st.undone i (omega arith) b);
        waiting = λ i a b c. m.other (n + i) (λ z. omega arith) ∙ st.waiting i a (omega arith) c;
      }

module _ (n : ℕ) (P : ℕ → Phase) where
  -- no undo has begun yet; only those of committed steps will
  turn : (p k : ℕ) → k < n → Stage n P p k n → Stage n P p k k
  turn p k l st =
      record { saga = st.saga; done = st.done; idle = st.idle; undone = λ i a b. absurd (omega arith); waiting = λ i a b c. st.waiting i a (omega arith) c }

  -- ---- what is put back is settled, and has run T1..Tj, Cj..C1

  module _ (j : ℕ) (l : j < n) (st : Stage n P 3 j 0) where
    no-step-active : active_step n P ≡ 0
    unfolding active_step
    no-step-active =
        none-highest n (λ i. is_active (P i))
        (λ i a b. not-active (P i) (λ z. lt-or j i (λ g. omega (arith, st.idle i g b)) (λ g. omega (arith, st.done i a g))))

    all_undone : highest n (λ i. is_committed (P i) && not (undone n P i)) ≡ 0
    all_undone =
        none-highest n (λ i. is_committed (P i) && not (undone n P i))
        (λ i a b.
        lt-or j i
        (λ g. rw (of-idle (P i) (st.idle i g b)))
        (λ g. and-off (is_committed (P i)) (not (undone n P i))
        (λ c. not-off (undone n P i) (and_on (ltb i n) (is_committed (P (n + i))) (lt-ltb i n (omega arith)) (rw (of-committed (P (n + i)) (st.undone i a g)))))))

    put_back : settled_of n P ≡ true
    put_back = rw (of-aborted (P 0) st.saga, no-step-active, all_undone)

    same-steps : (k : ℕ) → k ≤ n → Steps n P k → k ≡ j
    same-steps k h s = omega (arith, low, high)
      where
        low : k ≤ j
        low = lt-or j k (λ g. absurd (omega (arith, st.idle k g h, s.done k (omega arith) (omega arith)))) (λ g. g)

        high : j ≤ k
        high = lt-or k j (λ g. s.only j (omega arith) (omega arith) (st.done j (omega arith) (omega arith))) (λ g. g)

    ran-back : (f : ℕ) (H : List ℕ) → Shape f n P H → H ≡ back_run f n j
    unfolding back_run ups downs
    ran-back f H (closed e z) = absurd (omega (arith, st.saga))
    ran-back f H (forward k h e s u c) =
        let none : j ≡ 0 = lt-or 0 j (λ g. absurd (omega (arith, same-steps k h s, u.only 1 (omega arith) (omega arith) (st.undone 1 (omega arith) g)))) (λ g. omega arith) in
        e ∙ ap (ups f) (same-steps k h s) ∙ sym (append-nil (ups f j)) ∙ ap (λ (x : ℕ). ups f j ++ downs f n x) (sym none)
    ran-back f H (back k d h b e s u z) =
        let q : k ≡ j = same-steps k (omega arith) s in
        let none : d ≡ 0 = lt-or 0 j (λ g. omega (arith, u.only 1 (omega arith) (omega arith) (st.undone 1 (omega arith) g))) (λ g. omega arith) in
        sym (append-nil H) ∙ ap (λ (x : ℕ). H ++ downs f n x) (sym none) ∙ e ∙ ap (λ (x : ℕ). ups f x ++ downs f n x) q

-- ---- events that are no operations

makes_none : {n : ℕ} {P : ℕ → Phase} (f : ℕ) (m : Move n P) (s : State) → (names_of s (move_event f m)).makes ≡ false
makes_none f (begin-saga a) s = refl
makes_none f (begin-step i a b c d e) s = refl
makes_none f (begin_undo i a b c d e w g) s = refl
makes_none f (commit-saga a b) s = refl
makes_none f (commit-step i a b c d) s = refl
makes_none f (commit_undo i a b c) s = refl
makes_none f (abort-saga a b) s = refl
makes_none f (abort_step i a b c) s = refl

-- ---- one saga of tables without dependencies

module _ (tables : Tables) (well : Well tables) (free : dependency_count tables ≡ 0) (i : ℕ) (low : i < tables.sagas) where
  abbrev f : ℕ
  f = first_of tables i

  abbrev n : ℕ
  n = steps_of tables i

  abbrev P : List Event → ℕ → Phase
  P es = own (reached tables es).transactions f

  one : 1 ≤ n
  one = has-step tables well i low

  tidy : (es : List Event) → Tidy tables (reached tables es)
  tidy es = (good-run tables well i low es empty_state (good_start tables well i low)).tidy

  -- all were accepted, and none was an operation
  record Clear (es : List Event) : Type 0 where
    all-taken : history tables es ≡ es
    none : (reached tables es).ops.count ≡ 0

  -- every move is accepted then
  accepts : (es : List Event) → Clear es → (m : Move n (P es)) → (judged tables (reached tables es) (move_event f m)).verdict ≡ Accepted
  accepts es c (begin-saga a) =
      let x = sort-first tables i (reached tables es) one in
      subst (λ (t : ℕ). (judged tables (reached tables es) (Begin t)).verdict ≡ Accepted) (f0 tables i (reached tables es))
      (((accepted-when tables es).begin (f + 0)).1 (record { known = rw x; idle = rw (of-idle (P es 0) a); saga = rw x; declared = none-declared true tables (reached tables es).transactions (f + 0) free }))
  accepts es c (begin-step k a b z act e) =
      let x = sort-step tables i k a b in
      ((accepted-when tables es).begin (f + k)).1
      (record { known = rw x; idle = rw (of-idle (P es k) z); saga = rw x (not-off (step_begins (P es) k) begins); declared = none-declared true tables (reached tables es).transactions (f + k) free })
    where
      begins : step_begins (P es) k ≡ true
      begins =
          and_on (is_active (P es 0)) (leb k 1 || is_committed (P es (k - 1))) (rw (of-active (P es 0) act))
          (lt-or 1 k
          (λ g. or_right (leb k 1) (is_committed (P es (k - 1))) (rw (of-committed (P es (k - 1)) (e g))))
          (λ g. or_left (leb k 1) (is_committed (P es (k - 1))) (le-leb k 1 g)))
  accepts es c (commit-step k a b z act) =
      let x = sort-step tables i k a b in
      let no-party : is_plain (sort_of tables (f + k)) ≡ false = rw x in
      ((accepted-when tables es).commit (f + k) (sym (clerk-is tables (reached tables es) (kin tables es) (f + k)) ∙ nobodys tables (reached tables es) (f + k) no-party)).1
      (record {
        known = rw x;
        active = rw (of-active (P es k) z);
        saga = rw (x, of-active (P es 0) act);
        declared = none-declared false tables (reached tables es).transactions (f + k) free;
        children = λ d e. clash ((kin tables es).plain d (f + k) e).1 no-party;
        clean = λ q l. absurd (omega (arith, c.none));
        off_rings = ring-none (reached tables es).ops (f + k) (omega (arith, c.none));
      })
  accepts es c (begin_undo k a b z d e w g) = accept tables well (reached tables es) (tidy es) i low (begin_undo k a b z d e w g) tt
  accepts es c (commit-saga a b) = accept tables well (reached tables es) (tidy es) i low (commit-saga a b) tt
  accepts es c (commit_undo k a b z) = accept tables well (reached tables es) (tidy es) i low (commit_undo k a b z) tt
  accepts es c (abort-saga a b) = accept tables well (reached tables es) (tidy es) i low (abort-saga a b) tt
  accepts es c (abort_step k a b z) = accept tables well (reached tables es) (tidy es) i low (abort_step k a b z) tt

  -- ---- one move more

  record Onward (es : List Event) (m : Move n (P es)) : Type 0 where
    clear : Clear (es ++ (move_event f m ∷ []))
    put : Put (P es) (P (es ++ (move_event f m ∷ []))) (moved_at m) (moved_to m)

  onward : (es : List Event) → Clear es → (m : Move n (P es)) → Onward es m
  onward es c m =
      let s = reached tables es in
      let e = move_event f m in
      let v = accepts es c m in
      let after : reached tables (es ++ (e ∷ [])) ≡ state_after (change_of tables s.transactions e) s =
      run-append tables es (e ∷ []) empty_state ∙ run_ok tables s e v [] ∙ run_none tables (state_after (change_of tables s.transactions e) s) in
      let d : Moved n (P es) (P (es ++ (e ∷ []))) m =
      subst (λ (x : State). Moved n (P es) (own x.transactions f) m) (sym after) (does tables well i low s (fair tables well i low es).lasts.full m) in
      record {
        clear = record {
          all-taken = taken-append tables es (e ∷ []) empty_state ∙ ap₂ (λ (k l : List Event). k ++ l) c.all-taken (taken-ok tables s e v [] ∙ ap (λ (l : List Event). e ∷ l) (taken_none tables (state_after (change_of tables s.transactions e) s)));
          none = ap (λ (x : State). x.ops.count) (after ∙ sym (next-ok tables s e v)) ∙ (event-promises.frame tables s e).count (makes_none f m s) ∙ c.none;
        };
        put = record { here = d.here; other = d.other };
      }

  -- events that lead to a stage
  record Led (p k d : ℕ) : Type 0 where
    events : List Event
    clear : Clear events
    stage : Stage n (P events) p k d

  start : Led 0 0 n
  unfolding run taken
  start =
      record {
        events = [];
        clear = record { all-taken = refl; none = refl };
        stage = record {
          saga = idle 0;
          done = λ k a b. absurd (omega arith);
          idle = λ k a b. idle k;
          undone = λ k a b. absurd (omega arith);
          waiting = λ k a b c. idle (n + k);
        };
      }
    where
      idle : (k : ℕ) → At (own empty_state.transactions f) k 0
      idle k = ap code (all-idle (f + k))

  -- S moves
  saga-led : (p k d : ℕ) (l : Led p k d) (m : Move n (P l.events)) → moved_at m ≡ 0 → Led (moved_to m) k d
  saga-led p k d l m z =
      let es = l.events ++ (move_event f m ∷ []) in
      let o = onward l.events l.clear m in
      record {
        events = es;
        clear = o.clear;
        stage = saga-put (moved_to m) one l.stage (subst (λ (x : ℕ). Put (P l.events) (P es) x (moved_to m)) z o.put);
      }

  -- T(k+1) begins and commits
  step-led : (k : ℕ) → k < n → Led 1 k n → Led 1 (suc k) n
  step-led k h l =
      let st = l.stage in
      let m : Move n (P l.events) = begin-step (suc k) (omega arith) h (st.idle (suc k) (omega arith) h) st.saga before in
      let a = onward l.events l.clear m in
      let es = l.events ++ (move_event f m ∷ []) in
      let m' : Move n (P es) = commit-step (suc k) (omega arith) h a.put.here (a.put.other 0 (λ z. omega arith) ∙ st.saga) in
      let b = onward es a.clear m' in
      record {
        events = es ++ (move_event f m' ∷ []);
        clear = b.clear;
        stage = step-put k h st (twice a.put b.put);
      }
    where
      before : 1 < suc k → At (P l.events) (suc k - 1) 2
      before g = let e : suc k - 1 ≡ k = omega arith in ap (λ (x : ℕ). code (P l.events x)) e ∙ l.stage.done k (omega arith) (omega arith)

  -- C(d+1) begins and commits
  undo-led : (j d : ℕ) → j < n → suc d ≤ j → Led 3 j (suc d) → Led 3 j d
  undo-led j d h r l =
      let st = l.stage in
      let m : Move n (P l.events) = begin_undo (suc d) (omega arith) (omega arith) (st.waiting (suc d) (omega arith) (omega arith) (omega arith)) st.saga (st.done (suc d) (omega arith) r) resting after in
      let a = onward l.events l.clear m in
      let es = l.events ++ (move_event f m ∷ []) in
      let m' : Move n (P es) = commit_undo (suc d) (omega arith) (omega arith) a.put.here in
      let b = onward es a.clear m' in
      record {
        events = es ++ (move_event f m' ∷ []);
        clear = b.clear;
        stage = undo-put j d h st (twice a.put b.put);
      }
    where
      resting : code (P l.events (suc d + 1)) ≢ 1
      resting z =
          lt-or j (suc d + 1) (λ g. omega (arith, l.stage.idle (suc d + 1) g (omega arith))) (λ g. omega (arith, l.stage.done (suc d + 1) (omega arith) g))

      after : Next n (P l.events) (suc d)
      after z =
          lt-or j (suc d + 1) (λ g. absurd (omega (arith, l.stage.idle (suc d + 1) g (omega arith)))) (λ g. (omega arith, l.stage.undone (suc d + 1) (omega arith) g))

  -- ---- the two ways

  up : (k : ℕ) → k ≤ n → Led 1 k n
  up zero h = saga-led 0 0 n start (begin-saga start.stage.saga) refl
  up (suc k) h = step-led k h (up k (omega arith))

  down : (j d : ℕ) → j < n → d ≤ j → Led 3 j d → Led 3 j 0
  down j zero h r l = l
  down j (suc d) h r l = down j d h (omega arith) (undo-led j d h r l)

  all_up : Led 2 n n
  all_up = let l = up n (omega arith) in saga-led 1 n n l (commit-saga l.stage.saga (l.stage.done n one (omega arith))) refl

  aborted : (j : ℕ) → j < n → Led 3 j j
  aborted j h =
      let l = up j (omega arith) in
      let a : Led 3 j n = saga-led 1 j n l (abort-saga l.stage.saga (λ z. omega (arith, l.stage.idle n h (omega arith)))) refl in
      record { events = a.events; clear = a.clear; stage = turn n (P a.events) 3 j h a.stage }

  whole : Attained tables i (whole_run f n)
  whole =
      let l = all_up in
      let z : settled tables (reached tables l.events) i ≡ true = settled_is tables well i low (reached tables l.events) ∙ rw (of-committed (P l.events 0) l.stage.saga) in
      record {
        events = l.events;
        accepted = l.clear.all-taken;
        commits_are = ⊎_elim (λ w. w.1) (λ w. absurd (omega (arith, ap code w.0, l.stage.saga))) ((settled-runs tables well i low).ran l.events z);
        settles = z;
      }

  put-down : (j : ℕ) → j < n → Attained tables i (back_run f n j)
  put-down j h =
      let l = down j j h (omega arith) (aborted j h) in
      record {
        events = l.events;
        accepted = l.clear.all-taken;
        commits_are = ran-back n (P l.events) j h l.stage f (commits_of f n (history tables l.events)) (shape_of tables well i low l.events);
        settles = settled_is tables well i low (reached tables l.events) ∙ put_back n (P l.events) j h l.stage;
      }

pub both-attained : BothAttained
both-attained tables well free i low = record { whole = whole tables well free i low; back = put-down tables well free i low }
