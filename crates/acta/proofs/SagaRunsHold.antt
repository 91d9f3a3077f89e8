-- The begins, commits and aborts of a saga's own transactions are a beginning of one of the words (★5).
use Prim.Native.Nat.{ℕ, suc, ◌+◌, ◌-◌, ◌*◌, ◌≤◌, ◌<◌}
use native.Mathlib.Omega.{arith}
use mathlib.Core.Path.{◌≡◌, refl, sym, ap, subst, subst⁻¹, ◌∙◌}
use mathlib.Core.Bool.{true, false, ◌||◌}
use mathlib.Core.List.{List, [], ◌∷◌, ◌++◌, append_assoc, append-nil}
use lib.Dec.{eqb, leb, ltb}
use borrow.Author.Tests.{eq-eqb, leb-true, ltb-true}
use Rattle.laws.proofs.Bools.{bool_cases, clash, is-not, on_and, on-not, or_left, or-rest, or_right}
use Rattle.laws.proofs.Decisions.{lt-or}
use Rattle.terms.specs.declared.Event.{Event}
use Rattle.terms.specs.declared.Event.TheVariants.{Abort, AbortOne, Begin, Commit, CommitOne, Delegate, Operation as Invoke, Spawn}
use Rattle.tables.specs.Accepted.{Well}
use Rattle.tables.specs.Sorts.{first_of, steps_of}
use Rattle.tables.specs.declared.Tables.{Tables}
use Rattle.tables.proofs.SagaLaws.{well-steps}
use Rattle.rules.specs.States.{empty_state, is_aborted, is_active, is_committed, is_idle, own, phase_of}
use Rattle.rules.specs.declared.Phase.{Phase}
use Rattle.rules.specs.declared.Phase.TheVariants.{Aborted, Active, Committed, Idle}
use Rattle.rules.specs.declared.State.{State}
use Rattle.rules.proofs.PhaseLaws.{code}
use Rattle.rules.proofs.StateLaws.{all-idle}
use Rattle.judge.specs.Judge.{change_of, state_after}
use Rattle.judge.proofs.EventLaws.{next-ok}
use Rattle.histories.specs.Histories.{history, reached}
use Rattle.histories.proofs.Invariants.{lasting}
use Rattle.histories.proofs.RunLaws.{run-append, run_none}
use Rattle.closing.specs.Demand.{mine}
use Rattle.closing.proofs.Acts.{Acts, acts, mine-on, moved, quiet}
use Rattle.closing.proofs.Moves.{Move, abort-saga, abort_step, begin-saga, begin-step, begin_undo, commit-saga, commit-step, commit_undo}
use Rattle.closing.proofs.OutstandingLaws.{move_event}
use Rattle.acta.specs.SagaWords.{SagaRun, back, between, failing, forth, is_own, own_word, whole, within}
use Rattle.acta.specs.Told.{IsTold}
use Rattle.acta.specs.Words.{Happens, aborted, aborts, acts as acts_in, began, begins, committed, commits, occurs}
use Rattle.acta.proofs.FundamentalHolds.{fundamental}
use Rattle.acta.proofs.Places.{along, occurs-append, told_at}
use Rattle.acta.proofs.Runs.{accepted-there, is_history}
use Rattle.acta.proofs.SagaStages.{Stage, at_rest, closed, failed, in_step, in-undo, longer, not-begun, onward, torn, undoing}
use Rattle.acta.proofs.Stages.{form-same}
use Rattle.acta.proofs.TiesTold.{run-one}
use Rattle.acta.proofs.ToldHolds.{is_told}

-- ---- every stage is on the way of a word

module _ (tables : Tables) (h : List Event) (i : ℕ) where
  abbrev f : ℕ
  f = first_of tables i

  abbrev n : ℕ
  n = steps_of tables i

  on-the-way : {P : ℕ → Phase} → Stage f n P (own_word f n h) → SagaRun tables h i
  on-the-way (not-begun F q) =
      record { word = Begin f ∷ (forth f n ++ (Commit f ∷ [])); is_word = whole; rest = Begin f ∷ (forth f n ++ (Commit f ∷ [])); begins_it = ap (λ (l : List Event). l ++ (Begin f ∷ (forth f n ++ (Commit f ∷ [])))) q }
  on-the-way (at_rest j l F q) =
      lt-or j n
      (λ b.
      record {
        word = Begin f ∷ (forth f j ++ (Abort f ∷ back f n j));
        is_word = between j b;
        rest = Abort f ∷ back f n j;
        begins_it = longer f j [] (Abort f ∷ back f n j) (own_word f n h) q;
      })
      (λ b.
      let e : j ≡ n = omega arith in
      record {
        word = Begin f ∷ (forth f n ++ (Commit f ∷ []));
        is_word = whole;
        rest = Commit f ∷ [];
        begins_it = longer f n [] (Commit f ∷ []) (own_word f n h) (subst (λ (z : ℕ). own_word f n h ≡ Begin f ∷ (forth f z ++ [])) e q);
      })
  on-the-way (in_step j l F q) =
      record {
        word = Begin f ∷ (forth f j ++ (Begin (f + suc j) ∷ Abort f ∷ Abort (f + suc j) ∷ back f n j));
        is_word = within j l;
        rest = Abort f ∷ Abort (f + suc j) ∷ back f n j;
        begins_it = longer f j (Begin (f + suc j) ∷ []) (Abort f ∷ Abort (f + suc j) ∷ back f n j) (own_word f n h) q;
      }
  on-the-way (failed j l F q) =
      record {
        word = Begin f ∷ (forth f j ++ (Begin (f + suc j) ∷ Abort (f + suc j) ∷ Abort f ∷ back f n j));
        is_word = failing j l;
        rest = Abort f ∷ back f n j;
        begins_it = longer f j (Begin (f + suc j) ∷ Abort (f + suc j) ∷ []) (Abort f ∷ back f n j) (own_word f n h) q;
      }
  on-the-way (closed F q) = record { word = Begin f ∷ (forth f n ++ (Commit f ∷ [])); is_word = whole; rest = []; begins_it = append-nil (own_word f n h) ∙ q }
  on-the-way (torn j l F q) =
      record {
        word = Begin f ∷ (forth f j ++ (Begin (f + suc j) ∷ Abort f ∷ Abort (f + suc j) ∷ back f n j));
        is_word = within j l;
        rest = Abort (f + suc j) ∷ back f n j;
        begins_it = longer f j (Begin (f + suc j) ∷ Abort f ∷ []) (Abort (f + suc j) ∷ back f n j) (own_word f n h) q;
      }
  on-the-way (undoing j k x w kj jn nx ny F is q) = record { word = w; is_word = is; rest = back f n k; begins_it = q }
  on-the-way (in-undo j k x w kj jn nx ny F is q) = record { word = w; is_word = is; rest = Commit (f + (n + suc k)) ∷ back f n k; begins_it = q }

-- ---- own events

pub own-append : (f n : ℕ) (u v : List Event) → own_word f n (u ++ v) ≡ own_word f n u ++ own_word f n v
unfolding own_word
own-append f n [] v = refl
own-append f n (e ∷ u) v =
    bool_cases (is_own f n e)
    (λ b. rw b (ap (λ (l : List Event). e ∷ l) (own-append f n u v)))
    (λ b. rw b (own-append f n u v))

pub own-one : (f n : ℕ) (e : Event) → is_own f n e ≡ true → own_word f n (e ∷ []) ≡ e ∷ []
unfolding own_word
own-one f n e b = rw b

own-none : (f n : ℕ) (e : Event) → is_own f n e ≡ false → own_word f n (e ∷ []) ≡ []
unfolding own_word
own-none f n e b = rw b

-- a move is of one of its own
move-own : {n : ℕ} {P : ℕ → Phase} (f : ℕ) (m : Move n P) → 1 ≤ n → is_own f n (move_event f m) ≡ true
move-own {n} f (begin-saga a) l = let q : f + 0 ≡ f = omega arith in rw q at (mine-on f n 0 (omega arith))
move-own {n} f (begin-step i a b c d e) l = mine-on f n i (omega arith)
move-own {n} f (begin_undo i a b c d e w g) l = mine-on f n (n + i) (omega arith)
move-own {n} f (commit-saga a b) l = let q : f + 0 ≡ f = omega arith in rw q at (mine-on f n 0 (omega arith))
move-own {n} f (commit-step i a b c d) l = mine-on f n i (omega arith)
move-own {n} f (commit_undo i a b c) l = mine-on f n (n + i) (omega arith)
move-own {n} f (abort-saga a b) l = let q : f + 0 ≡ f = omega arith in rw q at (mine-on f n 0 (omega arith))
move-own {n} f (abort_step i a b c) l = mine-on f n i (omega arith)

stage-same : (f n : ℕ) → 1 ≤ n → (P P' : ℕ → Phase) (W : List Event) → ((k : ℕ) → k < n + n → code (P' k) ≡ code (P k)) → Stage f n P W → Stage f n P' W
stage-same f n l P P' W same (not-begun F q) = not-begun (form-same n P P' l same 0 0 0 0 0 (omega arith) F) q
stage-same f n l P P' W same (at_rest j b F q) = at_rest j b (form-same n P P' l same 1 j 0 j 0 b F) q
stage-same f n l P P' W same (in_step j b F q) = in_step j b (form-same n P P' l same 1 j 1 j 0 (omega arith) F) q
stage-same f n l P P' W same (failed j b F q) = failed j b (form-same n P P' l same 1 j 3 j 0 (omega arith) F) q
stage-same f n l P P' W same (closed F q) = closed (form-same n P P' l same 2 n 0 n 0 (omega arith) F) q
stage-same f n l P P' W same (torn j b F q) = torn j b (form-same n P P' l same 3 j 1 j 0 (omega arith) F) q
stage-same f n l P P' W same (undoing j k x w kj jn nx ny F is q) = undoing j k x w kj jn nx ny (form-same n P P' l same 3 j x k 0 (omega arith) F) is q
stage-same f n l P P' W same (in-undo j k x w kj jn nx ny F is q) = in-undo j k x w kj jn nx ny (form-same n P P' l same 3 j x (suc k) 1 (omega arith) F) is q

module _ (tables : Tables) (well : Well tables) (es : List Event) (i : ℕ) (listed : i < tables.sagas) where
  abbrev h : List Event
  h = history tables es

  has-step : 1 ≤ n tables h i
  has-step = (well-steps tables well i listed).0

  abbrev Staged : List Event → Type 0
  Staged u = Stage (first_of tables i) (steps_of tables i) (own (reached tables u).transactions (first_of tables i)) (own_word (first_of tables i) (steps_of tables i) u)

  module _ (u : List Event) (e : Event) (at : Happens h u e) where
    abbrev later : List Event
    later = u ++ (e ∷ [])

    reached-later : state_after (change_of tables (reached tables u).transactions e) (reached tables u) ≡ reached tables later
    reached-later = sym (run-append tables u (e ∷ []) empty_state ∙ run-one tables (reached tables u) e ∙ next-ok tables (reached tables u) e (accepted-there tables es u e at))

    told-later : IsTold tables later later
    told-later = subst (IsTold tables later) ((is_history tables es).beginnings later at.0 (at.1 ∙ sym (append_assoc u (e ∷ []) at.0))) (is_told tables later well)

    -- whoever begins or ends is in another phase then
    began-now : (t : ℕ) → begins t e ≡ true → phase_of (reached tables later).transactions t ≡ phase_of (reached tables u).transactions t → ⊥
    unfolding occurs
    began-now t b same =
        clash (occurs-append (begins t) u (e ∷ []) ∙ or_right (began u t) (begins t e || false) (or_left (begins t e) false b))
        (on-not (began later t) (sym (told-later.idle t) ∙ ap is_idle same ∙ (told_at tables well es u e at).idle t ∙ rw ((fundamental tables well es).one_begin u e at t b)))

    ended-now : (t : ℕ) → acts_in t e ≡ true → (commits t e || aborts t e) ≡ true → phase_of (reached tables later).transactions t ≡ phase_of (reached tables u).transactions t → ⊥
    unfolding occurs
    ended-now t a b same =
        by-phase (phase_of (reached tables u).transactions t) ((told_at tables well es u e at).active t ∙ (fundamental tables well es).in_between u e at t a)
        (bool_cases (commits t e)
        (λ c. or_left (is_committed (phase_of (reached tables u).transactions t)) (is_aborted (phase_of (reached tables u).transactions t))
        (ap is_committed (sym same) ∙ told-later.committed_is t ∙ occurs-append (commits t) u (e ∷ []) ∙ or_right (committed u t) (commits t e || false) (or_left (commits t e) false c)))
        (λ c. or_right (is_committed (phase_of (reached tables u).transactions t)) (is_aborted (phase_of (reached tables u).transactions t))
        (ap is_aborted (sym same) ∙ told-later.aborted_is t ∙ occurs-append (aborts t) u (e ∷ []) ∙ or_right (aborted u t) (aborts t e || false) (or_left (aborts t e) false (or-rest (commits t e) (aborts t e) b c)))))
      where
        by-phase : (p : Phase) → is_active p ≡ true → (is_committed p || is_aborted p) ≡ true → ⊥
        by-phase Idle a b = clash a refl
        by-phase Active a b = clash b refl
        by-phase Committed a b = clash a refl
        by-phase Aborted a b = clash a refl

    -- so where none of the saga's own is, the event is none of its own
    none-own : ((k : ℕ) → k < 2 * steps_of tables i → own (reached tables later).transactions (first_of tables i) k ≡ own (reached tables u).transactions (first_of tables i) k)
        → is_own (first_of tables i) (steps_of tables i) e ≡ false
    none-own same = is-not (is_own (first_of tables i) (steps_of tables i) e) (λ o. by e refl o)
      where
        place : (t : ℕ) → mine (first_of tables i) (steps_of tables i) t ≡ true → phase_of (reached tables later).transactions t ≡ phase_of (reached tables u).transactions t
        place t o =
            let b = on_and (leb (first_of tables i) t) (ltb t (first_of tables i + 2 * steps_of tables i)) o in
            let low = leb-true (first_of tables i) t b.0 in
            let high = ltb-true t (first_of tables i + 2 * steps_of tables i) b.1 in
            let e : first_of tables i + (t - first_of tables i) ≡ t = omega arith in
            subst (λ (z : ℕ). phase_of (reached tables later).transactions z ≡ phase_of (reached tables u).transactions z) e (same (t - first_of tables i) (omega arith))

        me : (t : ℕ) → eqb t t ≡ true
        me t = eq-eqb t t refl

        by : (x : Event) → e ≡ x → is_own (first_of tables i) (steps_of tables i) x ≡ true → ⊥
        by (Begin t) q o = began-now t (ap (begins t) q ∙ me t) (place t o)
        by (Commit t) q o = ended-now t (ap (acts_in t) q ∙ me t) (ap (λ (y : Event). commits t y || aborts t y) q ∙ or_left (eqb t t) false (me t)) (place t o)
        by (Abort t) q o = ended-now t (ap (acts_in t) q ∙ me t) (ap (λ (y : Event). commits t y || aborts t y) q ∙ me t) (place t o)
        by (Invoke t p m) q o = clash o refl
        by (Delegate t r p) q o = clash o refl
        by (CommitOne t p) q o = clash o refl
        by (AbortOne t p) q o = clash o refl
        by (Spawn m c) q o = began-now c (ap (begins c) q ∙ me c) (place c o)

    stage-more : Staged u → Staged later
    stage-more st =
        go (acts tables well i listed (reached tables u) (lasting tables u).full e (accepted-there tables es u e at))
      where
        go : Acts tables (first_of tables i) (steps_of tables i) (reached tables u) e → Staged later
        go (moved m d q) =
            let f = first_of tables i in
            let n = steps_of tables i in
            subst (λ (s : State). Stage f n (own s.transactions f) (own_word f n later)) reached-later
            (subst⁻¹ (Stage f n (own (state_after (change_of tables (reached tables u).transactions e) (reached tables u)).transactions f))
            (own-append f n u (e ∷ []) ∙ ap (λ (l : List Event). own_word f n u ++ l) (own-one f n e (ap (is_own f n) q ∙ move-own f m has-step)) ∙ ap (λ (x : Event). own_word f n u ++ (x ∷ [])) q)
            (onward f n has-step (own (reached tables u).transactions f) (own (state_after (change_of tables (reached tables u).transactions e) (reached tables u)).transactions f)
            (own_word f n u) m d st))
        go (quiet same c) =
            let f = first_of tables i in
            let n = steps_of tables i in
            let still : (k : ℕ) → k < 2 * n → own (reached tables later).transactions f k ≡ own (reached tables u).transactions f k = λ k l. ap (λ (s : State). own s.transactions f k) (sym reached-later) ∙ same k l in
            subst⁻¹ (Stage f n (own (reached tables later).transactions f))
            (own-append f n u (e ∷ []) ∙ ap (λ (l : List Event). own_word f n u ++ l) (own-none f n e (none-own still)) ∙ append-nil (own_word f n u))
            (stage-same f n has-step (own (reached tables u).transactions f) (own (reached tables later).transactions f) (own_word f n u) (λ k l. ap code (still k (omega arith))) st)

  no_word : own_word (first_of tables i) (steps_of tables i) [] ≡ []
  unfolding own_word
  no_word = refl

  all-idle-now : (k : ℕ) → code (own (reached tables []).transactions (first_of tables i) k) ≡ 0
  all-idle-now k = ap (λ (s : State). code (own s.transactions (first_of tables i) k)) (run_none tables empty_state) ∙ ap code (all-idle (first_of tables i + k))

  pub staged : Staged h
  staged =
      along h Staged stage-more h [] refl
      (not-begun
      (record {
        saga = all-idle-now 0;
        up = λ k p q. absurd (omega arith);
        at = λ p. all-idle-now 1;
        above = λ k p q. all-idle-now k;
        undone = λ k p q r. absurd (omega arith);
        undo = λ p q. absurd (omega arith);
        below = λ k p q r. absurd (omega arith);
        beyond = λ k p q r. all-idle-now (steps_of tables i + k);
      })
      no_word)

  pub saga-run : SagaRun tables h i
  saga-run = on-the-way tables h i staged
