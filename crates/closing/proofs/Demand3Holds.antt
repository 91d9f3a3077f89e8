-- Demand 3, for every saga of tables that reading accepts, after any events.
use Prim.Native.Nat.{ℕ, zero, suc, ◌+◌, ◌-◌, ◌*◌, ◌≤◌, ◌<◌, min}
use native.Mathlib.Omega.{arith}
use mathlib.Core.Path.{◌≡◌, refl, sym, ap, ◌∙◌, ap₂}
use mathlib.Core.Logic.{◌≢◌, ◌⊎◌, ◌↔◌}
use mathlib.Core.List.{List, [], ◌∷◌}
use mathlib.Core.Bool.{Bool, true, not, ◌&&◌}
use lib.Dec.{ltb}
use borrow.Author.Tests.{lt-ltb, le-ltb}
use mathlib.Core.Option.{some}
use Rattle.laws.specs.Index.{highest, sum_to}
use Rattle.laws.proofs.Bools.{clash, not-off, on_and}
use Rattle.laws.proofs.Decisions.{lt-or}
use Rattle.laws.proofs.HighestLaws.{highest-le, highest-same, sum_same}
use Rattle.terms.specs.Limits.{most_sagas}
use Rattle.terms.specs.declared.Verdict.TheVariants.{Accepted}
use Rattle.tables.specs.Accepted.{Well}
use Rattle.tables.specs.Reading.{tables_by}
use Rattle.tables.specs.Sorts.{first_of, steps_of}
use Rattle.tables.specs.declared.Tables.{Tables}
use Rattle.tables.proofs.AcceptedWellHolds.{accepted-well}
use Rattle.tables.proofs.SagaLaws.{well-steps}
use Rattle.histories.specs.Histories.{history, reached, run}
use Rattle.judge.specs.Judge.{change_of, judged, state_after}
use Rattle.rules.specs.Rules.{undone}
use Rattle.rules.specs.States.{empty_state, is_active, is_committed}
use Rattle.terms.specs.declared.Event.{Event}
use Rattle.rules.specs.declared.Phase.{Phase}
use Rattle.rules.specs.declared.Phase.TheVariants.{Aborted, Active, Committed, Idle}
use Rattle.rules.specs.declared.State.{State}
use Rattle.rules.proofs.PhaseLaws.{code-inj}
use Rattle.histories.proofs.Steps.{step}
use Rattle.judge.proofs.EventLaws.{by-verdict, next-ok}
use Rattle.histories.proofs.RunLaws.{keeps, run-no, run_none, run_ok}
use Rattle.closing.specs.Closing.{active_step, back_step, closing, closing_by, event_of, is_listed, next_undo, outstanding, outstanding_by, owed, own_of, settled, to_undo}
use Rattle.closing.specs.Demand.{Beginning, Closes, Demand, Demand3, Demand3Read, all_foreign, back_run, commits_of, foreign, mine, whole_run}
use Rattle.closing.proofs.Acts.{Acts, acts, mine-on, moved, quiet}
use Rattle.closing.proofs.ClosingAccepted.{accept, does}
use Rattle.closing.proofs.Moves.{Move, abort-saga, abort_step, begin-saga, begin-step, begin_undo, commit-saga, commit-step, commit_undo, moved_at}
use Rattle.closing.proofs.Order.{Fair, fair-kept, fair-start, in_order}
use Rattle.closing.proofs.OutstandingLaws.{bound, closes, closing_of, move_event, none_left, outstanding_of, settled-zero, settled_of, zero_settled}
use Rattle.closing.proofs.Shapes.{begun}
use Rattle.closing.proofs.UndoTies.{Tidy, tidy-kept, tidy-start}

-- ---- phases that agree below 2n have the same number and the same closing step

module _ (f n : ℕ) (P P' : ℕ → Phase) (same : (k : ℕ) → k < 2 * n → P' k ≡ P k) (1≤n : 1 ≤ n) where
  active-same : active_step n P' ≡ active_step n P
  unfolding active_step
  active-same = highest-same n (λ i. is_active (P' i)) (λ i. is_active (P i)) (λ i l r. ap is_active (same i (omega arith)))

  next-same : next_undo n P' ≡ next_undo n P
  unfolding next_undo
  next-same =
      highest-same (n - 1) (λ i. is_committed (P' i) && not (is_committed (P' (n + i)))) (λ i. is_committed (P i) && not (is_committed (P (n + i))))
      (λ i l r. rw (same i (omega arith), same (n + i) (omega arith)))

  to-undo-same : to_undo n P' ≡ to_undo n P
  unfolding to_undo
  to-undo-same =
      let b : sum_to (n - 1) (owed n P') ≡ sum_to (n - 1) (owed n P) =
      sum_same (n - 1) (owed n P') (owed n P) (λ i l r. rw (same i (omega arith), same (n + i) (omega arith)))
      in
      rw (active-same, b)

  out-by : (p : Phase) → outstanding_by p n P' ≡ outstanding_by p n P
  out-by Idle = refl
  out-by Active = rw (same n (omega arith), to-undo-same)
  out-by Committed = refl
  out-by Aborted = to-undo-same

  pub out-same : outstanding_of n P' ≡ outstanding_of n P
  out-same = rw (same 0 (omega arith)) (out-by (P 0))

  back-same : (a u : ℕ) → u ≤ n - 1 → back_step f n P' a u ≡ back_step f n P a u
  back-same zero zero l = refl
  back-same zero (suc i) l = rw (same (n + suc i) (omega arith))
  back-same (suc a) u l = refl

  next_le : next_undo n P ≤ n - 1
  unfolding next_undo
  next_le = highest-le (n - 1) (λ i. is_committed (P i) && not (is_committed (P (n + i))))

  close-by : (p : Phase) → closing_by p f n P' ≡ closing_by p f n P
  close-by Idle = refl
  close-by Active = rw (same n (omega arith))
  close-by Committed = refl
  close-by Aborted = rw (active-same, next-same) (back-same (active_step n P) (next_undo n P) next_le)

  pub close-same : closing_of f n P' ≡ closing_of f n P
  close-same = rw (same 0 (omega arith)) (close-by (P 0))

  pub settled_same : settled_of n P' ≡ settled_of n P
  settled_same =
      let b : highest n (λ i. is_committed (P' i) && not (undone n P' i)) ≡ highest n (λ i. is_committed (P i) && not (undone n P i)) =
      highest-same n (λ i. is_committed (P' i) && not (undone n P' i)) (λ i. is_committed (P i) && not (undone n P i))
      (λ i l r. ap₂ (λ (u v : Bool). u && not v) (ap is_committed (same i (omega arith))) (undone-same i r))
      in
      rw (same 0 (omega arith), active-same, b)
    where
      undone-same : (i : ℕ) → i ≤ n → undone n P' i ≡ undone n P i
      undone-same i r =
          lt-or i n (λ l. ap (λ (p : Phase). ltb i n && is_committed p) (same (n + i) (omega arith))) (λ l. rw (le-ltb i n l))

-- ---- a move's event, and whose it is

-- the transaction of a move's event is one of the saga's own
pub own-low : {n : ℕ} {P : ℕ → Phase} (m : Move n P) → 1 ≤ n → moved_at m < 2 * n
own-low (begin-saga a) h = omega arith
own-low (begin-step i a b c d e) h = omega arith
own-low (begin_undo i a b c d e w g) h = omega arith
own-low (commit-saga a b) h = omega arith
own-low (commit-step i a b c d) h = omega arith
own-low (commit_undo i a b c) h = omega arith
own-low (abort-saga a b) h = omega arith
own-low (abort_step i a b c) h = omega arith

-- whether a move's event is foreign to the saga g, k is whether its transaction is none of that saga's own
pub move-foreign : {n : ℕ} {P : ℕ → Phase} (f : ℕ) (m : Move n P) (g k : ℕ) → foreign g k (move_event f m) ≡ not (mine g k (f + moved_at m))
move-foreign f (begin-saga a) g k = let q : f ≡ f + 0 = omega arith in ap (λ (t : ℕ). not (mine g k t)) q
move-foreign f (begin-step i a b c d e) g k = refl
move-foreign f (begin_undo i a b c d e w h) g k = refl
move-foreign f (commit-saga a b) g k = let q : f ≡ f + 0 = omega arith in ap (λ (t : ℕ). not (mine g k t)) q
move-foreign f (commit-step i a b c d) g k = refl
move-foreign f (commit_undo i a b c) g k = refl
move-foreign f (abort-saga a b) g k = let q : f ≡ f + 0 = omega arith in ap (λ (t : ℕ). not (mine g k t)) q
move-foreign f (abort_step i a b c) g k = refl

-- ---- one saga of well formed tables

-- what events keep, for demand 3
pub record Good (tables : Tables) (i : ℕ) (s : State) : Type 0 where
  pub fair : Fair (first_of tables i) (steps_of tables i) s
  pub tidy : Tidy tables s

module _ (tables : Tables) (well : Well tables) (i : ℕ) (low : i < tables.sagas) where
  abbrev f : ℕ
  f = first_of tables i

  abbrev n : ℕ
  n = steps_of tables i

  pub has-step : 1 ≤ n
  has-step = (well-steps tables well i low).0

  is-listed : is_listed tables i ≡ true
  is-listed = lt-ltb i (min tables.sagas most_sagas) (omega (arith, well.listed))

  pub out-is : (s : State) → outstanding tables s i ≡ outstanding_of n (own_of tables s i)
  unfolding outstanding
  out-is s = rw is-listed

  pub close-is : (s : State) → closing tables s i ≡ closing_of f n (own_of tables s i)
  unfolding closing
  close-is s = rw is-listed

  pub settled_is : (s : State) → settled tables s i ≡ settled_of n (own_of tables s i)
  unfolding settled
  settled_is s = rw is-listed

  pub good-kept : (s : State) (e : Event) → Good tables i s → (judged tables s e).verdict ≡ Accepted → Good tables i (state_after (change_of tables s.transactions e) s)
  good-kept s e h v = record { fair = fair-kept tables well i low s e h.fair v; tidy = tidy-kept tables s (change_of tables s.transactions e) h.tidy (step tables s e v) }

  pub good_start : Good tables i empty_state
  good_start = record { fair = fair-start tables well i low; tidy = tidy-start tables }

  pub good-run : (es : List Event) (s : State) → Good tables i s → Good tables i (run tables s es)
  good-run = keeps tables (Good tables i) good-kept

  -- others' events leave the saga's own transactions alone
  pub alike : (fs : List Event) (s : State) → Good tables i s → all_foreign f n fs ≡ true
      → (k : ℕ) → k < 2 * n → own_of tables (run tables s fs) i k ≡ own_of tables s i k
  unfolding all_foreign
  alike [] s h a k l = ap (λ (x : State). own_of tables x i k) (run_none tables s)
  alike (e ∷ fs) s h a k l =
      let b = on_and (foreign f n e) (all_foreign f n fs) a in
      by-verdict tables s e
      (λ v.
      ap (λ (x : State). own_of tables x i k) (run_ok tables s e v fs)
      ∙ alike fs (state_after (change_of tables s.transactions e) s) (good-kept s e h v) b.1 k l
      ∙ go (acts tables well i low s h.fair.lasts.full e v) b.0)
      (λ x v. ap (λ (x : State). own_of tables x i k) (run-no tables s e x v fs) ∙ alike fs s h b.1 k l)
    where
      go : Acts tables f n s e → foreign f n e ≡ true → own_of tables (state_after (change_of tables s.transactions e) s) i k ≡ own_of tables s i k
      go (moved m d q) t =
          clash (rw q at t) (move-foreign f m f n ∙ not-off (mine f n (f + moved_at m)) (mine-on f n (moved_at m) (own-low m has-step)))
      go (quiet same c) t = same k l

  -- a closing step lowers the number by one
  pub record Lowers (s : State) : Type 0 where
    pub event : Event
    pub named : event_of (closing tables s i) ≡ some event
    pub accepted : (judged tables s event).verdict ≡ Accepted
    pub lowers : outstanding tables (judged tables s event).state i + 1 ≡ outstanding tables s i
    -- its transaction is the saga's own
    pub at : ℕ
    pub at_low : at < 2 * n
    pub event-at : (g k : ℕ) → foreign g k event ≡ not (mine g k (f + at))

  pub step_down : (s : State) → Good tables i s → 0 < outstanding tables s i → Lowers s
  step_down s h z =
      let c = closes f n (own_of tables s i) has-step h.fair.inv (rw (out-is s) at z) in
      let m = c.move in
      let v = accept tables well s h.tidy i low m c.safe in
      let e = move_event f m in
      let falls = c.falls (own_of tables (state_after (change_of tables s.transactions e) s) i) (does tables well i low s h.fair.lasts.full m) in
      record {
        event = e;
        named = ap event_of (close-is s) ∙ c.event;
        accepted = v;
        lowers =
            ap (λ (x : State). outstanding tables x i + 1) (next-ok tables s e v)
            ∙ ap (λ (k : ℕ). k + 1) (out-is (state_after (change_of tables s.transactions e) s))
            ∙ falls
            ∙ sym (out-is s);
        at = moved_at m;
        at_low = own-low m has-step;
        event-at = move-foreign f m;
      }

  demand-order : (es : List Event) → Beginning (commits_of f n (history tables es)) (whole_run f n)
      ⊎ ((j : ℕ) × (j < n) × Beginning (commits_of f n (history tables es)) (back_run f n j))
  demand-order = in_order tables well i low

  pub zero-exactly : (s : State) → Good tables i s → own_of tables s i 0 ≢ Idle → (outstanding tables s i ≡ 0) ↔ (settled tables s i ≡ true)
  zero-exactly s h begun = (
    λ z. settled_is s ∙ zero_settled n (own_of tables s i) has-step h.fair.inv (λ c. begun (code-inj (own_of tables s i 0) Idle c)) (sym (out-is s) ∙ z),
    λ z. out-is s ∙ settled-zero n (own_of tables s i) has-step h.fair.inv (sym (settled_is s) ∙ z),
  )

  demand-closes : (es others : List Event) → all_foreign f n others ≡ true → 0 < outstanding tables (reached tables es) i
      → Closes tables i (reached tables es) (run tables (reached tables es) others)
  demand-closes es others a z =
      let now : State = reached tables es in
      let later : State = run tables now others in
      let h : Good tables i now = good-run es empty_state good_start in
      let same = alike others now h a in
      let number : outstanding tables later i ≡ outstanding tables now i =
      out-is later ∙ out-same f n (own_of tables now i) (own_of tables later i) same has-step ∙ sym (out-is now) in
      let step : closing tables later i ≡ closing tables now i =
      close-is later ∙ close-same f n (own_of tables now i) (own_of tables later i) same has-step ∙ sym (close-is now) in
      let r = step_down later (good-run others now h) (omega arith) in
      record {
        event = r.event;
        named = ap event_of (sym step) ∙ r.named;
        named_later = r.named;
        same_number = number;
        accepted = r.accepted;
        lowers = r.lowers ∙ number;
      }

  pub demand : Demand tables i
  demand =
      record {
        order = demand-order;
        bounded = λ es. rw (out-is (reached tables es)) (bound n (own_of tables (reached tables es) i) has-step);
        zero = λ es. zero-exactly (reached tables es) (good-run es empty_state good_start);
        none_at_zero = λ es z. close-is (reached tables es)
            ∙ none_left f n (own_of tables (reached tables es) i) has-step (good-run es empty_state good_start).fair.inv (sym (out-is (reached tables es)) ∙ z);
        closes = demand-closes;
      }

pub demand3 : Demand3
demand3 = demand

pub demand3-read : Demand3Read
demand3-read circles ed s at e i low = demand3 (tables_by circles ed s).tables (accepted-well circles ed s at e) i low
