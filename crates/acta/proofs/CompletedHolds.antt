-- Every history can be completed (★13, second half): the closing steps of the sagas, and then an abort of each plain one in progress.
use Prim.Native.Nat.{ℕ, zero, suc, ◌+◌, ◌-◌, ◌*◌, ◌≤◌, ◌<◌}
use native.Mathlib.Omega.{arith}
use mathlib.Core.Path.{◌≡◌, refl, sym, ap, subst, subst⁻¹, ◌∙◌}
use mathlib.Core.Bool.{Bool, true, false, not, ◌&&◌, ◌||◌}
use mathlib.Core.Logic.{◌≢◌, ◌⊎◌, inl, inr, ⊎_elim}
use mathlib.Core.List.{List, [], ◌∷◌, ◌++◌, append_assoc, append-nil}
use lib.Dec.{eqb, ltb}
use lib.ListN.{length, length-append, length-take, take}
use borrow.Author.Tests.{eqb-true, ltb-true}
use Rattle.laws.specs.Index.{highest}
use Rattle.laws.proofs.Bools.{bool_cases, clash, and-off, and-rest, is-not, not-off, off-not, on_and, on-not, or_cases, or_left, or_right}
use Rattle.laws.proofs.Decisions.{by_place, same_or}
use Rattle.laws.proofs.HighestLaws.{highest-none}
use Rattle.terms.specs.Limits.{most_transactions}
use Rattle.terms.specs.declared.Event.{Event}
use Rattle.terms.specs.declared.Event.TheVariants.{Abort}
use Rattle.tables.specs.Accepted.{Well}
use Rattle.tables.specs.Sorts.{first_of, is_known, is_saga, is_undo, number_of_all, owned_by, sagas_of, sort_of, steps_of}
use Rattle.tables.specs.declared.Sort.{Sort}
use Rattle.tables.specs.declared.Tables.{Tables}
use Rattle.tables.proofs.SagaLaws.{by-sort, listed-saga, owned-apart}
use Rattle.rules.specs.Rules.{undone}
use Rattle.rules.specs.States.{empty_state, is_aborted, is_active, is_committed, is_idle, own, phase_of}
use Rattle.rules.specs.declared.Phase.{Phase}
use Rattle.rules.specs.declared.Phase.TheVariants.{Idle}
use Rattle.rules.specs.declared.State.{State}
use Rattle.rules.proofs.PhaseLaws.{aborted_is, active-is, code, committed_is, idle-is, of-active, of-committed}
use Rattle.histories.specs.Histories.{history, reached, run}
use Rattle.histories.proofs.RunLaws.{run-append, taken-append}
use Rattle.closing.specs.Closing.{active_step, is_listed, outstanding, own_of, settled, settled_by}
use Rattle.closing.specs.Settling.{close_all, owed_below}
use Rattle.closing.proofs.ClosingSettlesHolds.{closing-settles}
use Rattle.closing.proofs.Demand3Holds.{demand3}
use Rattle.closing.proofs.SettledRunsHold.{settled-runs}
use Rattle.acta.specs.Completing.{Complete, Completed}
use Rattle.acta.specs.SagaWords.{own_word}
use Rattle.acta.specs.Told.{IsTold}
use Rattle.acta.specs.Words.{aborted, aborts, began, begins, committed, commits, ended, in_progress, occurs}
use Rattle.acta.proofs.ClosingBegins.{closing-begins}
use Rattle.acta.proofs.EndingsHold.{aborted-now}
use Rattle.acta.proofs.Places.{occurs-append}
use Rattle.acta.proofs.Runs.{is_history}
use Rattle.acta.proofs.SagaRunsHold.{staged}
use Rattle.acta.proofs.SagaStages.{Stage, at_rest, closed, failed, in_step, in-undo, not-begun, torn, undoing}
use Rattle.acta.proofs.Stages.{Form, no-undo-active, none-active}
use Rattle.acta.proofs.RingsTold.{going-low}
use Rattle.acta.proofs.StuckNever.{begun-known, never_stuck}
use Rattle.acta.proofs.ToldHolds.{is_told}

-- ---- a settled saga

-- S is committed; or aborted, with no step active, and every committed step undone
record AtEnd (n : ℕ) (P : ℕ → Phase) : Type 0 where
  over : (code (P 0) ≡ 2) ⊎ (code (P 0) ≡ 3)
  no_step : code (P 0) ≡ 3 → (i : ℕ) → 1 ≤ i → i ≤ n → is_active (P i) ≡ false
  all_undone : code (P 0) ≡ 3 → (i : ℕ) → 1 ≤ i → i ≤ n → is_committed (P i) ≡ true → undone n P i ≡ true

at-end : (n : ℕ) (P : ℕ → Phase) → settled_by (P 0) n P ≡ true → AtEnd n P
unfolding active_step
at-end n P e =
    ⊎_elim
    (λ c. record { over = inl (committed_is (P 0) c); no_step = λ a. absurd (omega (arith, a, committed_is (P 0) c)); all_undone = λ a. absurd (omega (arith, a, committed_is (P 0) c)) })
    (λ c.
    let left = eqb (highest n (λ i. is_committed (P i) && not (undone n P i))) 0 in
    let quiet = eqb (highest n (λ i. is_active (P i))) 0 in
    let x = on_and (is_aborted (P 0)) (quiet && left) c in
    let y = on_and quiet left x.1 in
    record {
      over = inr (aborted_is (P 0) x.0);
      no_step = λ a i l r. highest-none n (λ i. is_active (P i)) (eqb-true (highest n (λ i. is_active (P i))) 0 y.0) i l r;
      all_undone = λ a i l r d.
          off-not (undone n P i)
          (and-rest (is_committed (P i)) (not (undone n P i))
          (highest-none n (λ i. is_committed (P i) && not (undone n P i)) (eqb-true (highest n (λ i. is_committed (P i) && not (undone n P i))) 0 y.1) i l r) d);
    })
    (or_cases (is_committed (P 0)) (is_aborted (P 0) && (eqb (highest n (λ i. is_active (P i))) 0 && eqb (highest n (λ i. is_committed (P i) && not (undone n P i))) 0)) e)

-- of a saga that has not begun, or is settled, none of its own is active
module _ (f n : ℕ) (P : ℕ → Phase) (W : List Event) (ends : code (P 0) ≢ 0 → AtEnd n P) where
  form-quiet : (s j x k y : ℕ) → s ≢ 1 → x ≢ 1 → y ≢ 1 → Form n P s j x k y → (i : ℕ) → i < 2 * n → code (P i) ≢ 1
  form-quiet s j x k y ns nx ny F =
      by_place (λ i. code (P i) ≢ 1) n
      (λ l a. ns (sym F.saga ∙ a))
      (λ i l r a. none-active n P s j x k y F nx i l r a)
      (λ i l r a. no-undo-active n P s j x k y F ny i l r a)

  never-one : code (P 0) ≡ 1 → ⊥
  never-one a = ⊎_elim (λ c. omega arith) (λ c. omega arith) (ends (λ z. absurd (omega arith))).over

  none_going : Stage f n P W → (i : ℕ) → i < 2 * n → code (P i) ≢ 1
  none_going (not-begun F q) = form-quiet 0 0 0 0 0 (λ z. absurd (omega arith)) (λ z. absurd (omega arith)) (λ z. absurd (omega arith)) F
  none_going (at_rest j l F q) = absurd (never-one F.saga)
  none_going (in_step j l F q) = absurd (never-one F.saga)
  none_going (failed j l F q) = absurd (never-one F.saga)
  none_going (closed F q) = form-quiet 2 n 0 n 0 (λ z. absurd (omega arith)) (λ z. absurd (omega arith)) (λ z. absurd (omega arith)) F
  none_going (torn j l F q) =
      absurd (clash (is-active (P (suc j)) (F.at l)) ((ends (λ z. absurd (omega (arith, F.saga)))).no_step F.saga (suc j) (omega arith) l))
    where
      is-active : (p : Phase) → code p ≡ 1 → is_active p ≡ true
      is-active p e = rw (of-active p e)
  none_going (undoing j k x w kj jn nx ny F is q) = form-quiet 3 j x k 0 (λ z. absurd (omega arith)) nx (λ z. absurd (omega arith)) F
  none_going (in-undo j k x w kj jn nx ny F is q) =
      let d = (ends (λ z. absurd (omega (arith, F.saga)))).all_undone F.saga (suc k) (omega arith) (omega arith) (is-committed (P (suc k)) (F.up (suc k) (omega arith) kj)) in
      absurd (omega (arith, F.undo (omega arith) (omega arith), committed_is (P (n + suc k)) (on_and (ltb (suc k) n) (is_committed (P (n + suc k))) d).1))
    where
      is-committed : (p : Phase) → code p ≡ 2 → is_committed p ≡ true
      is-committed p e = rw (of-committed p e)

-- ---- one abort more

aborted-none : (w : List Event) (k t : ℕ) → began (w ++ (Abort k ∷ [])) t ≡ began w t
unfolding occurs
aborted-none w k t = occurs-append (begins t) w (Abort k ∷ []) ∙ or-none (began w t)
  where
    or-none : (b : Bool) → (b || false) ≡ b
    or-none true = refl
    or-none false = refl

still-ended : (w : List Event) (k t : ℕ) → in_progress w t ≡ false → in_progress (w ++ (Abort k ∷ [])) t ≡ false
still-ended w k t e =
    is-not (in_progress (w ++ (Abort k ∷ [])) t)
    (λ i.
    let both = on_and (began (w ++ (Abort k ∷ [])) t) (not (ended (w ++ (Abort k ∷ [])) t)) i in
    let b = sym (aborted-none w k t) ∙ both.0 in
    let over = off-not (ended w t) (and-rest (began w t) (not (ended w t)) e b) in
    clash
    (⊎_elim
    (λ c. or_left (committed (w ++ (Abort k ∷ [])) t) (aborted (w ++ (Abort k ∷ [])) t) (occurs-append (commits t) w (Abort k ∷ []) ∙ or_left (committed w t) (committed (Abort k ∷ []) t) c))
    (λ c. or_right (committed (w ++ (Abort k ∷ [])) t) (aborted (w ++ (Abort k ∷ [])) t) (occurs-append (aborts t) w (Abort k ∷ []) ∙ or_left (aborted w t) (aborted (Abort k ∷ []) t) c))
    (or_cases (committed w t) (aborted w t) over))
    (on-not (ended (w ++ (Abort k ∷ [])) t) both.1))

just-ended : (w : List Event) (k : ℕ) → in_progress (w ++ (Abort k ∷ [])) k ≡ false
just-ended w k =
    and-off (began (w ++ (Abort k ∷ [])) k) (not (ended (w ++ (Abort k ∷ [])) k))
    (λ b. not-off (ended (w ++ (Abort k ∷ [])) k) (or_right (committed (w ++ (Abort k ∷ [])) k) (aborted (w ++ (Abort k ∷ [])) k) (aborted-now w k)))

is-listed : (tables : Tables) (i : ℕ) → 1 ≤ steps_of tables i → i < tables.sagas
is-listed tables i l = omega (arith, listed-saga tables i l, length-take tables.sagas tables.steps)

settled_is : (tables : Tables) (s : State) (i : ℕ) → settled tables s i ≡ true → settled_by (own_of tables s i 0) (steps_of tables i) (own_of tables s i) ≡ true
unfolding settled
settled_is tables s i e = bool_cases (is_listed tables i) (λ b. rw b at e) (λ b. clash (rw b at e) refl)

-- ---- how many events

owned-front : (ns : List ℕ) (j : ℕ) → owned_by (take j ns) ≤ owned_by ns
unfolding owned_by
owned-front [] zero = omega arith
owned-front [] (suc j) = omega arith
owned-front (n ∷ ns) zero = omega arith
owned-front (n ∷ ns) (suc j) = omega (arith, owned-front ns j)

-- the sagas below k owe no more than they own
owed-low : (tables : Tables) → Well tables → (es : List Event) (k : ℕ) → k ≤ tables.sagas → owed_below tables (reached tables es) k ≤ first_of tables k
unfolding owed_below
owed-low tables well es zero l = omega arith
owed-low tables well es (suc k) l = omega (arith, owed-low tables well es k (omega arith), (demand3 tables well k l).bounded es, owned-apart tables k (suc k) (omega arith))

module _ (tables : Tables) (well : Well tables) (es : List Event) where
  -- ---- first the closing steps of all sagas

  abbrev closing : List Event
  closing = close_all tables (reached tables es) tables.sagas

  abbrev w₀ : List Event
  w₀ = history tables es ++ closing

  closed-taken : history tables (es ++ closing) ≡ w₀
  closed-taken = taken-append tables es closing empty_state ∙ ap (λ (l : List Event). history tables es ++ l) (closing-settles tables well es).all.0

  all-w₀ : history tables w₀ ≡ w₀
  all-w₀ = subst (λ (l : List Event). history tables l ≡ l) closed-taken (is_history tables (es ++ closing)).again

  reached-w₀ : reached tables w₀ ≡ reached tables (es ++ closing)
  reached-w₀ = ap (reached tables) (sym closed-taken) ∙ (is_history tables (es ++ closing)).state

  -- each saga that has begun then is settled
  settled-w₀ : (i : ℕ) → i < tables.sagas → own_of tables (reached tables (es ++ closing)) i 0 ≢ Idle → settled tables (reached tables (es ++ closing)) i ≡ true
  settled-w₀ i l b =
      ((demand3 tables well i l).zero (es ++ closing) b).0
      (subst⁻¹ (λ (s : State). outstanding tables s i ≡ 0) (run-append tables es closing empty_state) ((closing-settles tables well es).over i l))

  -- ---- then aborts of whoever is in progress

  -- what aborts behind it leave so
  record Clear (k : ℕ) : Type 0 where
    more : List Event
    taken-all : history tables (w₀ ++ more) ≡ w₀ ++ more
    none-begun : (t : ℕ) → began (w₀ ++ more) t ≡ began w₀ t
    clear : (t : ℕ) → t < k → in_progress (w₀ ++ more) t ≡ false
    -- each is that of a plain one
    few : length more ≤ k - owned_by (sagas_of tables)
    at_most : length more ≤ tables.plain

  module _ (more : List Event) (all : history tables (w₀ ++ more) ≡ w₀ ++ more) (begun : (t : ℕ) → began (w₀ ++ more) t ≡ began w₀ t) where
    abbrev w : List Event
    w = w₀ ++ more

    told : IsTold tables w w
    told = subst (IsTold tables w) all (is_told tables w well)

    told₀ : IsTold tables w₀ w₀
    told₀ = subst (IsTold tables w₀) all-w₀ (is_told tables w₀ well)

    -- a saga that has begun by then is settled still
    ends : (i : ℕ) → i < tables.sagas → code (own_of tables (reached tables w) i 0) ≢ 0 → AtEnd (steps_of tables i) (own_of tables (reached tables w) i)
    ends i l b =
        at-end (steps_of tables i) (own_of tables (reached tables w) i)
        (by-settled i
        (subst⁻¹ (λ (s : State). settled tables s i ≡ true) (run-append tables w₀ more empty_state ∙ ap (λ (s : State). run tables s more) reached-w₀)
        ((settled-runs tables well i l).stays (es ++ closing) more (settled-w₀ i l (λ e. b (still-idle e))))))
      where
        by-settled : (i : ℕ) → settled tables (reached tables w) i ≡ true → settled_by (own_of tables (reached tables w) i 0) (steps_of tables i) (own_of tables (reached tables w) i) ≡ true
        by-settled i e = settled_is tables (reached tables w) i e

        still-idle : own_of tables (reached tables (es ++ closing)) i 0 ≡ Idle → code (own_of tables (reached tables w) i 0) ≡ 0
        still-idle e =
            let t = first_of tables i + 0 in
            idle-is (phase_of (reached tables w).transactions t)
            (told.idle t ∙ ap not (begun t) ∙ sym (told₀.idle t) ∙ ap (λ (s : State). is_idle (phase_of s.transactions t)) reached-w₀ ∙ ap is_idle e)

    stage-now : (i : ℕ) → i < tables.sagas → Stage (first_of tables i) (steps_of tables i) (own (reached tables w).transactions (first_of tables i)) (own_word (first_of tables i) (steps_of tables i) w)
    stage-now i l =
        subst (λ (x : List Event). Stage (first_of tables i) (steps_of tables i) (own (reached tables x).transactions (first_of tables i)) (own_word (first_of tables i) (steps_of tables i) x)) all
        (staged tables well w i l)

    -- so none of a saga's own is in progress
    own-quiet : (i k : ℕ) → 1 ≤ steps_of tables i → k < 2 * steps_of tables i → in_progress w (first_of tables i + k) ≡ true → ⊥
    own-quiet i k l r a =
        let f = first_of tables i in
        let n = steps_of tables i in
        let i-listed = is-listed tables i l in
        let stage = stage-now i i-listed in
        none_going f n (own (reached tables w).transactions f) (own_word f n w) (ends i i-listed) stage k r (active-is (phase_of (reached tables w).transactions (f + k)) (told.active (f + k) ∙ a))

    -- whoever is in progress is plain
    is-plain : (t : ℕ) → in_progress w t ≡ true → (owned_by (sagas_of tables) ≤ t) × (t < number_of_all tables)
    is-plain t a =
        by-sort tables t (λ (x : Sort). is_known x ≡ true → (owned_by (sagas_of tables) ≤ t) × (t < number_of_all tables))
        (λ i l e k. absurd (own-quiet i 0 l (omega arith) (subst (λ (z : ℕ). in_progress w z ≡ true) (e ∙ omega arith) a)))
        (λ i j l r e k. absurd (own-quiet i j (omega arith) (omega arith) (subst (λ (z : ℕ). in_progress w z ≡ true) e a)))
        (λ i j l r e k. absurd (own-quiet i (steps_of tables i + j) (omega arith) (omega arith) (subst (λ (z : ℕ). in_progress w z ≡ true) e a)))
        (λ l r k. (l, r))
        (λ l k. clash k refl)
        (begun-known tables w t (subst⁻¹ (λ (x : List Event). began x t ≡ true) all (on_and (began w t) (not (ended w t)) a).0))

    -- whoever is in progress can abort
    can-abort : (t : ℕ) → in_progress w t ≡ true → history tables (w ++ (Abort t ∷ [])) ≡ w ++ (Abort t ∷ [])
    can-abort t a =
        let plain = by-sort tables t (λ (x : Sort). (is_undo x ≡ false) × (is_saga x ≡ false))
        (λ i l e. absurd (own-quiet i 0 l (omega arith) (subst (λ (z : ℕ). in_progress w z ≡ true) (e ∙ omega arith) a)))
        (λ i j l r e. absurd (own-quiet i j (omega arith) (omega arith) (subst (λ (z : ℕ). in_progress w z ≡ true) e a)))
        (λ i j l r e. absurd (own-quiet i (steps_of tables i + j) (omega arith) (omega arith) (subst (λ (z : ℕ). in_progress w z ≡ true) e a)))
        (λ l r. (refl, refl))
        (λ l. (refl, refl)) in
        subst (λ (x : List Event). in_progress x t ≡ true → history tables (x ++ (Abort t ∷ [])) ≡ x ++ (Abort t ∷ [])) all ((never_stuck tables well w).others t plain.0 plain.1) a

  cleared : (k : ℕ) → Clear k
  cleared zero =
      record {
        more = [];
        taken-all = subst⁻¹ (λ (x : List Event). history tables x ≡ x) (append-nil w₀) all-w₀;
        none-begun = λ t. ap (λ (x : List Event). began x t) (append-nil w₀);
        clear = λ t l. absurd (omega arith);
        few = omega arith;
        at_most = omega arith;
      }
  cleared (suc k) = go (cleared k)
    where
      go : Clear k → Clear (suc k)
      go c =
          let x = w₀ ++ c.more in
          bool_cases (in_progress x k)
          (λ a.
          let joined = append_assoc w₀ c.more (Abort k ∷ []) in
          let one-longer : length (c.more ++ (Abort k ∷ [])) ≡ length c.more + 1 = length-append c.more (Abort k ∷ []) in
          record {
            more = c.more ++ (Abort k ∷ []);
            taken-all = subst (λ (y : List Event). history tables y ≡ y) joined (can-abort c.more c.taken-all c.none-begun k a);
            none-begun = λ t. ap (λ (y : List Event). began y t) (sym joined) ∙ aborted-none x k t ∙ c.none-begun t;
            clear = λ t l.
                ap (λ (y : List Event). in_progress y t) (sym joined)
                ∙ same_or t k
                (λ e. subst⁻¹ (λ (z : ℕ). in_progress (x ++ (Abort k ∷ [])) z ≡ false) e (just-ended x k))
                (λ n. still-ended x k t (c.clear t (omega (arith, l, n))));
            few = let p = is-plain c.more c.taken-all c.none-begun k a in omega (arith, one-longer, c.few, p.0);
            at_most = let p = is-plain c.more c.taken-all c.none-begun k a in omega (arith, one-longer, c.few, p.0, p.1);
          })
          (λ a.
          record {
            more = c.more;
            taken-all = c.taken-all;
            none-begun = c.none-begun;
            clear = λ t l. same_or t k (λ e. subst⁻¹ (λ (z : ℕ). in_progress x z ≡ false) e a) (λ n. c.clear t (omega (arith, l, n)));
            few = omega (arith, c.few);
            at_most = c.at_most;
          })

  pub completed : Completed tables (history tables es)
  completed = record { rest = closing ++ c.more; accepted = subst (λ (y : List Event). history tables y ≡ y) joined c.taken-all; complete = subst (Complete tables) joined whole-end; few = in_all; begins_none = nothing-new }
    where
      c : Clear most_transactions
      c = cleared most_transactions

      joined : w₀ ++ c.more ≡ history tables es ++ (closing ++ c.more)
      joined = append_assoc (history tables es) closing c.more

      now : IsTold tables (w₀ ++ c.more) (w₀ ++ c.more)
      now = told c.more c.taken-all c.none-begun

      low : (t : ℕ) → in_progress (w₀ ++ c.more) t ≡ true → t < most_transactions
      low t a =
          going-low tables well (w₀ ++ c.more) t (subst⁻¹ (λ (x : List Event). in_progress x t ≡ true) c.taken-all a)

      in_all : length (closing ++ c.more) ≤ number_of_all tables
      in_all =
          omega (
            arith,
            length-append closing c.more,
            (closing-settles tables well es).sum,
            owed-low tables well es tables.sagas (omega arith),
            owned-front (sagas_of tables) tables.sagas,
            c.at_most,
          )

      nothing-new : (t : ℕ) → is_undo (sort_of tables t) ≡ false → began (history tables es ++ (closing ++ c.more)) t ≡ began (history tables es) t
      nothing-new t n =
          ap (λ (y : List Event). began y t) (sym joined) ∙ c.none-begun t ∙ occurs-append (begins t) (history tables es) closing
          ∙ or-none (began (history tables es) t) (began closing t) (closing-begins tables well t n (reached tables es) tables.sagas (omega arith))
        where
          or-none : (a b : Bool) → b ≡ false → (a || b) ≡ a
          or-none true b q = refl
          or-none false b q = q

      whole-end : Complete tables (w₀ ++ c.more)
      whole-end =
          record {
            all_ended = λ t. is-not (in_progress (w₀ ++ c.more) t) (λ a. clash a (c.clear t (low t a)));
            all_undone = λ i l a j p q d.
                let f = first_of tables i in
                let n = steps_of tables i in
                let s = reached tables (w₀ ++ c.more) in
                let zero_is : f + 0 ≡ f = omega arith in
                let gone = aborted_is (phase_of s.transactions (f + 0)) (now.aborted_is (f + 0) ∙ ap (aborted (w₀ ++ c.more)) zero_is ∙ a) in
                let u = (ends c.more c.taken-all c.none-begun i l (λ z. absurd (omega (arith, z, gone)))).all_undone gone j p q (now.committed_is (f + j) ∙ d) in
                let both = on_and (ltb j n) (is_committed (own s.transactions f (n + j))) u in
                (ltb-true j n both.0, sym (now.committed_is (f + (n + j))) ∙ both.1);
          }
