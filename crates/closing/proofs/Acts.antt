-- Every accepted event either moves one of the saga's own transactions or leaves all of them alone; and what such events keep.
use Prim.Native.Nat.{ℕ, ◌+◌, ◌-◌, ◌*◌, ◌≤◌, ◌<◌}
use native.Mathlib.Omega.{arith}
use mathlib.Core.Path.{◌≡◌, refl, sym, ap, subst, ◌∙◌}
use mathlib.Core.Logic.{◌≢◌}
use mathlib.Core.Bool.{true, false}
use mathlib.Core.List.{List, ◌∷◌, ◌++◌}
use lib.ListN.{length}
use lib.Dec.{ltb, leb}
use borrow.Author.Tests.{lt-ltb, le-ltb, le-leb, lt-leb}
use Rattle.laws.proofs.Bools.{and-off, and_on, clash}
use Rattle.laws.proofs.Decisions.{lt-or}
use Rattle.terms.specs.Limits.{most_transactions}
use Rattle.terms.specs.declared.Verdict.TheVariants.{Accepted}
use Rattle.tables.specs.Accepted.{Well}
use Rattle.tables.specs.Sorts.{first_of, is_plain, sort_of, steps_of}
use Rattle.tables.specs.declared.Tables.{Tables}
use Rattle.tables.proofs.SagaLaws.{owned-le, well-steps}
use Rattle.judge.specs.Judge.{change_of, judged, state_after}
use Rattle.rules.specs.States.{entered, own, phase_of}
use Rattle.terms.specs.declared.Event.{Event}
use Rattle.terms.specs.declared.Event.TheVariants.{Abort, AbortOne, Begin, Commit, CommitOne, Delegate, Operation as Invoke, Spawn}
use Rattle.rules.specs.declared.Phase.{Phase}
use Rattle.rules.specs.declared.Phase.TheVariants.{Aborted, Active, Committed}
use Rattle.rules.specs.declared.State.{State}
use Rattle.rules.specs.declared.Transaction.{Transaction}
use Rattle.rules.proofs.PhaseLaws.{code}
use Rattle.histories.proofs.Steps.{Ending, Entering, commit-ending, commit-enters, ending, entering, nobodys, spawning, step}
use Rattle.ties.specs.declared.Fate.TheVariants.{Aborted as FateAborted, Committed as FateCommitted}
use Rattle.rules.proofs.StateLaws.{entered-other, entered-same, spawned-other}
use Rattle.closing.specs.Demand.{commits_of, mine}
use Rattle.closing.proofs.Moves.{Inv, Move, Moved, Next, abort-saga, abort_step, begin-saga, begin-step, begin_undo, commit-saga, commit-step, commit_undo, moved_at}
use Rattle.closing.proofs.OutstandingLaws.{move_event}
use Rattle.closing.proofs.OwnEvents.{Moves, abort-own, begin-own, commit-own, own-not-plain}
use Rattle.closing.proofs.Shapes.{Shape, Steps, Undos, back, closed, commits_in, forward}

-- ---- the commits of a saga's own among the events

pub mine-on : (f n k : ℕ) → k < 2 * n → mine f n (f + k) ≡ true
mine-on f n k h = and_on (leb f (f + k)) (ltb (f + k) (f + 2 * n)) (le-leb f (f + k) (omega arith)) (lt-ltb (f + k) (f + 2 * n) (omega arith))

mine-off : (f n t : ℕ) → ((k : ℕ) → k < 2 * n → f + k ≢ t) → mine f n t ≡ false
mine-off f n t h =
    lt-or
    t
    f
    (λ l. let q : leb f t ≡ false = lt-leb f t l in rw q)
    (λ l.
    and-off
    (leb f t)
    (ltb t (f + 2 * n))
    (λ e. le-ltb t (f + 2 * n) (lt-or t (f + 2 * n) (λ r. absurd (h (t - f) (omega arith) (omega arith))) (λ r. r))))

own-commit : (f n t : ℕ) (es : List Event) → mine f n t ≡ true → commits_of f n (Commit t ∷ es) ≡ t ∷ commits_of f n es
unfolding commits_of
own-commit f n t es h = rw h

pub move-commits : {n : ℕ} {P : ℕ → Phase} (f : ℕ) (m : Move n P) (es : List Event) → 1 ≤ n →
    commits_of f n (move_event f m ∷ es) ≡ commits_in f m ++ commits_of f n es
unfolding commits_of
move-commits f (begin-saga a) es h = refl
move-commits f (begin-step i a b c d e) es h = refl
move-commits f (begin_undo i a b c d e w g) es h = refl
move-commits {n} f (commit-saga a b) es h =
    let q : f + 0 ≡ f = omega arith in own-commit f n f es (rw q at (mine-on f n 0 (omega arith)))
move-commits {n} f (commit-step i a b c d) es h = own-commit f n (f + i) es (mine-on f n i (omega arith))
move-commits {n} f (commit_undo i a b c) es h = own-commit f n (f + (n + i)) es (mine-on f n (n + i) (omega arith))
move-commits f (abort-saga a b) es h = refl
move-commits f (abort_step i a b c) es h = refl

-- ---- what an accepted event does to one saga

pub data Acts (tables : Tables) (f n : ℕ) (s : State) (e : Event) : Type 0 where
  moved : (m : Move n (own s.transactions f)) → Moved n (own s.transactions f) (own (state_after (change_of tables s.transactions e) s).transactions f) m → e ≡ move_event f m → Acts tables f n s e
  quiet : ((k : ℕ) → k < 2 * n → own (state_after (change_of tables s.transactions e) s).transactions f k ≡ own s.transactions f k) →
      ((es : List Event) → commits_of f n (e ∷ es) ≡ commits_of f n es) →
      Acts tables f n s e

module _ (tables : Tables) (well : Well tables) (i : ℕ) (listed : i < tables.sagas) (s : State) (full : length s.transactions ≡ most_transactions) where
  abbrev f : ℕ
  f = first_of tables i

  abbrev n : ℕ
  n = steps_of tables i

  has-step : 1 ≤ n
  has-step = (well-steps tables well i listed).0

  -- an event at t that is a move if t is one of the saga's own
  acts-at : (t c : ℕ) (p : Phase) (ev : ℕ → Event) → code p ≡ c →
      ((state_after (change_of tables s.transactions (ev t)) s).transactions ≡ entered p t s.transactions) →
      ((k : ℕ) → k < 2 * n → f + k ≡ t → Moves f n (own s.transactions f) k c (ev t)) →
      (mine f n t ≡ false → (es : List Event) → commits_of f n (ev t ∷ es) ≡ commits_of f n es) →
      Acts tables f n s (ev t)
  acts-at t c p ev cp ph mv cm =
      lt-or
      t
      f
      (λ a. away (λ k l. (λ q. omega arith)))
      (λ a.
      lt-or
      t
      (f + 2 * n)
      (λ b. here (t - f) (omega arith) (omega arith) (mv (t - f) (omega arith) (omega arith)))
      (λ b. away (λ k l. (λ q. omega arith))))
    where
      away : ((k : ℕ) → k < 2 * n → f + k ≢ t) → Acts tables f n s (ev t)
      away h =
          quiet
          (λ k l. ap (λ (ts : List Transaction). phase_of ts (f + k)) ph ∙ entered-other s.transactions t (f + k) p (h k l))
          (cm (mine-off f n t h))

      here : (k : ℕ) → k < 2 * n → f + k ≡ t → Moves f n (own s.transactions f) k c (ev t) → Acts tables f n s (ev t)
      here k l q r =
          let low : t < length s.transactions = omega (arith, full, owned-le tables i, well.fits) in
          let e : f + moved_at r.move ≡ t = omega (arith, r.at) in
          moved
          r.move
          (record {
            here =
                ap (λ (x : ℕ). code (phase_of (state_after (change_of tables s.transactions (ev t)) s).transactions x)) e
                ∙ ap code (ap (λ (ts : List Transaction). phase_of ts t) ph ∙ entered-same s.transactions t p low)
                ∙ cp
                ∙ sym r.to;
            other = λ x d. ap code (ap (λ (ts : List Transaction). phase_of ts (f + x)) ph ∙ entered-other s.transactions t (f + x) p (λ g. d (omega arith)));
          })
          r.event

  pub acts : (e : Event) → (judged tables s e).verdict ≡ Accepted → Acts tables f n s e
  unfolding state_after commits_of
  acts (Begin t) v =
      acts-at
      t
      1
      Active
      Begin
      refl
      refl
      (λ k l q.
      subst
      (λ (x : ℕ). Moves f n (own s.transactions f) k 1 (Begin x))
      q
      (begin-own
      tables
      i
      s
      has-step
      k
      l
      (subst (λ (x : ℕ). Entering tables s x) (sym q) (entering tables s (step tables s (Begin t) v)))))
      (λ h es. refl)
  acts (Commit t) v =
      acts-at
      t
      2
      Committed
      Commit
      refl
      (commit-enters tables s t)
      (λ k l q.
      subst
      (λ (x : ℕ). Moves f n (own s.transactions f) k 2 (Commit x))
      q
      (commit-own
      tables
      i
      s
      has-step
      k
      l
      (subst (λ (x : ℕ). Ending tables s x Committed FateCommitted) (sym q) (commit-ending tables s t (nobodys tables s t (subst (λ (x : ℕ). is_plain (sort_of tables x) ≡ false) q (own-not-plain tables i s has-step k l))) v))))
      (λ h es. rw h)
  acts (Abort t) v =
      acts-at
      t
      3
      Aborted
      Abort
      refl
      refl
      (λ k l q.
      subst
      (λ (x : ℕ). Moves f n (own s.transactions f) k 3 (Abort x))
      q
      (abort-own
      tables
      i
      s
      has-step
      k
      l
      (subst (λ (x : ℕ). Ending tables s x Aborted FateAborted) (sym q) (ending tables s (step tables s (Abort t) v)))))
      (λ h es. refl)
  acts (Invoke t o m) v = quiet (λ k l. refl) (λ es. refl)
  acts (Delegate t r q) v = quiet (λ k l. refl) (λ es. refl)
  acts (CommitOne t q) v = quiet (λ k l. refl) (λ es. refl)
  acts (AbortOne t q) v = quiet (λ k l. refl) (λ es. refl)
  acts (Spawn m c) v =
      quiet
      (λ k l.
      ap (λ (x : Transaction). x.phase)
      (spawned-other s.transactions m c (f + k)
      (λ e. clash (ap (λ (x : ℕ). is_plain (sort_of tables x)) e ∙ (spawning tables s (step tables s (Spawn m c) v)).child) (own-not-plain tables i s has-step k l))))
      (λ es. refl)

-- ---- phases that agree below 2n have the same invariant and the same history

module _ (f n : ℕ) (P P' : ℕ → Phase) (same : (k : ℕ) → k < 2 * n → P' k ≡ P k) (1≤n : 1 ≤ n) where
  codes : (k : ℕ) → k < 2 * n → code (P' k) ≡ code (P k)
  codes k l = ap code (same k l)

  next-same : (i : ℕ) → 1 ≤ i → i < n → Next n P i → Next n P' i
  next-same i a b h c =
      let r = h (sym (codes (i + 1) (omega arith)) ∙ c) in (r.0, codes (n + (i + 1)) (omega (arith, r.0)) ∙ r.1)

  pub inv-same : Inv n P → Inv n P'
  inv-same inv =
      record {
        chain =
            λ i k a b c h.
            codes i (omega arith) ∙ inv.chain i k a b c (omega (arith, codes k (omega arith)));
        backs =
            λ i a b h. codes 0 (omega arith) ∙ inv.backs i a b (omega (arith, codes (n + i) (omega arith)));
        whole =
            λ h g. inv.whole (sym (codes n (omega arith)) ∙ h) (sym (codes 0 (omega arith)) ∙ g);
        order =
            λ i a b h.
            let o = inv.order i a b (omega (arith, codes (n + i) (omega arith))) in
            (codes i (omega arith) ∙ o.0, next-same i a b o.1);
        sound = λ i a b h. inv.sound i a b (sym (codes (n + i) (omega arith)) ∙ h);
      }

  steps-same : (j : ℕ) → j ≤ n → Steps n P j → Steps n P' j
  steps-same j h s =
      record {
        done = λ i l r. codes i (omega arith) ∙ s.done i l r;
        only = λ i l r g. s.only i l r (sym (codes i (omega arith)) ∙ g);
      }

  undos-same : (j k : ℕ) → j < n → Undos n P j k → Undos n P' j k
  undos-same j k h s =
      record {
        done = λ i l r. codes (n + i) (omega arith) ∙ s.done i l r;
        only = λ i l r g. s.only i l r (sym (codes (n + i) (omega arith)) ∙ g);
      }

  pub shape_same : (H : List ℕ) → Shape f n P H → Shape f n P' H
  shape_same H (forward j a e s u z) =
      forward
      j
      a
      e
      (steps-same j a s)
      (record {
        done = λ i l r. absurd (omega arith);
        only = λ i l r g. u.only i l r (sym (codes (n + i) (omega arith)) ∙ g);
      })
      (λ g. z (sym (codes 0 (omega arith)) ∙ g))
  shape_same H (closed e z) = closed e (codes 0 (omega arith) ∙ z)
  shape_same H (back j k a b e s u z) =
      back j k a b e (steps-same j (omega arith) s) (undos-same j k b u) (codes 0 (omega arith) ∙ z)
