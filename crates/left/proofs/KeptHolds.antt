-- An event changes what no saga owes but the one that owns its transaction; so the sum that is kept is the sum by definition.
use Prim.Native.Nat.{ℕ, ◌+◌, ◌*◌, ◌≤◌, ◌<◌, min}
use native.Mathlib.Omega.{arith}
use mathlib.Core.Path.{◌≡◌, refl, sym, ap, subst, ◌∙◌}
use mathlib.Core.Logic.{◌≢◌}
use mathlib.Core.Bool.{true, false, not}
use mathlib.Core.List.{List, [], ◌∷◌}
use lib.Dec.{eqb, leb, ltb}
use lib.ListN.{length, length-take}
use lib.Seq.{take_all}
use borrow.Author.Tests.{le-ltb, lt-leb, ne_eqb}
use Rattle.laws.proofs.Bools.{and-off, clash, not_on, on-not}
use Rattle.laws.proofs.Decisions.{lt-or}
use Rattle.terms.specs.Limits.{most_sagas, most_transactions}
use Rattle.terms.specs.declared.Event.{Event}
use Rattle.terms.specs.declared.Event.TheVariants.{Abort, AbortOne, Begin, Commit, CommitOne, Delegate, Operation as Invoke, Spawn}
use Rattle.tables.specs.Accepted.{Well}
use Rattle.tables.specs.Counts.{saga_count}
use Rattle.tables.specs.Reading.{tables_by}
use Rattle.tables.specs.Sorts.{first_of, owned_by, sagas_of, sort_of, steps_of}
use Rattle.tables.specs.declared.Sort.{Sort}
use Rattle.tables.specs.declared.Tables.{Tables}
use Rattle.tables.proofs.AcceptedWellHolds.{accepted-well}
use Rattle.tables.proofs.SagaLaws.{by-sort, listed-saga, owned-apart, owned-le}
use Rattle.rules.specs.States.{empty_state, own}
use Rattle.rules.specs.declared.Phase.{Phase}
use Rattle.rules.specs.declared.State.{State}
use Rattle.rules.proofs.StateLaws.{all-idle}
use Rattle.judge.proofs.EventLaws.{next-no}
use Rattle.judge.proofs.EventPromisesHold.{event-promises}
use Rattle.histories.specs.Histories.{next, run}
use Rattle.closing.specs.Closing.{outstanding, outstanding_by, own_of}
use Rattle.closing.specs.Demand.{foreign, mine}
use Rattle.closing.proofs.Acts.{mine-on}
use Rattle.closing.proofs.Demand3Holds.{has-step, out-is, out-same}
use Rattle.left.specs.Left.{left_after, left_in, left_then, moved, owed_by_sort, owed_from}
use Rattle.left.specs.Promises.{KeepsSum, SumKept, SumKeptRead, NoOther}
use Rattle.left.proofs.SumLaws.{nothing-below, one_below, one-moved, owned_below, same-below}

-- ---- whose a transaction is not

below-none-of : (f n t : ℕ) → t < f → mine f n t ≡ false
below-none-of f n t l = let q : leb f t ≡ false = lt-leb f t l in rw q

above-none-of : (f n t : ℕ) → f + 2 * n ≤ t → mine f n t ≡ false
above-none-of f n t l = and-off (leb f t) (ltb t (f + 2 * n)) (λ e. le-ltb t (f + 2 * n) l)

-- all that sagas own
owned-all : (tables : Tables) (j : ℕ) → first_of tables j + 2 * steps_of tables j ≤ owned_by (sagas_of tables)
owned-all tables j =
    omega (arith, owned-apart tables j (j + 1 + length (sagas_of tables)) (omega arith), ap owned_by (take_all (j + 1 + length (sagas_of tables)) (sagas_of tables) (omega arith)))

-- ---- what others' events leave alone

-- t is none of f to f + 2n - 1
apart : (f n t k : ℕ) → not (mine f n t) ≡ true → k < 2 * n → eqb (f + k) t ≡ false
apart f n t k h l = ne_eqb (f + k) t (λ e. clash (mine-on f n k l) (subst (λ (x : ℕ). mine f n x ≡ false) (sym e) (on-not (mine f n t) h)))

own-kept : (tables : Tables) (s : State) (e : Event) (f n : ℕ) → foreign f n e ≡ true → (k : ℕ) → k < 2 * n
    → own (next tables s e).transactions f k ≡ own s.transactions f k
own-kept tables s (Begin t) f n h k l = (event-promises.frame tables s (Begin t)).phases (f + k) (apart f n t k h l)
own-kept tables s (Commit t) f n h k l = (event-promises.frame tables s (Commit t)).phases (f + k) (apart f n t k h l)
own-kept tables s (Abort t) f n h k l = (event-promises.frame tables s (Abort t)).phases (f + k) (apart f n t k h l)
own-kept tables s (Invoke t o m) f n h k l = (event-promises.frame tables s (Invoke t o m)).phases (f + k) refl
own-kept tables s (Delegate t r q) f n h k l = (event-promises.frame tables s (Delegate t r q)).phases (f + k) refl
own-kept tables s (CommitOne t q) f n h k l = (event-promises.frame tables s (CommitOne t q)).phases (f + k) refl
own-kept tables s (AbortOne t q) f n h k l = (event-promises.frame tables s (AbortOne t q)).phases (f + k) refl
own-kept tables s (Spawn m c) f n h k l = (event-promises.frame tables s (Spawn m c)).phases (f + k) (apart f n c k h l)

unlisted : (tables : Tables) (s : State) (i : ℕ) → tables.sagas ≤ i → outstanding tables s i ≡ 0
unfolding outstanding
unlisted tables s i l = rw (le-ltb i (min tables.sagas most_sagas) (omega arith))

pub no_other : NoOther
no_other tables well s e i h =
    lt-or i tables.sagas
    (λ low.
    out-is tables well i low (next tables s e)
    ∙ out-same (first_of tables i) (steps_of tables i) (own_of tables s i) (own_of tables (next tables s e) i) (own-kept tables s e (first_of tables i) (steps_of tables i) h) (has-step tables well i low)
    ∙ sym (out-is tables well i low s))
    (λ high. unlisted tables (next tables s e) i high ∙ sym (unlisted tables s i high))

-- ---- well-formed tables

module _ (tables : Tables) (well : Well tables) where
  all-counted : saga_count tables ≡ tables.sagas
  all-counted = omega (arith, well.listed)

  most : (s : State) → left_in tables s ≤ most_transactions
  unfolding left_in
  most s = omega (arith, owned_below tables s well (saga_count tables) (omega arith), owned-le tables (saga_count tables), well.fits)

  -- an event that is every saga's stranger
  module _ (s : State) (e : Event) (strange : (j : ℕ) → foreign (first_of tables j) (steps_of tables j) e ≡ true) where
    still : moved (left_in tables s) 0 0 ≡ left_in tables (next tables s e)
    unfolding left_in
    still = omega (arith, most s, same-below tables s (next tables s e) (λ j. no_other tables well s e j (strange j)) (saga_count tables))

  -- an event of saga i
  module _ (s : State) (e : Event) (i : ℕ) (low : i < tables.sagas) (others : (j : ℕ) → j ≢ i → foreign (first_of tables j) (steps_of tables j) e ≡ true) where
    moves : moved (left_in tables s) (owed_from s.transactions (first_of tables i) (steps_of tables i)) (owed_from (next tables s e).transactions (first_of tables i) (steps_of tables i))
        ≡ left_in tables (next tables s e)
    unfolding left_in
    moves =
        omega (
          arith,
          most s,
          out-is tables well i low s,
          out-is tables well i low (next tables s e),
          one_below tables s i (saga_count tables) (omega (arith, all-counted)),
          one-moved tables s (next tables s e) i (λ j d. no_other tables well s e j (others j d)) (saga_count tables) (omega (arith, all-counted)),
        )

  -- the event of a transaction t, by t's sort
  module _ (s : State) (e : Event) (t : ℕ) (whose : (f n : ℕ) → foreign f n e ≡ not (mine f n t)) where
    strange-to : (j : ℕ) → mine (first_of tables j) (steps_of tables j) t ≡ false → foreign (first_of tables j) (steps_of tables j) e ≡ true
    strange-to j h = whose (first_of tables j) (steps_of tables j) ∙ not_on (mine (first_of tables j) (steps_of tables j) t) h

    others-of : (i k : ℕ) → k < 2 * steps_of tables i → t ≡ first_of tables i + k → (j : ℕ) → j ≢ i → foreign (first_of tables j) (steps_of tables j) e ≡ true
    others-of i k l q j d =
        strange-to j
        (lt-or j i
        (λ h. above-none-of (first_of tables j) (steps_of tables j) t (omega (arith, owned-apart tables j i h)))
        (λ h. below-none-of (first_of tables j) (steps_of tables j) t (omega (arith, owned-apart tables i j (omega arith)))))

    past_all : owned_by (sagas_of tables) ≤ t → (j : ℕ) → foreign (first_of tables j) (steps_of tables j) e ≡ true
    past_all h j = strange-to j (above-none-of (first_of tables j) (steps_of tables j) t (omega (arith, owned-all tables j)))

    listed : (i : ℕ) → 1 ≤ steps_of tables i → i < tables.sagas
    listed i l = omega (arith, listed-saga tables i l, length-take tables.sagas tables.steps)

    by-its-sort : moved (left_in tables s) (owed_by_sort s.transactions (sort_of tables t)) (owed_by_sort (next tables s e).transactions (sort_of tables t)) ≡ left_in tables (next tables s e)
    by-its-sort =
        by-sort tables t
        (λ (x : Sort). moved (left_in tables s) (owed_by_sort s.transactions x) (owed_by_sort (next tables s e).transactions x) ≡ left_in tables (next tables s e))
        (λ i a q. moves s e i (listed i a) (others-of i 0 (omega arith) (omega arith)))
        (λ i j a b q. moves s e i (listed i (omega arith)) (others-of i j (omega arith) q))
        (λ i j a b q. moves s e i (listed i (omega arith)) (others-of i (steps_of tables i + j) (omega arith) q))
        (λ a b. still s e (past_all a))
        (λ a. still s e (past_all (omega arith)))

  event : (s : State) (e : Event) → left_then tables s (left_in tables s) e ≡ left_in tables (next tables s e)
  unfolding left_then
  event s (Begin t) = by-its-sort s (Begin t) t (λ f n. refl)
  event s (Commit t) = by-its-sort s (Commit t) t (λ f n. refl)
  event s (Abort t) = by-its-sort s (Abort t) t (λ f n. refl)
  event s (Invoke t o m) = still s (Invoke t o m) (λ j. refl)
  event s (Delegate t r q) = still s (Delegate t r q) (λ j. refl)
  event s (CommitOne t q) = still s (CommitOne t q) (λ j. refl)
  event s (AbortOne t q) = still s (AbortOne t q) (λ j. refl)
  event s (Spawn m c) = by-its-sort s (Spawn m c) c (λ f n. refl)

  later : (es : List Event) (s : State) → left_after tables s (left_in tables s) es ≡ left_in tables (run tables s es)
  unfolding left_after run
  later [] s = refl
  later (e ∷ es) s = ap (λ (x : ℕ). left_after tables (next tables s e) x es) (event s e) ∙ later es (next tables s e)

  idle-owes : (i : ℕ) → outstanding tables empty_state i ≡ 0
  idle-owes i =
      lt-or i tables.sagas
      (λ low. out-is tables well i low empty_state ∙ ap (λ (p : Phase). outstanding_by p (steps_of tables i) (own_of tables empty_state i)) (all-idle (first_of tables i + 0)))
      (λ high. unlisted tables empty_state i high)

  start : left_in tables empty_state ≡ 0
  unfolding left_in
  start = nothing-below tables empty_state idle-owes (saga_count tables)

  pub keeps-sum : KeepsSum tables
  keeps-sum =
      record {
        start = start;
        event = event;
        refused = λ s e r v. event s e ∙ ap (left_in tables) (next-no tables s e r v);
        always = λ es. ap (λ (x : ℕ). left_after tables empty_state x es) (sym start) ∙ later es empty_state;
        later = λ s es. later es s;
        most = most;
      }

pub kept : SumKept
kept = keeps-sum

pub kept_read : SumKeptRead
kept_read circles ed s at e = keeps-sum (tables_by circles ed s).tables (accepted-well circles ed s at e)
