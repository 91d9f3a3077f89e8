-- Taking the closing steps of a saga settles it; taking those of all sagas settles all that were begun.
use Prim.Native.Nat.{ℕ, zero, suc, ◌+◌, ◌*◌, ◌≤◌, ◌<◌}
use native.Mathlib.Omega.{arith}
use mathlib.Core.Path.{◌≡◌, refl, sym, ap, subst, ◌∙◌, ap₂}
use mathlib.Core.Logic.{◌≢◌}
use mathlib.Core.List.{List, [], ◌∷◌, ◌++◌, append_assoc, append-nil}
use mathlib.Core.Bool.{true, false}
use lib.ListN.{length, length-append}
use lib.Dec.{ltb, leb}
use borrow.Author.Tests.{le-ltb, lt-leb}
use mathlib.Core.Option.{some}
use Rattle.laws.proofs.Bools.{and-off, and_on, clash, not_on, on_and}
use Rattle.laws.proofs.Decisions.{same_or}
use Rattle.tables.specs.Accepted.{Well}
use Rattle.tables.specs.Reading.{tables_by}
use Rattle.tables.specs.Sorts.{first_of, steps_of}
use Rattle.tables.specs.declared.Tables.{Tables}
use Rattle.tables.proofs.AcceptedWellHolds.{accepted-well}
use Rattle.tables.proofs.SagaLaws.{owned-apart}
use Rattle.histories.specs.Histories.{next, reached, run, taken}
use Rattle.judge.specs.Judge.{judged}
use Rattle.rules.specs.States.{empty_state, phase_of}
use Rattle.terms.specs.declared.Event.{Event}
use Rattle.rules.specs.declared.Phase.{Phase}
use Rattle.rules.specs.declared.Phase.TheVariants.{Aborted, Active, Committed, Idle}
use Rattle.rules.specs.declared.State.{State}
use Rattle.rules.proofs.PhaseLaws.{code}
use Rattle.judge.proofs.EventLaws.{next-ok}
use Rattle.histories.proofs.RunLaws.{run-append, taken-append}
use Rattle.histories.proofs.Steps.{keeps-by}
use Rattle.histories.proofs.Touches.{phased, rises}
use Rattle.closing.specs.Closing.{closing, event_of, outstanding, own_of, settled}
use Rattle.closing.specs.Demand.{all_foreign, foreign, mine}
use Rattle.closing.specs.Settling.{ClosingSettles, ClosingSettlesRead, close_all, close_one, closing_steps, owed_below}
use Rattle.closing.proofs.Demand3Holds.{Good, Lowers, alike, good-kept, good-run, good_start, has-step, out-is, out-same, settled_is, settled_same, step_down, zero-exactly}

-- ---- what was begun stays begun

begun-run : (tables : Tables) (t : ℕ) (es : List Event) (s : State) → 1 ≤ code (phase_of s.transactions t)
    → 1 ≤ code (phase_of (run tables s es).transactions t)
begun-run tables t = keeps-by tables (λ s. 1 ≤ code (phase_of s.transactions t)) (λ s c h w. omega (arith, rises tables s c (phased tables s c w t)))

-- not idle, as a number
begun-code : (p : Phase) → p ≢ Idle → 1 ≤ code p
begun-code Idle h = absurd (h refl)
begun-code Active h = omega arith
begun-code Committed h = omega arith
begun-code Aborted h = omega arith

code-begun : (p : Phase) → 1 ≤ code p → p ≢ Idle
code-begun p h e = omega (arith, ap code e)

-- ---- one saga

module _ (tables : Tables) (well : Well tables) (i : ℕ) (low : i < tables.sagas) where
  abbrev f : ℕ
  f = first_of tables i

  abbrev n : ℕ
  n = steps_of tables i

  -- k closing steps: how many they are, that all are accepted, that nothing is owed after them, and that they are others' events to any saga
  -- that owns none of this one's numbers
  record Closing (s : State) (k : ℕ) (l : List Event) : Type 0 where
    many : length l ≡ k
    all-taken : taken tables s l ≡ l
    nothing-owed : outstanding tables (run tables s l) i ≡ 0
    elsewhere : (g m : ℕ) → ((x : ℕ) → x < 2 * n → mine g m (f + x) ≡ false) → all_foreign g m l ≡ true

  steps-more : (s : State) (e : Event) (k : ℕ) → event_of (closing tables s i) ≡ some e
      → closing_steps tables i s (suc k) ≡ e ∷ closing_steps tables i (judged tables s e).state k
  unfolding closing_steps
  steps-more s e k h = rw h

  closing-more : (s : State) (k : ℕ) (l : List Event) (r : Lowers tables well i low s) → Closing (next tables s r.event) k l → Closing s (suc k) (r.event ∷ l)
  unfolding run taken all_foreign
  closing-more s k l r c =
      record {
        many = ap suc c.many;
        all-taken = rw r.accepted (ap (λ (x : List Event). r.event ∷ x) c.all-taken);
        nothing-owed = c.nothing-owed;
        elsewhere = λ g m h.
            and_on (foreign g m r.event) (all_foreign g m l) (r.event-at g m ∙ not_on (mine g m (f + r.at)) (h r.at r.at_low)) (c.elsewhere g m h);
      }

  closing-none : (s : State) → outstanding tables s i ≡ 0 → Closing s 0 (closing_steps tables i s 0)
  unfolding run taken all_foreign closing_steps
  closing-none s z = record { many = refl; all-taken = refl; nothing-owed = z; elsewhere = λ g m h. refl }

  closing-down : (k : ℕ) (s : State) → Good tables i s → outstanding tables s i ≡ k → Closing s k (closing_steps tables i s k)
  closing-down zero s h z = closing-none s z
  closing-down (suc k) s h z =
      let r = step_down tables well i low s h (omega arith) in
      let later : Good tables i (next tables s r.event) =
      subst (Good tables i) (sym (next-ok tables s r.event r.accepted)) (good-kept tables well i low s r.event h r.accepted) in
      subst (Closing s (suc k)) (sym (steps-more s r.event k r.named))
      (closing-more s k (closing_steps tables i (next tables s r.event) k) r
      (closing-down k (next tables s r.event) later (omega (arith, r.lowers))))

  -- all that is owed is paid by as many steps
  close-one : (s : State) → Good tables i s → Closing s (outstanding tables s i) (close_one tables i s)
  close-one s h = closing-down (outstanding tables s i) s h refl

  -- and then a begun saga is settled
  settles : (s : State) → Good tables i s → own_of tables s i 0 ≢ Idle → settled tables (run tables s (close_one tables i s)) i ≡ true
  settles s h b =
      (zero-exactly tables well i low (run tables s (close_one tables i s)) (good-run tables well i low (close_one tables i s) s h)
      (code-begun (own_of tables (run tables s (close_one tables i s)) i 0)
      (begun-run tables (f + 0) (close_one tables i s) s (begun-code (own_of tables s i 0) b)))
      ).0
      (close-one s h).nothing-owed

  -- others' events leave what it owes
  owes_same : (s : State) (fs : List Event) → Good tables i s → all_foreign f n fs ≡ true → outstanding tables (run tables s fs) i ≡ outstanding tables s i
  owes_same s fs h a =
      out-is tables well i low (run tables s fs)
      ∙ out-same f n (own_of tables s i) (own_of tables (run tables s fs) i) (alike tables well i low fs s h a) (has-step tables well i low)
      ∙ sym (out-is tables well i low s)

  -- what is settled stays so after others' events
  stays-settled : (s : State) (fs : List Event) → Good tables i s → all_foreign f n fs ≡ true → settled tables s i ≡ true → settled tables (run tables s fs) i ≡ true
  stays-settled s fs h a z =
      settled_is tables well i low (run tables s fs)
      ∙ settled_same f n (own_of tables s i) (own_of tables (run tables s fs) i) (alike tables well i low fs s h a) (has-step tables well i low)
      ∙ sym (settled_is tables well i low s)
      ∙ z

-- the numbers of one saga are none of another's
apart : (tables : Tables) (i k : ℕ) → i < k → (x : ℕ) → x < 2 * steps_of tables k → mine (first_of tables i) (steps_of tables i) (first_of tables k + x) ≡ false
apart tables i k l x h =
    and-off (leb (first_of tables i) (first_of tables k + x)) (ltb (first_of tables k + x) (first_of tables i + 2 * steps_of tables i))
    (λ e. le-ltb (first_of tables k + x) (first_of tables i + 2 * steps_of tables i) (omega (arith, owned-apart tables i k l)))

before : (tables : Tables) (i k : ℕ) → k < i → (x : ℕ) → x < 2 * steps_of tables k → mine (first_of tables i) (steps_of tables i) (first_of tables k + x) ≡ false
before tables i k l x h =
    and-off (leb (first_of tables i) (first_of tables k + x)) (ltb (first_of tables k + x) (first_of tables i + 2 * steps_of tables i))
    (λ e. clash e (lt-leb (first_of tables i) (first_of tables k + x) (omega (arith, owned-apart tables k i l))))

foreign-append : (f n : ℕ) (xs ys : List Event) → all_foreign f n xs ≡ true → all_foreign f n ys ≡ true → all_foreign f n (xs ++ ys) ≡ true
unfolding all_foreign
foreign-append f n [] ys a b = b
foreign-append f n (x ∷ xs) ys a b =
    let both = on_and (foreign f n x) (all_foreign f n xs) a in
    and_on (foreign f n x) (all_foreign f n (xs ++ ys)) both.0 (foreign-append f n xs ys both.1 b)

the_last : (k m : ℕ) → k ≤ m → m ≤ k → k ≡ m
the_last k m l h = omega arith

-- ---- all sagas, in rising order

module _ (tables : Tables) (well : Well tables) (s : State) (good : (i : ℕ) → i < tables.sagas → Good tables i s) where
  -- the sagas below k are closed
  record AllClosed (k : ℕ) (l : List Event) : Type 0 where
    together : length l ≡ owed_below tables s k
    -- none of these events is a later saga's
    earlier : (i : ℕ) → k ≤ i → all_foreign (first_of tables i) (steps_of tables i) l ≡ true
    all-taken : taken tables s l ≡ l
    all_settled : (i : ℕ) → i < k → own_of tables s i 0 ≢ Idle → settled tables (run tables s l) i ≡ true
    none_owes : (i : ℕ) → i < k → outstanding tables (run tables s l) i ≡ 0

  close_more : (k : ℕ) (l : List Event) → k < tables.sagas → AllClosed k l → AllClosed (suc k) (l ++ close_one tables k (run tables s l))
  unfolding owed_below
  close_more k l low c =
      let now : State = run tables s l in
      let steps : List Event = close_one tables k now in
      let here : Good tables k now = good-run tables well k low l s (good k low) in
      let one = close-one tables well k low now here in
      let owes : outstanding tables now k ≡ outstanding tables s k = owes_same tables well k low s l (good k low) (c.earlier k (omega arith)) in
      record {
        together = length-append l steps ∙ ap₂ ◌+◌ c.together (one.many ∙ owes);
        earlier = λ i h. foreign-append (first_of tables i) (steps_of tables i) l steps (c.earlier i (omega arith))
            (one.elsewhere (first_of tables i) (steps_of tables i) (λ x m. before tables i k (omega arith) x m));
        all-taken = taken-append tables l steps s ∙ ap₂ (λ (x y : List Event). x ++ y) c.all-taken one.all-taken;
        all_settled = λ i h b.
            ap (λ (x : State). settled tables x i) (run-append tables l steps s)
            ∙ same_or i k
            (λ e.
            subst (λ (x : ℕ). settled tables (run tables now steps) x ≡ true) (sym e)
            (settles tables well k low now here
            (code-begun (own_of tables now k 0) (begun-run tables (first_of tables k + 0) l s (begun-code (own_of tables s k 0) (subst (λ (x : ℕ). own_of tables s x 0 ≢ Idle) e b))))))
            (λ e.
            let below : i < k = omega arith in
            let listed : i < tables.sagas = omega arith in
            stays-settled tables well i listed now steps (good-run tables well i listed l s (good i listed))
            (one.elsewhere (first_of tables i) (steps_of tables i) (apart tables i k below)) (c.all_settled i below b));
        none_owes = λ i h.
            ap (λ (x : State). outstanding tables x i) (run-append tables l steps s)
            ∙ same_or i k
            (λ e. subst (λ (x : ℕ). outstanding tables (run tables now steps) x ≡ 0) (sym e) one.nothing-owed)
            (λ e.
            let below : i < k = omega arith in
            let listed : i < tables.sagas = omega arith in
            owes_same tables well i listed now steps (good-run tables well i listed l s (good i listed))
            (one.elsewhere (first_of tables i) (steps_of tables i) (apart tables i k below))
            ∙ c.none_owes i below);
      }

  close-each : (k : ℕ) → k ≤ tables.sagas → AllClosed k (close_all tables s k)
  unfolding close_all taken owed_below all_foreign
  close-each zero h = record { together = refl; earlier = λ i l. refl; all-taken = refl; all_settled = λ i l. absurd (omega arith); none_owes = λ i l. absurd (omega arith) }
  close-each (suc k) h = close_more k (close_all tables s k) h (close-each k (omega arith))

  -- behind the sagas below k come steps that are none of theirs
  record Behind (k m : ℕ) : Type 0 where
    back : List Event
    all : close_all tables s m ≡ close_all tables s k ++ back
    later : (i : ℕ) → i < k → all_foreign (first_of tables i) (steps_of tables i) back ≡ true

  one-behind : (k m : ℕ) → k ≤ m → m < tables.sagas → Behind k m → Behind k (suc m)
  unfolding close_all
  one-behind k m l low b =
      let before : State = run tables s (close_all tables s m) in
      let one = close-one tables well m low before (good-run tables well m low (close_all tables s m) s (good m low)) in
      let steps = close_one tables m before in
      record {
        back = b.back ++ steps;
        all = ap (λ (x : List Event). x ++ steps) b.all ∙ append_assoc (close_all tables s k) b.back steps;
        later = λ i below.
            foreign-append (first_of tables i) (steps_of tables i) b.back steps (b.later i below)
            (one.elsewhere (first_of tables i) (steps_of tables i) (apart tables i m (omega arith)));
      }

  none-behind : (k : ℕ) → Behind k k
  unfolding all_foreign
  none-behind k = record { back = []; all = sym (append-nil (close_all tables s k)); later = λ i l. refl }

  behind : (k m : ℕ) → k ≤ m → m ≤ tables.sagas → Behind k m
  behind k zero l h = subst (Behind k) (the_last k zero l (omega arith)) (none-behind k)
  behind k (suc m) l h =
      same_or k (suc m)
      (λ e. subst (Behind k) e (none-behind k))
      (λ e. one-behind k m (omega arith) (omega arith) (behind k m (omega arith) (omega arith)))

pub closing-settles : ClosingSettles
closing-settles tables well es =
    let good : (i : ℕ) → i < tables.sagas → Good tables i (reached tables es) =
    λ i low. good-run tables well i low es empty_state (good_start tables well i low) in
    let every = close-each tables well (reached tables es) good tables.sagas (omega arith) in
    record {
      one = λ i low b.
          let c = close-one tables well i low (reached tables es) (good i low) in
          (c.many, c.all-taken, settles tables well i low (reached tables es) (good i low) b);
      sum = every.together;
      all = (every.all-taken, every.all_settled);
      rising = λ k l.
          let b = behind tables well (reached tables es) good k tables.sagas l (omega arith) in (
            close_all tables (reached tables es) k,
            b.back,
            b.all,
            λ i m low. (close-each tables well (reached tables es) good k l).earlier i m,
            b.later,
          );
      over = every.none_owes;
    }

pub closing-settles-read : ClosingSettlesRead
closing-settles-read circles ed book at e es = closing-settles (tables_by circles ed book).tables (accepted-well circles ed book at e) es
