-- Helpers under a clerk, proved.
use Prim.Native.Nat.{ℕ, ◌<◌, ◌≤◌}
use native.Mathlib.Omega.{arith}
use mathlib.Core.Path.{◌≡◌, refl, sym, ap, ◌∙◌, subst, subst⁻¹}
use mathlib.Core.Bool.{true, false}
use mathlib.Core.Logic.{◌≢◌, ⊎_elim}
use mathlib.Core.List.{List, [], ◌∷◌, ◌++◌, append_assoc}
use lib.Dec.{eqb}
use lib.ListN.{length}
use borrow.Author.Tests.{eqb-false, eqb-true, lt-ltb, ne_eqb}
use Rattle.laws.proofs.Bools.{bool_cases, clash, is-not, off-or, or_cases}
use Rattle.laws.proofs.Decisions.{lt-or}
use Rattle.terms.specs.Limits.{most_transactions}
use Rattle.terms.specs.declared.Event.{Event}
use Rattle.terms.specs.declared.Event.TheVariants.{Abort, AbortOne, Begin, Commit, CommitOne, Delegate, Operation as Invoke, Spawn}
use Rattle.terms.specs.declared.Verdict.TheVariants.{Accepted}
use Rattle.ties.specs.Operations.{all_held_by, is_committed, op_at, passed_to, size}
use Rattle.ties.proofs.OpsLaws.{count-rewritten, rewritten-at}
use Rattle.tables.specs.declared.Tables.{Tables}
use Rattle.rules.specs.States.{empty_state, has_ended, is_active, is_child, parent_of, phase_of}
use Rattle.rules.specs.States.{Parent}
use Rattle.std.specs.Prelude.{None, Some}
use Rattle.rules.specs.declared.Phase.{Phase}
use Rattle.rules.specs.declared.Phase.TheVariants.{Aborted, Active, Committed, Idle}
use Rattle.rules.specs.declared.State.{State}
use Rattle.rules.proofs.PhaseLaws.{code, of-active}
use Rattle.rules.proofs.StateLaws.{entered-other, entered-parent, entered-same, past-idle}
use Rattle.judge.specs.Judge.{commit_under, judged, state_after}
use Rattle.judge.specs.Promises.{names_of}
use Rattle.judge.specs.declared.Change.{Change}
use Rattle.judge.specs.declared.Change.TheVariants.{Hands}
use Rattle.judge.proofs.EventLaws.{by-verdict, next-no, next-ok}
use Rattle.judge.proofs.EventPromisesHold.{event-promises}
use Rattle.histories.specs.Families.{Families, OnlyHands, ends, ends_in}
use Rattle.histories.specs.Histories.{history, next, reached, run, taken}
use Rattle.histories.specs.May.{ChildrenDone}
use Rattle.histories.proofs.Accounts.{commit-low, parents-told}
use Rattle.histories.proofs.CommitsWhen.{commit-when, hand-when}
use Rattle.histories.proofs.Invariants.{lasting, lasting-kept}
use Rattle.histories.proofs.Kin.{Kin, Parented, adopted-now, clerk-is, kin, kin-kept, parented, same-parent, unkept}
use Rattle.histories.proofs.Lasts.{Lasting, size-count}
use Rattle.histories.proofs.RunLaws.{run-append}
use Rattle.histories.proofs.Splits.{cut}
use Rattle.histories.proofs.Steps.{Handing, Step, by_next, ending, entering, handing, keeps-by, spawning, step}
use Rattle.histories.proofs.Touches.{phased, rises}

-- ---- a child's commit

only-hands : (tables : Tables) (s : State) (t m : ℕ) → Lasting s → Handing tables s t m → OnlyHands s (state_after (Hands t m) s) t m
unfolding state_after
only-hands tables s t m lasts f =
    record {
      committed = entered-same s.transactions t Committed (active-low t f.active);
      phases = λ u e. entered-other s.transactions t u Committed e;
      parents = λ u. entered-parent s.transactions t u Committed;
      count = count-rewritten (all_held_by t) (passed_to m) (λ k. refl) s.ops;
      operations = λ q l. rewritten-at (all_held_by t) (passed_to m) (λ k. refl) s.ops q ∙ rw (lt-ltb q (size s.ops) l);
    }
  where
    active-low : (t : ℕ) → code (phase_of s.transactions t) ≡ 1 → t < length s.transactions
    active-low t a = lt-or t (length s.transactions) (λ l. l) (λ l. absurd (omega (arith, a, ap code (past-idle s.transactions t l))))

module _ (tables : Tables) (es : List Event) where
  abbrev now : State
  now = reached tables es

  hands-over : (t m : ℕ) → parent_of now.transactions t ≡ Some m → (judged tables now (Commit t)).verdict ≡ Accepted → OnlyHands now (judged tables now (Commit t)).state t m
  hands-over t m e v =
      let own = clerk-is tables now (kin tables es) t ∙ e in
      subst⁻¹ (λ (x : State). OnlyHands now x t m) (next-ok tables now (Commit t) v ∙ ap (λ (p : Parent). state_after (commit_under t p) now) own)
      (only-hands tables now t m (lasting tables es) (handing tables now (subst (λ (p : Parent). Step tables now (commit_under t p)) own (step tables now (Commit t) v))))

  none_kept : (q m : ℕ) → q < size now.ops → parent_of now.transactions (op_at now.ops q).responsible ≡ Some m → is_committed (op_at now.ops q).fate ≡ false
  none_kept q m l e =
      is-not (is_committed (op_at now.ops q).fate) (λ k. clash (ap is_child e) ((unkept tables es).free q (omega (arith, size-count now (lasting tables es))) k))

-- ---- one who is active stays so, and under its parent, until an event ends it

module _ (tables : Tables) (c : ℕ) where
  module _ (s : State) (a : code (phase_of s.transactions c) ≡ 1) where
    -- whoever begins was idle
    other : (t : ℕ) → code (phase_of s.transactions t) ≡ 0 → eqb c t ≡ false
    other t z = ne_eqb c t (λ q. omega (arith, a, z, ap (λ (x : ℕ). code (phase_of s.transactions x)) q))

    unnamed : (e : Event) → (judged tables s e).verdict ≡ Accepted → ends c e ≡ false → (names_of s e).transaction c ≡ false
    unnamed (Begin t) v n = other t (entering tables s (step tables s (Begin t) v)).idle
    unnamed (Commit t) v n = ne_eqb c t (λ q. eqb-false t c n (sym q))
    unnamed (Abort t) v n = ne_eqb c t (λ q. eqb-false t c n (sym q))
    unnamed (Invoke t o m) v n = refl
    unnamed (Delegate t r q) v n = refl
    unnamed (CommitOne t q) v n = refl
    unnamed (AbortOne t q) v n = refl
    unnamed (Spawn m d) v n = other d (spawning tables s (step tables s (Spawn m d) v)).idle

    -- who is not begun by an event is not made a child by it
    not_made : (e : Event) → (names_of s e).transaction c ≡ false → (names_of s e).child c ≡ false
    not_made (Begin t) n = refl
    not_made (Commit t) n = refl
    not_made (Abort t) n = refl
    not_made (Invoke t o m) n = refl
    not_made (Delegate t r q) n = refl
    not_made (CommitOne t q) n = refl
    not_made (AbortOne t q) n = refl
    not_made (Spawn m d) n = n

    stays : (e : Event) → ends c e ≡ false → (phase_of (next tables s e).transactions c ≡ phase_of s.transactions c) × (parent_of (next tables s e).transactions c ≡ parent_of s.transactions c)
    stays e n =
        by-verdict tables s e
        (λ v. let f = event-promises.frame tables s e in let u = unnamed e v n in (f.phases c u, f.parents c (not_made e u)))
        (λ r v. rw (next-no tables s e r v) (refl, refl))

  run-stays : (ys : List Event) (s : State) → ends_in c ys ≡ false → code (phase_of s.transactions c) ≡ 1
      → (code (phase_of (run tables s ys).transactions c) ≡ 1) × (parent_of (run tables s ys).transactions c ≡ parent_of s.transactions c)
  unfolding run ends_in
  run-stays [] s n a = (a, refl)
  run-stays (e ∷ ys) s n a =
      let both = off-or (ends c e) (ends_in c ys) n in
      let one = stays s a e both.0 in
      let rest = run-stays ys (next tables s e) both.1 (ap code one.0 ∙ a) in
      (rest.0, rest.1 ∙ one.1)

-- ---- who has ended stays so, and a child stays its parent's

module _ (tables : Tables) where
  over-run : (m : ℕ) (vs : List Event) (s : State) → 2 ≤ code (phase_of s.transactions m) → 2 ≤ code (phase_of (run tables s vs).transactions m)
  over-run m = keeps-by tables (λ (s : State). 2 ≤ code (phase_of s.transactions m)) (λ s c h w. omega (arith, h, rises tables s c (phased tables s c w m)))

  record Under-it (c m : ℕ) (s : State) : Type 0 where
    kin : Kin tables s
    parent : parent_of s.transactions c ≡ Some m

  under-kept : (c m : ℕ) (s : State) (x : Change) → Under-it c m s → Step tables s x → Under-it c m (state_after x s)
  under-kept c m s x h w = record { kin = kin-kept tables s x h.kin w; parent = go (parented tables s x w c) }
    where
      go : Parented tables s x c → parent_of (state_after x s).transactions c ≡ Some m
      go (same-parent q) = q ∙ h.parent
      go (adopted-now n f a q) = absurd (omega (arith, f.idle, (h.kin.begun c m h.parent).0))

  -- whoever an accepted event ends has ended
  ended_by : (s : State) → Lasting s → (m : ℕ) (e : Event) → (judged tables s e).verdict ≡ Accepted → ends m e ≡ true → 2 ≤ code (phase_of (next tables s e).transactions m)
  ended_by s h m (Begin t) v n = clash n refl
  ended_by s h m (Commit t) v n =
      let there = (event-promises.does tables s).commits t (omega (arith, h.full, commit-low tables s h t v)) v in
      omega (arith, ap code (ap (phase_of (next tables s (Commit t)).transactions) (sym (eqb-true t m n)) ∙ there))
  ended_by s h m (Abort t) v n =
      let active = (ending tables s (step tables s (Abort t) v)).active in
      let low : t < length s.transactions = lt-or t (length s.transactions) (λ l. l) (λ l. absurd (omega (arith, active, ap code (past-idle s.transactions t l)))) in
      omega (arith, ap code (ap (phase_of (next tables s (Abort t)).transactions) (sym (eqb-true t m n)) ∙ (event-promises.does tables s).aborts t low v))
  ended_by s h m (Invoke t o k) v n = clash n refl
  ended_by s h m (Delegate t r q) v n = clash n refl
  ended_by s h m (CommitOne t q) v n = clash n refl
  ended_by s h m (AbortOne t q) v n = clash n refl
  ended_by s h m (Spawn k d) v n = clash n refl

-- the event among these by which m ends
record EndsAt (m : ℕ) (ys : List Event) : Type 0 where
  us : List Event
  e : Event
  vs : List Event
  here : ys ≡ us ++ (e ∷ vs)
  end : ends m e ≡ true

ends_at : (m : ℕ) (ys : List Event) → ends_in m ys ≡ true → EndsAt m ys
unfolding ends_in
ends_at m [] n = clash n refl
ends_at m (y ∷ ys) n =
    ⊎_elim
    (λ first. record { us = []; e = y; vs = ys; here = refl; end = first })
    (λ later. let w = ends_at m ys later in record { us = y ∷ w.us; e = w.e; vs = w.vs; here = ap (λ (l : List Event). y ∷ l) w.here; end = w.end })
    (or_cases (ends m y) (ends_in m ys) n)

-- ---- by the history alone

module _ (tables : Tables) (es xs ys zs : List Event) (m c : ℕ) (low : c < most_transactions) where
  -- right after the spawn
  abbrev spawned-then : State
  spawned-then = next tables (reached tables xs) (Spawn m c)

  -- when the last of these events comes
  abbrev then : State
  then = run tables spawned-then ys

  abbrev up_to : List Event
  up_to = xs ++ (Spawn m c ∷ ys)

  then_is : reached tables up_to ≡ then
  unfolding run
  then_is = run-append tables xs (Spawn m c ∷ ys) empty_state

  child-there : (judged tables (reached tables xs) (Spawn m c)).verdict ≡ Accepted
      → (phase_of spawned-then.transactions c ≡ Active) × (parent_of spawned-then.transactions c ≡ Some m)
  child-there v = (event-promises.does tables (reached tables xs)).spawns m c (omega (arith, (lasting tables xs).full)) v

  -- m's children have ended, whoever's child m is
  children-done : (judged tables (reached tables up_to) (Commit m)).verdict ≡ Accepted → ChildrenDone (reached tables up_to) m
  children-done v = go (parent_of (reached tables up_to).transactions m) refl
    where
      go : (p : Parent) → parent_of (reached tables up_to).transactions m ≡ p → ChildrenDone (reached tables up_to) m
      go None e = ((commit-when tables up_to m e).0 v).children
      go (Some k) e = ((hand-when tables up_to m k e).0 v).could.children

  children_first : history tables es ≡ xs ++ (Spawn m c ∷ (ys ++ (Commit m ∷ zs))) → ends_in c ys ≡ true
  children_first q =
      let first = cut tables es xs (ys ++ (Commit m ∷ zs)) empty_state (Spawn m c) q in
      let there = child-there first.accepted in
      let second = cut tables first.rest ys zs spawned-then (Commit m) first.later in
      bool_cases (ends_in c ys) (λ on. on)
      (λ off.
      let last = run-stays tables c ys spawned-then off (ap code there.0) in
      let done = children-done (subst⁻¹ (λ (s : State). (judged tables s (Commit m)).verdict ≡ Accepted) then_is second.accepted) in
      clash
      (rw (of-active (phase_of then.transactions c) last.0))
      (subst (λ (s : State). is_active (phase_of s.transactions c) ≡ false) then_is
      (done c (subst⁻¹ (λ (s : State). parent_of s.transactions c ≡ Some m) then_is (last.1 ∙ there.1)))))

  parent_lasts : history tables es ≡ xs ++ (Spawn m c ∷ (ys ++ (Commit c ∷ zs))) → ends_in m ys ≡ false
  unfolding run
  parent_lasts q =
      let first = cut tables es xs (ys ++ (Commit c ∷ zs)) empty_state (Spawn m c) q in
      let there = child-there first.accepted in
      let second = cut tables first.rest ys zs spawned-then (Commit c) first.later in
      let under = (keeps-by tables (Under-it tables c m) (under-kept tables c m) ys spawned-then (record { kin = kin-then; parent = there.1 })).parent in
      let lasts = ((hand-when tables up_to c m (subst⁻¹ (λ (s : State). parent_of s.transactions c ≡ Some m) then_is under)).0
      (subst⁻¹ (λ (s : State). (judged tables s (Commit c)).verdict ≡ Accepted) then_is second.accepted)).could.parent in
      is-not (ends_in m ys)
      (λ on. clash (ended_is (phase_of then.transactions m) (over-then first.rest first.later (ends_at m ys on))) (subst (λ (s : State). has_ended (phase_of s.transactions m) ≡ false) then_is lasts))
    where
      kin-then : Kin tables spawned-then
      kin-then = by_next tables (reached tables xs) (Spawn m c) (Kin tables) (kin tables xs) (λ x w. kin-kept tables (reached tables xs) x (kin tables xs) w)

      lasting-then : Lasting spawned-then
      lasting-then = by_next tables (reached tables xs) (Spawn m c) Lasting (lasting tables xs) (λ x w. lasting-kept tables (reached tables xs) x (lasting tables xs) w)

      ended_is : (p : Phase) → 2 ≤ code p → has_ended p ≡ true
      ended_is Idle h = absurd (omega arith)
      ended_is Active h = absurd (omega arith)
      ended_is Committed h = refl
      ended_is Aborted h = refl

      over-then : (rest : List Event) → taken tables spawned-then rest ≡ ys ++ (Commit c ∷ zs) → EndsAt m ys → 2 ≤ code (phase_of then.transactions m)
      over-then rest later w =
          let at = run tables spawned-then w.us in
          let split = later ∙ ap (λ (l : List Event). l ++ (Commit c ∷ zs)) w.here ∙ append_assoc w.us (w.e ∷ w.vs) (Commit c ∷ zs) in
          let e = cut tables rest w.us (w.vs ++ (Commit c ∷ zs)) spawned-then w.e split in
          let lasts = keeps-by tables Lasting (lasting-kept tables) w.us spawned-then lasting-then in
          subst⁻¹ (λ (s : State). 2 ≤ code (phase_of s.transactions m)) (ap (run tables spawned-then) w.here ∙ run-append tables w.us (w.e ∷ w.vs) spawned-then)
          (over-run tables m w.vs (next tables at w.e) (ended_by tables at lasts m w.e e.accepted w.end))

begun-not : (p : Phase) → 1 ≤ code p → p ≢ Idle
begun-not p h e = omega (arith, ap code e)

pub families : (tables : Tables) (es : List Event) → Families tables es
families tables es =
    record {
      parents = parents-told tables es;
      plain = (kin tables es).plain;
      clerk = clerk-is tables (reached tables es) (kin tables es);
      begun = λ t m e.
          let b = (kin tables es).begun t m e in
          (begun-not (phase_of (reached tables es).transactions t) b.0, begun-not (phase_of (reached tables es).transactions m) b.1);
      hands = hands-over tables es;
      none_kept = none_kept tables es;
      children_first = λ xs ys zs m c low q. children_first tables es xs ys zs m c low q;
      parent_lasts = λ xs ys zs m c low q. parent_lasts tables es xs ys zs m c low q;
    }
