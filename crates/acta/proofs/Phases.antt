-- The phase of every transaction, by the events that began and ended it (★2).
use Prim.Native.Nat.{ℕ, ◌<◌}
use native.Mathlib.Omega.{arith}
use mathlib.Core.Path.{◌≡◌, refl, sym, ap, subst, subst⁻¹}
use mathlib.Core.Bool.{Bool, true, false, not, ◌&&◌, ◌||◌, or-false}
use mathlib.Core.List.{List, [], ◌∷◌}
use lib.ListN.{length}
use borrow.Author.Tests.{eq-eqb, ne_eqb}
use Rattle.laws.specs.Lines.{Off}
use Rattle.laws.proofs.Bools.{off-not}
use Rattle.laws.proofs.Decisions.{lt-or, same_or}
use Rattle.terms.specs.declared.Event.{Event}
use Rattle.terms.specs.declared.Event.TheVariants.{Abort, AbortOne, Begin, Commit, CommitOne, Delegate, Operation as Invoke, Spawn}
use Rattle.terms.specs.declared.Verdict.TheVariants.{Accepted}
use Rattle.tables.specs.Accepted.{Well}
use Rattle.tables.specs.Sorts.{is_known, is_plain, sort_of}
use Rattle.tables.specs.declared.Sort.{Sort}
use Rattle.tables.specs.declared.Sort.TheVariants.{Plain, Saga, Step as StepSort, Undo, Unknown}
use Rattle.tables.specs.declared.Tables.{Tables}
use Rattle.tables.proofs.SagaLaws.{known_small}
use Rattle.rules.specs.Rules.{inactive}
use Rattle.rules.specs.States.{empty_state, is_aborted, is_active, is_committed, is_idle, phase_of}
use Rattle.rules.specs.States.{Parent}
use Rattle.rules.specs.declared.Phase.{Phase}
use Rattle.rules.specs.declared.Phase.TheVariants.{Aborted, Active, Committed, Idle}
use Rattle.rules.specs.declared.State.{State}
use Rattle.rules.proofs.PhaseLaws.{active-is, code, of-active, of-idle}
use Rattle.rules.proofs.StateLaws.{all-idle, past-idle}
use Rattle.judge.specs.Judge.{change_of, commit_lines_under, judged, lines}
use Rattle.judge.specs.Promises.{names_of}
use Rattle.judge.proofs.ClerkLaws.{by-clerk}
use Rattle.judge.proofs.EventLaws.{by-verdict, lines-off, next-no, next-ok}
use Rattle.judge.proofs.EventPromisesHold.{event-promises}
use Rattle.histories.specs.Histories.{history, next, reached, run, taken}
use Rattle.histories.proofs.Invariants.{lasting-kept, lasting-start}
use Rattle.histories.proofs.Lasts.{Lasting}
use Rattle.histories.proofs.Steps.{ending, entering, spawning, step}
use Rattle.acta.specs.Words.{aborted, aborts, began, begins, committed, commits, in_progress, occurs}

-- from one phase to a later one: whether t began in between, committed, aborted
record Seen (p q : Phase) (b c a : Bool) : Type 0 where
  begun : not (is_idle q) ≡ (not (is_idle p) || b)
  committed-too : is_committed q ≡ (is_committed p || c)
  aborted-too : is_aborted q ≡ (is_aborted p || a)

stays : (p : Phase) → Seen p p false false false
stays p = record { begun = sym (or-false (not (is_idle p))); committed-too = sym (or-false (is_committed p)); aborted-too = sym (or-false (is_aborted p)) }

or-more : (x y z b c : Bool) → z ≡ (y || c) → y ≡ (x || b) → z ≡ (x || (b || c))
or-more true y z b c e d = rw (e, d)
or-more false y z b c e d = rw (e, d)

and_then : {p q r : Phase} {b c a b' c' a' : Bool} → Seen p q b c a → Seen q r b' c' a' → Seen p r (b || b') (c || c') (a || a')
and_then {p} {q} {r} {b} {c} {a} {b'} {c'} {a'} x y =
    record {
      begun = or-more (not (is_idle p)) (not (is_idle q)) (not (is_idle r)) b b' y.begun x.begun;
      committed-too = or-more (is_committed p) (is_committed q) (is_committed r) c c' y.committed-too x.committed-too;
      aborted-too = or-more (is_aborted p) (is_aborted q) (is_aborted r) a a' y.aborted-too x.aborted-too;
    }

pub plain_known : (x : Sort) → is_plain x ≡ true → is_known x ≡ true
plain_known (Saga f n) h = refl
plain_known (StepSort f n i) h = refl
plain_known (Undo f n i) h = refl
plain_known Plain h = refl
plain_known Unknown h = h

module _ (tables : Tables) (well : Well tables) (s : State) (lasts : Lasting s) where
  known-low : (u : ℕ) → is_known (sort_of tables u) ≡ true → u < length s.transactions
  known-low u k = omega (arith, known_small tables u k, well.fits, lasts.full)

  active-low : (u : ℕ) → code (phase_of s.transactions u) ≡ 1 → u < length s.transactions
  active-low u a = lt-or u (length s.transactions) (λ l. l) (λ l. absurd (omega (arith, a, ap code (past-idle s.transactions u l))))

  pub commit-active : (u : ℕ) → (judged tables s (Commit u)).verdict ≡ Accepted → code (phase_of s.transactions u) ≡ 1
  commit-active u v = active-is (phase_of s.transactions u) (off-not (is_active (phase_of s.transactions u)) (line-off (lines-off tables s (Commit u) v)))
    where
      line-off : Off (lines tables s (Commit u)) → inactive s.transactions u ≡ false
      line-off =
          by-clerk tables s.transactions u (λ (p : Parent). Off (commit_lines_under tables s.transactions s.ops u p) → inactive s.transactions u ≡ false)
          (λ o off. off.1.0) (λ m f off. off.1.0)

  -- the event names u, and takes it from one phase to the next; others stay in theirs
  module _ (e : Event) (t : ℕ) where
    abbrev Saw : Bool → Bool → Bool → Type 0
    Saw = Seen (phase_of s.transactions t) (phase_of (next tables s e).transactions t)

    other : (names_of s e).transaction t ≡ false → Saw false false false
    other n = subst (λ (p : Phase). Seen (phase_of s.transactions t) p false false false) (sym ((event-promises.frame tables s e).phases t n)) (stays (phase_of s.transactions t))

    goes : (p q : Phase) → phase_of s.transactions t ≡ p → phase_of (next tables s e).transactions t ≡ q → (b c a : Bool) → Seen p q b c a → Saw b c a
    goes p q old new b c a w = subst⁻¹ (λ (x : Phase). Seen x (phase_of (next tables s e).transactions t) b c a) old (subst⁻¹ (λ (x : Phase). Seen p x b c a) new w)

  saw : (e : Event) (t : ℕ) → (judged tables s e).verdict ≡ Accepted → Saw e t (begins t e) (commits t e) (aborts t e)
  saw (Begin u) t v =
      same_or t u
      (λ q. rw (eq-eqb u t (sym q)) (goes (Begin u) t Idle Active
      (of-idle (phase_of s.transactions t) (subst⁻¹ (λ (x : ℕ). code (phase_of s.transactions x) ≡ 0) q (entering tables s (step tables s (Begin u) v)).idle))
      (subst⁻¹ (λ (x : ℕ). phase_of (next tables s (Begin u)).transactions x ≡ Active) q
      ((event-promises.does tables s).begins u (known-low u (off-not (is_known (sort_of tables u)) (lines-off tables s (Begin u) v).0)) v))
      true false false (record { begun = refl; committed-too = refl; aborted-too = refl })))
      (λ n. rw (ne_eqb u t (λ q. n (sym q))) (other (Begin u) t (ne_eqb t u n)))
  saw (Commit u) t v =
      same_or t u
      (λ q. rw (eq-eqb u t (sym q)) (goes (Commit u) t Active Committed
      (of-active (phase_of s.transactions t) (subst⁻¹ (λ (x : ℕ). code (phase_of s.transactions x) ≡ 1) q (commit-active u v)))
      (subst⁻¹ (λ (x : ℕ). phase_of (next tables s (Commit u)).transactions x ≡ Committed) q ((event-promises.does tables s).commits u (active-low u (commit-active u v)) v))
      false true false (record { begun = refl; committed-too = refl; aborted-too = refl })))
      (λ n. rw (ne_eqb u t (λ q. n (sym q))) (other (Commit u) t (ne_eqb t u n)))
  saw (Abort u) t v =
      let a = (ending tables s (step tables s (Abort u) v)).active in
      same_or t u
      (λ q. rw (eq-eqb u t (sym q)) (goes (Abort u) t Active Aborted
      (of-active (phase_of s.transactions t) (subst⁻¹ (λ (x : ℕ). code (phase_of s.transactions x) ≡ 1) q a))
      (subst⁻¹ (λ (x : ℕ). phase_of (next tables s (Abort u)).transactions x ≡ Aborted) q ((event-promises.does tables s).aborts u (active-low u a) v))
      false false true (record { begun = refl; committed-too = refl; aborted-too = refl })))
      (λ n. rw (ne_eqb u t (λ q. n (sym q))) (other (Abort u) t (ne_eqb t u n)))
  saw (Invoke u o m) t v = other (Invoke u o m) t refl
  saw (Delegate u r q) t v = other (Delegate u r q) t refl
  saw (CommitOne u q) t v = other (CommitOne u q) t refl
  saw (AbortOne u q) t v = other (AbortOne u q) t refl
  saw (Spawn m u) t v =
      let f = spawning tables s (step tables s (Spawn m u) v) in
      same_or t u
      (λ q. rw (eq-eqb u t (sym q)) (goes (Spawn m u) t Idle Active
      (of-idle (phase_of s.transactions t) (subst⁻¹ (λ (x : ℕ). code (phase_of s.transactions x) ≡ 0) q f.idle))
      (subst⁻¹ (λ (x : ℕ). phase_of (next tables s (Spawn m u)).transactions x ≡ Active) q
      ((event-promises.does tables s).spawns m u (known-low u (plain_known (sort_of tables u) f.child)) v).0)
      true false false (record { begun = refl; committed-too = refl; aborted-too = refl })))
      (λ n. rw (ne_eqb u t (λ q. n (sym q))) (other (Spawn m u) t (ne_eqb t u n)))

module _ (tables : Tables) (well : Well tables) (t : ℕ) where
  saw-all : (es : List Event) (s : State) → Lasting s
      → Seen (phase_of s.transactions t) (phase_of (run tables s es).transactions t)
      (occurs (begins t) (taken tables s es)) (occurs (commits t) (taken tables s es)) (occurs (aborts t) (taken tables s es))
  unfolding run taken occurs
  saw-all [] s h = stays (phase_of s.transactions t)
  saw-all (e ∷ es) s h =
      by-verdict tables s e
      (λ v. rw v (and_then (saw tables well s h e t v) (saw-all es (next tables s e) (subst⁻¹ Lasting (next-ok tables s e v) (lasting-kept tables s (change_of tables s.transactions e) h (step tables s e v))))))
      (λ r v. rw v (subst⁻¹ (λ (x : State). Seen (phase_of s.transactions t) (phase_of (run tables x es).transactions t)
      (occurs (begins t) (taken tables x es)) (occurs (commits t) (taken tables x es)) (occurs (aborts t) (taken tables x es))) (next-no tables s e r v) (saw-all es s h)))

  module _ (es : List Event) where
    abbrev now : Phase
    now = phase_of (reached tables es).transactions t

    seen : Seen Idle now (began (history tables es) t) (committed (history tables es) t) (aborted (history tables es) t)
    seen = subst (λ (p : Phase). Seen p now (began (history tables es) t) (committed (history tables es) t) (aborted (history tables es) t)) (all-idle t) (saw-all es empty_state lasting-start)

    pub idle-told : is_idle now ≡ not (began (history tables es) t)
    idle-told = not-not (is_idle now) (began (history tables es) t) seen.begun
      where
        not-not : (a b : Bool) → not a ≡ b → a ≡ not b
        not-not true b e = rw (← e)
        not-not false b e = rw (← e)

    pub committed-told : is_committed now ≡ committed (history tables es) t
    committed-told = seen.committed-too

    pub aborted-told : is_aborted now ≡ aborted (history tables es) t
    aborted-told = seen.aborted-too

    pub active-told : is_active now ≡ in_progress (history tables es) t
    active-told = rw (← seen.begun, ← seen.committed-too, ← seen.aborted-too) (by-phase now)
      where
        by-phase : (p : Phase) → is_active p ≡ (not (is_idle p) && not (is_committed p || is_aborted p))
        by-phase Idle = refl
        by-phase Active = refl
        by-phase Committed = refl
        by-phase Aborted = refl
