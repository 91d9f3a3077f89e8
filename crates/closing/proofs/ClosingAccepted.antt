-- The closing moves are accepted: nothing outside the saga bars them.
use Prim.Native.Nat.{ℕ, ◌+◌, ◌*◌, ◌≤◌, ◌<◌, min}
use mathlib.Core.Bool.{Bool, true, false, not, ◌&&◌, ◌||◌, false≢true}
use native.Mathlib.Omega.{arith}
use mathlib.Core.Path.{◌≡◌, refl, sym, ap, subst, subst⁻¹, ◌∙◌}
use mathlib.Core.Logic.{inl, inr, ⊎_elim}
use mathlib.Core.List.{List}
use lib.ListN.{length}
use lib.Dec.{leb, eqb}
use borrow.Author.Tests.{leb-true, eqb-true, lt-ltb}
use Rattle.laws.specs.Lines.{Off}
use Rattle.laws.proofs.Bools.{and-off, and_on, bool_cases, clash, not-off, on_and, or_off}
use Rattle.laws.proofs.IndexLaws.{any-off}
use Rattle.terms.specs.Limits.{most_dependencies, most_transactions}
use Rattle.terms.specs.declared.Verdict.TheVariants.{Accepted}
use Rattle.tables.specs.Accepted.{Well}
use Rattle.tables.specs.Dependencies.{dependency_at, kind_number, may_depend}
use Rattle.tables.specs.Sorts.{first_of, is_plain, number_of_all, sort_of, steps_of}
use Rattle.tables.specs.declared.Kind.{Kind}
use Rattle.tables.specs.declared.Kind.TheVariants.{Abort as AbortKind, Begin as BeginKind, BeginOnAbort, BeginOnCommit, Commit as CommitKind, Serial, WeakAbort}
use Rattle.tables.specs.declared.Sort.{Sort}
use Rattle.tables.specs.declared.Sort.TheVariants.{Saga as SagaItself, Step, Undo}
use Rattle.tables.specs.declared.Tables.{Tables}
use Rattle.tables.proofs.DependencyLaws.{on-allowed}
use Rattle.tables.proofs.SagaLaws.{owned-le, sort-step, sort-undo, well-steps}
use Rattle.judge.specs.Judge.{awaits_child, change_of, commit_lines, commit_lines_under, judged, state_after}
use Rattle.rules.specs.Rules.{barred_by, commit_barred, commit_bars, declared_bars, kind_bars, undo_begins, undone}
use Rattle.rules.specs.States.{entered, is_aborted, is_active, is_committed, own, phase_of}
use Rattle.terms.specs.declared.Event.TheVariants.{Abort, Begin, Commit}
use Rattle.rules.specs.declared.Phase.{Phase}
use Rattle.rules.specs.declared.Phase.TheVariants.{Aborted, Active, Committed}
use Rattle.rules.specs.declared.State.{State}
use Rattle.rules.specs.declared.Transaction.{Transaction}
use Rattle.rules.proofs.PhaseLaws.{code, committed_is, not-active, not_committed, of-aborted, of-active, of-committed, of-idle}
use Rattle.judge.proofs.EventLaws.{off-lines}
use Rattle.histories.proofs.Steps.{commit-enters, nobodys}
use Rattle.rules.proofs.StateLaws.{entered-other, entered-same}
use Rattle.closing.proofs.Moves.{Move, Moved, abort-saga, abort_step, begin-saga, begin-step, begin_undo, commit-saga, commit-step, commit_undo, moved_at, moved_to}
use Rattle.closing.proofs.OutstandingLaws.{Safe, move_event}
use Rattle.closing.proofs.OwnEvents.{f0, sort-first}
use Rattle.closing.proofs.UndoTies.{Alone, Tidy, not-dirty, saga-off-rings, tied-counted}

-- ---- declared dependencies

-- kinds 4 to 7 do not bar a commit
late-kind : (kind : Kind) (b : Phase) → 4 ≤ kind_number kind → commit_bars kind b ≡ false
late-kind CommitKind b h = absurd (omega arith)
late-kind AbortKind b h = absurd (omega arith)
late-kind WeakAbort b h = absurd (omega arith)
late-kind BeginKind b h = refl
late-kind Serial b h = refl
late-kind BeginOnCommit b h = refl
late-kind BeginOnAbort b h = refl

-- who depends: no undo, and a saga only by kinds 4 to 7
not-undo : (f n j kind : ℕ) (x : Sort) → x ≡ Undo f n j → may_depend x kind ≡ true → ⊥
not-undo f n j kind x e h = let z : may_depend (Undo f n j) kind ≡ true = rw e at h in false≢true (sym (and-off (leb 4 kind) false (λ u. refl)) ∙ z)

saga-late : (f n kind : ℕ) (x : Sort) → x ≡ SagaItself f n → may_depend x kind ≡ true → 4 ≤ kind
saga-late f n kind x e h = let z : (leb 4 kind && true) ≡ true = rw e at h in leb-true 4 kind (on_and (leb 4 kind) true z).0

module _ (tables : Tables) (well : Well tables) (s : State) where
  -- what is declared of t
  declared-of : (t i : ℕ) → i < min tables.declared most_dependencies → eqb (dependency_at tables i).dependent t ≡ true
      → may_depend (sort_of tables t) (kind_number (dependency_at tables i).kind) ≡ true
  declared-of t i l e =
      rw (eqb-true (dependency_at tables i).dependent t e) at
      (on-allowed tables (number_of_all tables) (dependency_at tables i).dependent (dependency_at tables i).base (kind_number (dependency_at tables i).kind)
      (well.permitted i (omega arith))).dependent-may

  -- no dependency has an undo for its dependent
  undo_free : (begins : Bool) (t f n j : ℕ) → sort_of tables t ≡ Undo f n j → declared_bars begins tables s.transactions t ≡ false
  unfolding declared_bars
  undo_free begins t f n j e =
      any-off (min tables.declared most_dependencies) (λ i. barred_by begins s.transactions t (dependency_at tables i))
      (λ i l.
      and-off (eqb (dependency_at tables i).dependent t) (kind_bars begins (dependency_at tables i).kind (phase_of s.transactions (dependency_at tables i).base))
      (λ u. absurd (not-undo f n j (kind_number (dependency_at tables i).kind) (sort_of tables t) e (declared-of t i l u))))

  -- and none of kinds 1 to 3 has an S
  saga_free : (t f n : ℕ) → sort_of tables t ≡ SagaItself f n → declared_bars false tables s.transactions t ≡ false
  unfolding declared_bars
  saga_free t f n e =
      any-off (min tables.declared most_dependencies) (λ i. barred_by false s.transactions t (dependency_at tables i))
      (λ i l.
      and-off (eqb (dependency_at tables i).dependent t) (commit_bars (dependency_at tables i).kind (phase_of s.transactions (dependency_at tables i).base))
      (λ u.
      late-kind (dependency_at tables i).kind (phase_of s.transactions (dependency_at tables i).base)
      (saga-late f n (kind_number (dependency_at tables i).kind) (sort_of tables t) e (declared-of t i l u))))

  -- what is tied before an operation of S or of an undo is committed or its own
  alone-saga : Tidy tables s → (t f n : ℕ) → sort_of tables t ≡ SagaItself f n → Alone s t
  alone-saga tidy t f n e p q r w =
      clash (rw (ap (sort_of tables) r ∙ e)) (tidy.free q (tied-counted s tidy.off_rings.ends.lasts p q w))

  alone-undo : Tidy tables s → (t f n j : ℕ) → sort_of tables t ≡ Undo f n j → Alone s t
  alone-undo tidy t f n j e p q r w = ⊎_elim inl (λ same. inr (same ∙ r)) (tidy.clear p q (rw (ap (sort_of tables) r ∙ e)) w)

  -- whoever is not plain is nobody's child, and has none
  own-commits : (t : ℕ) → is_plain (sort_of tables t) ≡ false → Off (commit_lines tables s.transactions s.ops t) → (judged tables s (Commit t)).verdict ≡ Accepted
  own-commits t e off = off-lines tables s (Commit t) (subst⁻¹ Off (ap (commit_lines_under tables s.transactions s.ops t) (nobodys tables s t e)) off)

  unbarred : (t : ℕ) → is_plain (sort_of tables t) ≡ false → declared_bars false tables s.transactions t ≡ false
      → (declared_bars false tables s.transactions t || awaits_child tables s.transactions t) ≡ false
  unbarred t e d = or_off (declared_bars false tables s.transactions t) (awaits_child tables s.transactions t) d (rw e)

  -- an active undo commits
  pub undo_commits : Tidy tables s → (t f n j : ℕ) → sort_of tables t ≡ Undo f n j → code (phase_of s.transactions t) ≡ 1 → (judged tables s (Commit t)).verdict ≡ Accepted
  undo_commits tidy t f n j x a =
      own-commits t (rw x) (
        rw x,
        (
          rw (of-active (phase_of s.transactions t) a),
          (
            rw x,
            (
              unbarred t (rw x) (undo_free false t f n j x),
              (
                not-dirty tables s t tidy.off_rings.ends (rw x) a (alone-undo tidy t f n j x),
                (tidy.off_rings.free t (rw (x, of-active (phase_of s.transactions t) a)), tt),
              ),
            ),
          ),
        ),
      )

  -- and so does an active S whose last step is committed
  pub saga_commits : Tidy tables s → (t f n : ℕ) → sort_of tables t ≡ SagaItself f n → code (phase_of s.transactions t) ≡ 1
      → commit_barred s.transactions (SagaItself f n) ≡ false → (judged tables s (Commit t)).verdict ≡ Accepted
  saga_commits tidy t f n x a done =
      own-commits t (rw x) (
        rw x,
        (
          rw (of-active (phase_of s.transactions t) a),
          (
            rw x done,
            (
              unbarred t (rw x) (saga_free t f n x),
              (
                not-dirty tables s t tidy.off_rings.ends (rw x) a (alone-saga tidy t f n x),
                (saga-off-rings tables s tidy t (rw x), tt),
              ),
            ),
          ),
        ),
      )

  module _ (tidy : Tidy tables s) (i : ℕ) (listed : i < tables.sagas) where
    abbrev f : ℕ
    f = first_of tables i

    abbrev n : ℕ
    n = steps_of tables i

    abbrev P : ℕ → Phase
    P = own s.transactions f

    has-step : 1 ≤ n
    has-step = (well-steps tables well i listed).0

    at_first : f + 0 ≡ f
    at_first = f0 tables i s

    pub accept : (m : Move n P) → Safe m → (judged tables s (move_event f m)).verdict ≡ Accepted
    accept (begin-saga a) ok = absurd ok
    accept (begin-step k a b c d e) ok = absurd ok
    accept (commit-step k a b c d) ok = absurd ok
    accept (begin_undo j a b c d e w g) ok =
        let x : sort_of tables (f + (n + j)) ≡ Undo f n j = sort-undo tables i j a b in
        off-lines tables s (Begin (f + (n + j)))
        (rw x, (rw (of-idle (P (n + j)) c), (rw x (not-off (undo_begins n P j) begins), (undo_free true (f + (n + j)) f n j x, tt))))
      where
        begins : undo_begins n P j ≡ true
        begins =
            and_on
            (is_aborted (P 0))
            (is_committed (P j) && (not (is_active (P (j + 1))) && (not (is_committed (P (j + 1))) || undone n P (j + 1))))
            (rw (of-aborted (P 0) d))
            (and_on
            (is_committed (P j))
            (not (is_active (P (j + 1))) && (not (is_committed (P (j + 1))) || undone n P (j + 1)))
            (rw (of-committed (P j) e))
            (and_on
            (not (is_active (P (j + 1))))
            (not (is_committed (P (j + 1))) || undone n P (j + 1))
            (rw (not-active (P (j + 1)) w))
            (bool_cases
            (is_committed (P (j + 1)))
            (λ t. let r = g (committed_is (P (j + 1)) t) in rw (t, lt-ltb (j + 1) n r.0, of-committed (P (n + (j + 1))) r.1))
            (λ t. rw t))))
    accept (commit-saga a b) ok =
        subst
        (λ (t : ℕ). (judged tables s (Commit t)).verdict ≡ Accepted)
        at_first
        (saga_commits tidy (f + 0) f n (sort-first tables i s has-step) a (rw (of-committed (P n) b)))
    accept (commit_undo j a b c) ok = undo_commits tidy (f + (n + j)) f n j (sort-undo tables i j a b) c
    accept (abort-saga a b) ok =
        let x : sort_of tables (f + 0) ≡ SagaItself f n = sort-first tables i s has-step in
        subst
        (λ (t : ℕ). (judged tables s (Abort t)).verdict ≡ Accepted)
        at_first
        (off-lines tables s (Abort (f + 0))
        (rw x, (rw x, (rw (of-active (P 0) a), (rw x (not_committed (P n) b), tt)))))
    accept (abort_step k a b c) ok =
        let x : sort_of tables (f + k) ≡ Step f n k = sort-step tables i k a b in
        off-lines tables s (Abort (f + k)) (rw x, (rw x, (rw (of-active (P k) c), (rw x, tt))))

-- ---- what the event of a move does

module _ (tables : Tables) (well : Well tables) (i : ℕ) (listed : i < tables.sagas) (s : State) (full : length s.transactions ≡ most_transactions) where
  abbrev f₁ : ℕ
  f₁ = first_of tables i

  abbrev n₁ : ℕ
  n₁ = steps_of tables i

  does_at : (m : Move n₁ (own s.transactions f₁)) (s' : State) (t : ℕ) (p : Phase) → moved_at m < 2 * n₁ → f₁ + moved_at m ≡ t → code p ≡ moved_to m →
      s'.transactions ≡ entered p t s.transactions → Moved n₁ (own s.transactions f₁) (own s'.transactions f₁) m
  does_at m s' t p l q c e =
      record {
        here =
            ap (λ (x : ℕ). code (phase_of s'.transactions x)) q
            ∙ ap code (ap (λ (l : List Transaction). phase_of l t) e ∙ entered-same s.transactions t p low)
            ∙ c;
        other =
            λ k d.
            ap
            code
            (ap (λ (l : List Transaction). phase_of l (f₁ + k)) e
            ∙ entered-other s.transactions t (f₁ + k) p (λ g. d (omega arith)));
      }
    where
      low : t < length s.transactions
      low = omega (arith, full, owned-le tables i, well.fits)

  pub does : (m : Move n₁ (own s.transactions f₁)) → Moved n₁ (own s.transactions f₁) (own (state_after (change_of tables s.transactions (move_event f₁ m)) s).transactions f₁) m
  unfolding state_after
  does (begin-saga a) = does_at (begin-saga a) (state_after (change_of tables s.transactions (Begin f₁)) s) f₁ Active (omega (arith, (well-steps tables well i listed).0)) (omega arith) refl refl
  does (begin-step k a b c d e) = does_at (begin-step k a b c d e) (state_after (change_of tables s.transactions (Begin (f₁ + k))) s) (f₁ + k) Active (omega arith) refl refl refl
  does (begin_undo j a b c d e w g) = does_at (begin_undo j a b c d e w g) (state_after (change_of tables s.transactions (Begin (f₁ + (n₁ + j)))) s) (f₁ + (n₁ + j)) Active (omega arith) refl refl refl
  does (commit-saga a b) = does_at (commit-saga a b) (state_after (change_of tables s.transactions (Commit f₁)) s) f₁ Committed (omega (arith, (well-steps tables well i listed).0)) (omega arith) refl (commit-enters tables s f₁)
  does (commit-step k a b c d) = does_at (commit-step k a b c d) (state_after (change_of tables s.transactions (Commit (f₁ + k))) s) (f₁ + k) Committed (omega arith) refl refl (commit-enters tables s (f₁ + k))
  does (commit_undo j a b c) = does_at (commit_undo j a b c) (state_after (change_of tables s.transactions (Commit (f₁ + (n₁ + j)))) s) (f₁ + (n₁ + j)) Committed (omega arith) refl refl (commit-enters tables s (f₁ + (n₁ + j)))
  does (abort-saga a b) = does_at (abort-saga a b) (state_after (change_of tables s.transactions (Abort f₁)) s) f₁ Aborted (omega (arith, (well-steps tables well i listed).0)) (omega arith) refl refl
  does (abort_step k a b c) = does_at (abort_step k a b c) (state_after (change_of tables s.transactions (Abort (f₁ + k))) s) (f₁ + k) Aborted (omega arith) refl refl refl
