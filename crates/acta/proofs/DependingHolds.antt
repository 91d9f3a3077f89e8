-- Declared dependencies (★6): what the rules ask of the phase of the base is what the words say of it.
use Prim.Native.Nat.{ℕ}
use mathlib.Core.Path.{◌≡◌, refl, sym, ap, subst, ◌∙◌}
use mathlib.Core.Bool.{Bool, true, false, not}
use mathlib.Core.List.{List}
use lib.Dec.{eqb}
use borrow.Author.Tests.{eq-eqb, eqb-true}
use Rattle.laws.proofs.Bools.{and-off, and-rest, clash, not_on, on-not}
use Rattle.laws.proofs.IndexLaws.{any-off, off-any}
use Rattle.terms.specs.declared.Event.{Event}
use Rattle.terms.specs.declared.Event.TheVariants.{Abort as Aborts, AbortOne, Begin as Begins, Commit as Commits, CommitOne, Delegate, Operation as Invoke, Spawn}
use Rattle.terms.specs.declared.Verdict.TheVariants.{Accepted}
use Rattle.tables.specs.Accepted.{Well}
use Rattle.tables.specs.Counts.{dependency_count}
use Rattle.tables.specs.Dependencies.{dependency_at}
use Rattle.tables.specs.declared.Dependency.{Dependency}
use Rattle.tables.specs.declared.Kind.{Kind}
use Rattle.tables.specs.declared.Kind.TheVariants.{Abort, Begin, BeginOnAbort, BeginOnCommit, Commit, Serial, WeakAbort}
use Rattle.tables.specs.declared.Tables.{Tables}
use Rattle.rules.specs.Rules.{barred_by, begin_bars, commit_bars, declared_bars, kind_bars}
use Rattle.rules.specs.States.{parent_of, phase_of}
use Rattle.rules.specs.States.{Parent}
use Rattle.std.specs.Prelude.{None, Some}
use Rattle.judge.specs.Judge.{judged}
use Rattle.histories.specs.Histories.{history, reached}
use Rattle.histories.proofs.AcceptedWhenHolds.{accepted-when}
use Rattle.acta.specs.Depending.{Declared, Depending, lets_begin, lets_commit}
use Rattle.acta.specs.Told.{IsTold}
use Rattle.acta.specs.Words.{aborted, began, begins, committed, ended}
use Rattle.acta.proofs.Places.{told_at}
use Rattle.acta.proofs.Runs.{accepted-there}

-- of a begin (true) or of a commit
abbrev pub lets : Bool → Kind → List Event → ℕ → Bool
lets true = lets_begin
lets false = lets_commit

pub twice : (x : Bool) → not (not x) ≡ x
twice true = refl
twice false = refl

module _ (tables : Tables) (es h : List Event) (told : IsTold tables es h) where
  commit-words : (k : Kind) (b : ℕ) → not (commit_bars k (phase_of (reached tables es).transactions b)) ≡ lets_commit k h b
  commit-words Commit b = rw (told.committed_is b, told.aborted_is b) (twice (ended h b))
  commit-words Abort b = rw (told.committed_is b) (twice (committed h b))
  commit-words WeakAbort b = rw (told.aborted_is b)
  commit-words Begin b = refl
  commit-words Serial b = refl
  commit-words BeginOnCommit b = refl
  commit-words BeginOnAbort b = refl

  begin-words : (k : Kind) (b : ℕ) → not (begin_bars k (phase_of (reached tables es).transactions b)) ≡ lets_begin k h b
  begin-words Commit b = refl
  begin-words Abort b = refl
  begin-words WeakAbort b = refl
  begin-words Begin b = rw (told.idle b) (twice (began h b))
  begin-words Serial b = rw (told.committed_is b, told.aborted_is b) (twice (ended h b))
  begin-words BeginOnCommit b = rw (told.committed_is b) (twice (committed h b))
  begin-words BeginOnAbort b = rw (told.aborted_is b) (twice (aborted h b))

  kind-words : (begins : Bool) (k : Kind) (b : ℕ) → not (kind_bars begins k (phase_of (reached tables es).transactions b)) ≡ lets begins k h b
  kind-words true = begin-words
  kind-words false = commit-words

  -- no declared dependency bars d exactly when all of them let it
  pub none-bars : (begins : Bool) (d : ℕ) → declared_bars begins tables (reached tables es).transactions d ≡ false → (b : ℕ) (k : Kind) → Declared tables d b k → lets begins k h b ≡ true
  unfolding declared_bars
  none-bars begins d off b k (i, l, is) =
      let ts = (reached tables es).transactions in
      let here = subst (λ (x : Dependency). barred_by begins ts d x ≡ false) is (off-any (dependency_count tables) (λ j. barred_by begins ts d (dependency_at tables j)) off i l) in
      sym (kind-words begins k b) ∙ not_on (kind_bars begins k (phase_of ts b)) (and-rest (eqb d d) (kind_bars begins k (phase_of ts b)) here (eq-eqb d d refl))

  pub all-let : (begins : Bool) (d : ℕ) → ((b : ℕ) (k : Kind) → Declared tables d b k → lets begins k h b ≡ true) → declared_bars begins tables (reached tables es).transactions d ≡ false
  unfolding declared_bars
  all-let begins d go =
      let ts = (reached tables es).transactions in
      any-off (dependency_count tables) (λ j. barred_by begins ts d (dependency_at tables j))
      (λ i l.
      let x = dependency_at tables i in
      and-off (eqb x.dependent d) (kind_bars begins x.kind (phase_of ts x.base))
      (λ e. on-not (kind_bars begins x.kind (phase_of ts x.base))
      (kind-words begins x.kind x.base ∙ go x.base x.kind (i, l, ap (λ (n : ℕ). record { dependent = n; base = x.base; kind = x.kind }) (eqb-true x.dependent d e)))))

-- ---- at a place of the history

module _ (tables : Tables) (well : Well tables) where
  -- whosever child d is, its commit was let
  pub commit-let : (u : List Event) (d : ℕ) → (judged tables (reached tables u) (Commits d)).verdict ≡ Accepted → declared_bars false tables (reached tables u).transactions d ≡ false
  commit-let u d v = by-parent (parent_of (reached tables u).transactions d) refl
    where
      by-parent : (p : Parent) → parent_of (reached tables u).transactions d ≡ p → declared_bars false tables (reached tables u).transactions d ≡ false
      by-parent None e = (((accepted-when tables u).commit d e).0 v).declared
      by-parent (Some m) e = (((accepted-when tables u).hand d m e).0 v).could.declared

  begin-let : (u : List Event) (e : Event) (d : ℕ) → begins d e ≡ true → (judged tables (reached tables u) e).verdict ≡ Accepted → declared_bars true tables (reached tables u).transactions d ≡ false
  begin-let u (Begins x) d h v = subst (λ (t : ℕ). declared_bars true tables (reached tables u).transactions t ≡ false) (eqb-true x d h) (((accepted-when tables u).begin x).0 v).declared
  begin-let u (Commits x) d h v = clash h refl
  begin-let u (Aborts x) d h v = clash h refl
  begin-let u (Invoke x o m) d h v = clash h refl
  begin-let u (Delegate x r q) d h v = clash h refl
  begin-let u (CommitOne x q) d h v = clash h refl
  begin-let u (AbortOne x q) d h v = clash h refl
  begin-let u (Spawn m x) d h v = subst (λ (t : ℕ). declared_bars true tables (reached tables u).transactions t ≡ false) (eqb-true x d h) (((accepted-when tables u).spawn m x).0 v).declared

  pub depending : (es : List Event) → Depending tables (history tables es)
  depending es =
      record {
        commits = λ u d b k is at. none-bars tables u u (told_at tables well es u (Commits d) at) false d (commit-let u d (accepted-there tables es u (Commits d) at)) b k is;
        begins_when = λ u e d b k is at s. none-bars tables u u (told_at tables well es u e at) true d (begin-let u e d s (accepted-there tables es u e at)) b k is;
      }
