-- The fundamental axioms (★3).
use Prim.Native.Nat.{ℕ}
use mathlib.Core.Path.{◌≡◌, refl, sym, subst, ◌∙◌}
use mathlib.Core.Bool.{Bool, true, false, ◌||◌}
use mathlib.Core.Logic.{⊎_elim}
use mathlib.Core.List.{List, ◌++◌}
use lib.Dec.{eqb}
use borrow.Author.Tests.{eqb-true}
use Rattle.laws.proofs.Bools.{clash, is-not, on-not, or_cases, or_left, or_right}
use Rattle.terms.specs.declared.Event.{Event}
use Rattle.terms.specs.declared.Event.TheVariants.{Abort, AbortOne, Begin, Commit, CommitOne, Delegate, Operation as Invoke, Spawn}
use Rattle.terms.specs.declared.Verdict.TheVariants.{Accepted}
use Rattle.tables.specs.Accepted.{Well}
use Rattle.tables.specs.declared.Tables.{Tables}
use Rattle.rules.specs.States.{is_aborted, is_active, is_committed, is_idle, phase_of}
use Rattle.rules.specs.declared.Phase.{Phase}
use Rattle.rules.specs.declared.Phase.TheVariants.{Aborted, Active, Committed, Idle}
use Rattle.rules.proofs.PhaseLaws.{of-active}
use Rattle.judge.specs.Judge.{judged}
use Rattle.histories.specs.Histories.{history, reached}
use Rattle.histories.proofs.AcceptedWhenHolds.{accepted-when}
use Rattle.histories.proofs.Invariants.{lasting}
use Rattle.histories.proofs.Singles.{ended_alone}
use Rattle.acta.specs.Fundamental.{Fundamental}
use Rattle.acta.specs.Words.{Happens, aborted, aborts, acts, began, begins, committed, commits, ended, in_progress, occurs}
use Rattle.acta.proofs.Phases.{commit-active}
use Rattle.acta.proofs.Places.{further, occurs-append, occurs-where, told_at}
use Rattle.acta.proofs.Runs.{accepted-there}

module _ (tables : Tables) (well : Well tables) where
  -- ---- one event after some others

  module _ (u : List Event) where
    abbrev Active-then : ℕ → Type 0
    Active-then t = is_active (phase_of (reached tables u).transactions t) ≡ true

    named : (x t : ℕ) → eqb x t ≡ true → Active-then x → Active-then t
    named x t h a = subst Active-then (eqb-true x t h) a

    pub committer : (t : ℕ) → (judged tables (reached tables u) (Commit t)).verdict ≡ Accepted → Active-then t
    committer t v = rw (of-active (phase_of (reached tables u).transactions t) (commit-active tables well (reached tables u) (lasting tables u) t v))

    actor : (e : Event) (t : ℕ) → acts t e ≡ true → (judged tables (reached tables u) e).verdict ≡ Accepted → Active-then t
    actor (Begin x) t h v = clash h refl
    actor (Commit x) t h v = named x t h (committer x v)
    actor (Abort x) t h v = named x t h (((accepted-when tables u).abort x).0 v).active
    actor (Invoke x o m) t h v = named x t h (((accepted-when tables u).invoke x o m).0 v).could.active
    actor (Delegate x r q) t h v =
        let could = (((accepted-when tables u).delegate x r q).0 v).could in
        ⊎_elim (λ i. named x t i could.giver.active) (λ i. named r t i could.receiver.active) (or_cases (eqb x t) (eqb r t) h)
    actor (CommitOne x q) t h v = named x t h ((ended_alone tables (reached tables u) x q).commit_accepted.0 v).may_end.active
    actor (AbortOne x q) t h v = named x t h ((ended_alone tables (reached tables u) x q).abort_accepted.0 v).active
    actor (Spawn x c) t h v = named x t h (((accepted-when tables u).spawn x c).0 v).active

    abbrev Idle-then : ℕ → Type 0
    Idle-then t = is_idle (phase_of (reached tables u).transactions t) ≡ true

    beginner : (e : Event) (t : ℕ) → begins t e ≡ true → (judged tables (reached tables u) e).verdict ≡ Accepted → Idle-then t
    beginner (Begin x) t h v = subst Idle-then (eqb-true x t h) (((accepted-when tables u).begin x).0 v).idle
    beginner (Commit x) t h v = clash h refl
    beginner (Abort x) t h v = clash h refl
    beginner (Invoke x o m) t h v = clash h refl
    beginner (Delegate x r q) t h v = clash h refl
    beginner (CommitOne x q) t h v = clash h refl
    beginner (AbortOne x q) t h v = clash h refl
    beginner (Spawn m c) t h v = subst Idle-then (eqb-true c t h) (((accepted-when tables u).spawn m c).0 v).idle

  -- ---- at a place of the history

  module _ (es : List Event) where
    abbrev h : List Event
    h = history tables es

    one_begin : (u : List Event) (e : Event) → Happens h u e → (t : ℕ) → begins t e ≡ true → began u t ≡ false
    one_begin u e at t b = on-not (began u t) (sym ((told_at tables well es u e at).idle t) ∙ beginner u e t b (accepted-there tables es u e at))

    in_between : (u : List Event) (e : Event) → Happens h u e → (t : ℕ) → acts t e ≡ true → in_progress u t ≡ true
    in_between u e at t a = sym ((told_at tables well es u e at).active t) ∙ actor u e t a (accepted-there tables es u e at)

    last : (u v : List Event) → h ≡ u ++ v → (t : ℕ) → ended u t ≡ true → occurs (λ e. begins t e || acts t e) v ≡ false
    last u v q t over =
        is-not (occurs (λ e. begins t e || acts t e) v)
        (λ o.
        let w = occurs-where (λ e. begins t e || acts t e) v o in
        let a = w.0 in
        let e = w.1 in
        let at = further h u v q a e w.2 w.3 in
        let told = told_at tables well es (u ++ a) e at in
        let still = still-over a in
        ⊎_elim
        (λ b. clash still (idle-open (phase_of (reached tables (u ++ a)).transactions t) (beginner (u ++ a) e t b (accepted-there tables es (u ++ a) e at)) (told.committed_is t) (told.aborted_is t)))
        (λ b. clash still (active-open (phase_of (reached tables (u ++ a)).transactions t) (actor (u ++ a) e t b (accepted-there tables es (u ++ a) e at)) (told.committed_is t) (told.aborted_is t)))
        (or_cases (begins t e) (acts t e) w.4))
      where
        still-over : (a : List Event) → ended (u ++ a) t ≡ true
        still-over a =
            ⊎_elim
            (λ c. or_left (committed (u ++ a) t) (aborted (u ++ a) t) (occurs-append (commits t) u a ∙ or_left (committed u t) (committed a t) c))
            (λ c. or_right (committed (u ++ a) t) (aborted (u ++ a) t) (occurs-append (aborts t) u a ∙ or_left (aborted u t) (aborted a t) c))
            (or_cases (committed u t) (aborted u t) over)

        idle-open : (p : Phase) {c a : Bool} → is_idle p ≡ true → is_committed p ≡ c → is_aborted p ≡ a → (c || a) ≡ false
        idle-open Idle h i j = rw (← i, ← j)
        idle-open Active h i j = clash h refl
        idle-open Committed h i j = clash h refl
        idle-open Aborted h i j = clash h refl

        active-open : (p : Phase) {c a : Bool} → is_active p ≡ true → is_committed p ≡ c → is_aborted p ≡ a → (c || a) ≡ false
        active-open Idle h i j = clash h refl
        active-open Active h i j = rw (← i, ← j)
        active-open Committed h i j = clash h refl
        active-open Aborted h i j = clash h refl

    pub fundamental : Fundamental h
    fundamental = record { one_begin = one_begin; in_between = in_between; last = last }
