-- Whom begin dependencies lead back to itself never begins: the base of its entry has a way back too and is idle, and an idle base bars it.
use Prim.Native.Nat.{ℕ, min}
use native.Mathlib.Omega.{arith}
use mathlib.Core.Path.{◌≡◌, refl, ap, ◌∙◌}
use mathlib.Core.Bool.{true, false≢true}
use mathlib.Core.List.{List}
use lib.Dec.{eqb}
use borrow.Author.Tests.{eq-eqb}
use Rattle.laws.proofs.Bools.{and_on, clash}
use Rattle.laws.proofs.IndexLaws.{any-intro}
use Rattle.terms.specs.Limits.{most_dependencies}
use Rattle.sets.specs.Reach.{Leads}
use Rattle.sets.proofs.ReachLaws.{circle-step}
use Rattle.tables.specs.Circles.{begin_link, is_begin_kind}
use Rattle.tables.specs.Dependencies.{dependency_at}
use Rattle.tables.specs.declared.Kind.{Kind}
use Rattle.tables.specs.declared.Kind.TheVariants.{Commit as CommitKind, Abort as AbortKind, WeakAbort, Begin as BeginKind, Serial, BeginOnCommit, BeginOnAbort}
use Rattle.tables.specs.declared.Tables.{Tables}
use Rattle.tables.proofs.CircleLaws.{linked-entry, waits-parts}
use Rattle.histories.specs.Histories.{reached}
use Rattle.judge.specs.Judge.{state_after}
use Rattle.rules.specs.Rules.{barred_by, begin_bars, declared_bars}
use Rattle.rules.specs.States.{empty_state, phase_of}
use Rattle.terms.specs.declared.Event.{Event}
use Rattle.judge.specs.declared.Change.{Change}
use Rattle.rules.specs.declared.Phase.TheVariants.{Idle}
use Rattle.rules.specs.declared.State.{State}
use Rattle.rules.specs.declared.Transaction.{Transaction}
use Rattle.rules.proofs.PhaseLaws.{code}
use Rattle.rules.proofs.StateLaws.{all-idle}
use Rattle.histories.proofs.Steps.{Step, keeps-by}
use Rattle.histories.proofs.Touches.{Phased, as-was, ended-now, entered-now, phased}

-- an idle base bars the begin, by each of the kinds 4 to 7
idle-bars : (k : Kind) → is_begin_kind k ≡ true → begin_bars k Idle ≡ true
idle-bars CommitKind h = absurd (false≢true h)
idle-bars AbortKind h = absurd (false≢true h)
idle-bars WeakAbort h = absurd (false≢true h)
idle-bars BeginKind h = refl
idle-bars Serial h = refl
idle-bars BeginOnCommit h = refl
idle-bars BeginOnAbort h = refl

module _ (tables : Tables) where
  -- all that are led back to themselves are idle
  abbrev AllIdle : List Transaction → Type 0
  AllIdle ts = (t : ℕ) → Leads (begin_link tables) t t → phase_of ts t ≡ Idle

  barred : (ts : List Transaction) → AllIdle ts → (t : ℕ) → Leads (begin_link tables) t t → declared_bars true tables ts t ≡ true
  unfolding declared_bars
  barred ts h t w =
      let c = circle-step w in
      let i = linked-entry tables t c.0 c.1 in
      let x = dependency_at tables i.0 in
      let e = waits-parts x t c.0 i.2 in
      any-intro (min tables.declared most_dependencies) (λ k. barred_by true ts t (dependency_at tables k)) i.0 i.1
      (and_on (eqb x.dependent t) (begin_bars x.kind (phase_of ts x.base)) (eq-eqb x.dependent t e.1)
      (ap (begin_bars x.kind) (ap (phase_of ts) e.2 ∙ h c.0 c.2) ∙ idle-bars x.kind e.0))

  kept : (s : State) (c : Change) → AllIdle s.transactions → Step tables s c → AllIdle (state_after c s).transactions
  kept s c h w t l = at (phased tables s c w t)
    where
      at : Phased tables s c t → phase_of (state_after c s).transactions t ≡ Idle
      at (as-was e) = e ∙ h t l
      at (entered-now f e) = clash (barred s.transactions h t l) f.declared
      at (ended-now p a d e) = absurd (omega (arith, ap code (h t l)))

  pub never_begins : (es : List Event) → AllIdle (reached tables es).transactions
  never_begins es = keeps-by tables (λ (s : State). AllIdle s.transactions) kept es empty_state (λ t w. all-idle t)
