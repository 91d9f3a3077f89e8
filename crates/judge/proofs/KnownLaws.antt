-- Who is known to be on a ring.
use Prim.Native.Nat.{ℕ}
use native.Mathlib.Omega.{arith}
use mathlib.Core.Path.{◌≡◌, refl, sym, ap, ◌∙◌}
use mathlib.Core.Bool.{true}
use mathlib.Core.Logic.{⊎_elim}
use mathlib.Core.List.{[], ◌++◌, ◌∷◌}
use borrow.Author.Tests.{eqb-true}
use lib.Dec.{eqb}
use lib.ListN.{take}
use Rattle.laws.specs.Lines.{line}
use Rattle.laws.proofs.Bools.{clash, or_cases}
use Rattle.laws.proofs.Decisions.{lt-or}
use Rattle.terms.specs.Limits.{most_transactions}
use Rattle.terms.specs.Refusals.{number_of}
use Rattle.terms.specs.declared.Event.{Event}
use Rattle.terms.specs.declared.Event.TheVariants.{Begin, Commit, Abort, Operation as Invoke, Delegate, CommitOne, AbortOne, Spawn}
use Rattle.terms.specs.declared.Refusal.{Refusal}
use Rattle.terms.specs.declared.Refusal.TheVariants.{TooLong, Torn, BadNumber, BadEdition, BadCount, BadDependency, BadCode, NotInTables, NeverDoes, NotIdle, NotActive, NotResponsible, SagaRule, DependencyRule, DirtyRead, OnRing, MustWait, Full, NoRoom, AlreadyEnded, NeverMoves, UndoOnRing}
use Rattle.terms.specs.declared.Verdict.TheVariants.{Refused}
use Rattle.sets.specs.Sets.{mem, inserted}
use Rattle.sets.proofs.SetLaws.{inserted-past, mem-empty, mem-inserted}
use Rattle.ties.specs.Ties.{dirty_at, on_ring}
use Rattle.ties.specs.declared.Ops.{Ops}
use Rattle.tables.specs.declared.Tables.{Tables}
use Rattle.rules.specs.declared.State.{State}
use Rattle.rules.specs.States.{is_child}
use Rattle.rules.specs.States.{Parent}
use Rattle.judge.specs.Judge.{clerk_of, commit_lines, commit_lines_under, hand_lines, judged, single_lines, verdict_by}
use Rattle.judge.specs.Known.{Ringed, with_committer}
use Rattle.judge.proofs.ClerkLaws.{by-clerk}
use Rattle.judge.proofs.EventLaws.{given_by, never-given, only-line, verdict-lines}

-- nobody is
pub none-ringed : (ops : Ops) → Ringed ops 0
none-ringed ops t m = clash m (mem-empty t)

-- one more is
one-ringed : (ops : Ops) (set t : ℕ) → Ringed ops set → on_ring ops t ≡ true → Ringed ops (inserted set t)
one-ringed ops set t known on u m =
    lt-or t most_transactions
    (λ low. ⊎_elim (λ old. known u old) (λ new. ap (on_ring ops) (eqb-true u t new) ∙ on) (or_cases (mem set u) (eqb u t) (sym (mem-inserted set t u low) ∙ m)))
    (λ past. known u (sym (ap (λ (x : ℕ). mem x u) (inserted-past set t past)) ∙ m))

pub sixteen : (r : Refusal) → number_of r ≡ 16 → r ≡ OnRing
sixteen TooLong e = absurd (omega arith)
sixteen Torn e = absurd (omega arith)
sixteen BadNumber e = absurd (omega arith)
sixteen BadEdition e = absurd (omega arith)
sixteen BadCount e = absurd (omega arith)
sixteen BadDependency e = absurd (omega arith)
sixteen BadCode e = absurd (omega arith)
sixteen NotInTables e = absurd (omega arith)
sixteen NeverDoes e = absurd (omega arith)
sixteen NotIdle e = absurd (omega arith)
sixteen NotActive e = absurd (omega arith)
sixteen NotResponsible e = absurd (omega arith)
sixteen SagaRule e = absurd (omega arith)
sixteen DependencyRule e = absurd (omega arith)
sixteen DirtyRead e = absurd (omega arith)
sixteen OnRing e = refl
sixteen MustWait e = absurd (omega arith)
sixteen Full e = absurd (omega arith)
sixteen NoRoom e = absurd (omega arith)
sixteen AlreadyEnded e = absurd (omega arith)
sixteen NeverMoves e = absurd (omega arith)
sixteen UndoOnRing e = absurd (omega arith)

-- whoever an event would commit that is refused by 16
pub committer-ringed : (tables : Tables) (s : State) (e : Event) (set : ℕ) → (judged tables s e).verdict ≡ Refused OnRing → Ringed s.ops set → Ringed s.ops (with_committer e set)
committer-ringed tables s (Begin t) set v known = known
committer-ringed tables s (Commit t) set v known =
    one-ringed s.ops set t known
    (by-clerk tables s.transactions t
    (λ (p : Parent). verdict_by (commit_lines_under tables s.transactions s.ops t p) ≡ Refused OnRing → on_ring s.ops t ≡ true)
    (λ o w. (given_by OnRing (take 5 (commit_lines tables s.transactions s.ops t)) [] (on_ring s.ops t) refl refl w).1)
    (λ m h w. absurd (never-given OnRing (hand_lines tables s.transactions s.ops t m) refl w))
    (sym (verdict-lines tables s (Commit t)) ∙ v))
committer-ringed tables s (Abort t) set v known = known
committer-ringed tables s (Invoke t o m) set v known = known
committer-ringed tables s (Delegate t r q) set v known = known
committer-ringed tables s (CommitOne t q) set v known =
    let before = single_lines tables s.transactions s.ops t q (is_child (clerk_of tables s.transactions t)) ++ (line DirtyRead (dirty_at s.ops t q) ∷ []) in
    one-ringed s.ops set t known ((only-line tables s (CommitOne t q) OnRing before [] (on_ring s.ops t) refl refl refl).0 v).1
committer-ringed tables s (AbortOne t q) set v known = known
committer-ringed tables s (Spawn m c) set v known = known
