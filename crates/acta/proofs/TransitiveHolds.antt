-- The abort dependency followed in more than one step.
use Prim.Native.Nat.{ℕ}
use mathlib.Core.Path.{◌≡◌, refl, sym, ap, subst, ◌∙◌}
use mathlib.Core.Bool.{true, false, not}
use mathlib.Core.Logic.{◌⊎◌, ⊎_elim}
use mathlib.Core.List.{List, ◌∷◌, ◌++◌, append_assoc}
use borrow.Author.Tests.{eq-eqb}
use Rattle.laws.proofs.Bools.{clash, is-not, off-not, off-or, on_and, on-not, or_cases, or_left, or_right}
use Rattle.terms.specs.declared.Event.{Event}
use Rattle.terms.specs.declared.Event.TheVariants.{Commit as Commits}
use Rattle.tables.specs.Accepted.{Well}
use Rattle.tables.specs.declared.Kind.{Kind}
use Rattle.tables.specs.declared.Kind.TheVariants.{Abort, Begin, BeginOnAbort, BeginOnCommit, Commit, Serial, WeakAbort}
use Rattle.tables.specs.declared.Tables.{Tables}
use Rattle.rules.specs.States.{is_aborted, is_committed, is_idle, phase_of}
use Rattle.rules.specs.declared.Phase.{Phase}
use Rattle.rules.specs.declared.Phase.TheVariants.{Aborted, Active, Committed, Idle}
use Rattle.histories.specs.Histories.{history, reached}
use Rattle.acta.specs.Depending.{LeadsByAbort, LeadsByBegin, Transitive, keeps_from_begin, lets_begin}
use Rattle.acta.specs.Words.{Happens, aborted, and_on as and-after, began, begins, committed, commits, ended, once}
use Rattle.acta.proofs.ByTheLetterHolds.{commit-of}
use Rattle.acta.proofs.DependingHolds.{depending}
use Rattle.acta.proofs.FundamentalHolds.{fundamental}
use Rattle.acta.proofs.Places.{occurs-append, occurs-where, told_at}

module _ (tables : Tables) (well : Well tables) (es : List Event) where
  abbrev h : List Event
  h = history tables es

  along : (u : List Event) (d b : ℕ) → LeadsByAbort tables d b → Happens h u (Commits d) → committed u b ≡ true
  along u d b (once r) at = (depending tables well es).commits u d b Abort r at
  along u d b (and-after {b = x} r w) at =
      let c = (depending tables well es).commits u d x Abort r at in
      let y = occurs-where (commits x) u c in
      let here = y.3 ∙ ap (λ (e : Event). y.0 ++ (e ∷ y.2)) (commit-of x y.1 y.4) in
      let there : Happens h y.0 (Commits x) =
      (y.2 ++ (Commits d ∷ at.0), at.1 ∙ ap (λ (l : List Event). l ++ (Commits d ∷ at.0)) here ∙ append_assoc y.0 (Commits x ∷ y.2) (Commits d ∷ at.0)) in
      ap (λ (l : List Event). committed l b) here ∙ occurs-append (commits b) y.0 (Commits x ∷ y.2) ∙ or_left (committed y.0 b) (committed (Commits x ∷ y.2) b) (along y.0 x b w there)

  -- who has ended has begun
  ended-began : (u : List Event) (e : Event) → Happens h u e → (b : ℕ) → ended u b ≡ true → began u b ≡ true
  ended-began u e at b over =
      let now = told_at tables well es u e at in
      let p = phase_of (reached tables u).transactions b in
      off-not (began u b) (sym (now.idle b) ∙ by p (or_cases (committed u b) (aborted u b) over) (now.committed_is b) (now.aborted_is b))
    where
      by : (p : Phase) → (committed u b ≡ true) ⊎ (aborted u b ≡ true) → is_committed p ≡ committed u b → is_aborted p ≡ aborted u b → is_idle p ≡ false
      by Idle o c a = ⊎_elim (λ x. clash (c ∙ x) refl) (λ x. clash (a ∙ x) refl) o
      by Active o c a = refl
      by Committed o c a = refl
      by Aborted o c a = refl

  pub let-began : (u : List Event) (e : Event) → Happens h u e → (k : Kind) (b : ℕ) → keeps_from_begin k ≡ true → lets_begin k u b ≡ true → began u b ≡ true
  let-began u e at Commit b i l = clash i refl
  let-began u e at Abort b i l = clash i refl
  let-began u e at WeakAbort b i l = clash i refl
  let-began u e at Begin b i l = l
  let-began u e at Serial b i l = ended-began u e at b l
  let-began u e at BeginOnCommit b i l = ended-began u e at b (or_left (committed u b) (aborted u b) l)
  let-began u e at BeginOnAbort b i l = ended-began u e at b (or_right (committed u b) (aborted u b) l)

  behind : (u : List Event) (e : Event) (d b : ℕ) → LeadsByBegin tables d b → Happens h u e → begins d e ≡ true → began u b ≡ true
  behind u e d b (once (k, is, i)) at s = let-began u e at k b i ((depending tables well es).begins_when u e d b k is at s)
  behind u e d b (and-after {b = x} (k, is, i) w) at s =
      let y = occurs-where (begins x) u (let-began u e at k x i ((depending tables well es).begins_when u e d x k is at s)) in
      let there : Happens h y.0 y.1 = (y.2 ++ (e ∷ at.0), at.1 ∙ ap (λ (l : List Event). l ++ (e ∷ at.0)) y.3 ∙ append_assoc y.0 (y.1 ∷ y.2) (e ∷ at.0)) in
      ap (λ (l : List Event). began l b) y.3 ∙ occurs-append (begins b) y.0 (y.1 ∷ y.2) ∙ or_left (began y.0 b) (began (y.1 ∷ y.2) b) (behind y.0 y.1 x b w there y.4)

  pub transitive : Transitive tables h
  transitive =
      record {
        commits = along;
        circles = λ d w.
            is-not (committed h d)
            (λ c.
            let y = occurs-where (commits d) h c in
            let at : Happens h y.0 (Commits d) = subst (Happens h y.0) (commit-of d y.1 y.4) (y.2, y.3) in
            let going = on_and (began y.0 d) (not (ended y.0 d)) ((fundamental tables well es).in_between y.0 (Commits d) at d (eq-eqb d d refl)) in
            clash (along y.0 d d w at) (off-or (committed y.0 d) (aborted y.0 d) (on-not (ended y.0 d) going.1)).0);
        begins_behind = behind;
        begin_circles = λ d w.
            is-not (began h d)
            (λ c.
            let y = occurs-where (begins d) h c in
            clash (behind y.0 y.1 d d w (y.2, y.3) y.4) ((fundamental tables well es).one_begin y.0 y.1 (y.2, y.3) d y.4));
      }
