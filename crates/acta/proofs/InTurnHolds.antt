-- What waits for itself never happens: each wait is read off a statement of its own, and followed through the list.
use Prim.Native.Nat.{ℕ}
use mathlib.Core.Path.{◌≡◌, refl, sym, ap, subst, ◌∙◌}
use mathlib.Core.Bool.{true, false, not}
use mathlib.Core.List.{List, ◌∷◌, ◌++◌, append_assoc}
use borrow.Author.Tests.{eqb-true}
use Rattle.laws.proofs.Bools.{clash, is-not, off-or, on_and, on-not, or_left}
use Rattle.terms.specs.declared.Event.{Event}
use Rattle.terms.specs.declared.Event.TheVariants.{Abort as Aborts, AbortOne, Begin as Begins, Commit as Commits, CommitOne, Delegate, Operation as Invoke, Spawn}
use Rattle.tables.specs.Accepted.{Well}
use Rattle.tables.specs.Sorts.{is_plain, sort_of}
use Rattle.tables.specs.declared.Kind.TheVariants.{Abort, BeginOnAbort, BeginOnCommit}
use Rattle.tables.specs.declared.Sort.{Sort}
use Rattle.tables.specs.declared.Sort.TheVariants.{Step, Undo}
use Rattle.tables.specs.declared.Tables.{Tables}
use Rattle.histories.specs.Histories.{history}
use Rattle.acta.specs.Awaiting.{Awaits, InTurn, Turn, WaitsFor, abort, aborter, begin, by_way_of, commit, committer, directly, is_turn, on_abort, on_commit, saga_last, step_saga, step_step, to_begin, to_commit, undo_saga, undo_step}
use Rattle.acta.specs.Words.{Happens, aborted, aborts, acts, began, begins, committed, commits, ended, in_progress, occurs}
use Rattle.acta.proofs.ByTheLetterHolds.{abort-of, commit-of}
use Rattle.acta.proofs.DependingHolds.{depending}
use Rattle.acta.proofs.FundamentalHolds.{fundamental}
use Rattle.acta.proofs.Places.{occurs-append, occurs-where}
use Rattle.acta.proofs.SortsHold.{sorts}
use Rattle.acta.proofs.StructureHolds.{structure}
use Rattle.acta.proofs.TransitiveHolds.{let-began}

module _ (tables : Tables) (well : Well tables) (es : List Event) where
  abbrev h : List Event
  h = history tables es

  -- one that is not plain begins by an event of its own
  begin-of : (u : List Event) (e : Event) → Happens h u e → (t : ℕ) (x : Sort) → sort_of tables t ≡ x → is_plain x ≡ false → begins t e ≡ true → e ≡ Begins t
  begin-of u (Begins s) at t x q n i = ap Begins (eqb-true s t i)
  begin-of u (Commits s) at t x q n i = clash i refl
  begin-of u (Aborts s) at t x q n i = clash i refl
  begin-of u (Invoke s o m) at t x q n i = clash i refl
  begin-of u (Delegate s r p) at t x q n i = clash i refl
  begin-of u (CommitOne s p) at t x q n i = clash i refl
  begin-of u (AbortOne s p) at t x q n i = clash i refl
  begin-of u (Spawn m c) at t x q n i = clash (ap is_plain (sym q) ∙ subst (λ (z : ℕ). is_plain (sort_of tables z) ≡ true) (eqb-true c t i) ((sorts tables well es).families u m c at).1) n

  has-begun : (u : List Event) (t : ℕ) → in_progress u t ≡ true → began u t ≡ true
  has-begun u t g = (on_and (began u t) (not (ended u t)) g).0

  one : (u : List Event) (e : Event) (x y : Turn) → Awaits tables x y → Happens h u e → is_turn x e ≡ true → occurs (is_turn y) u ≡ true
  one u e x y (to_begin {d = d} {b = b} {k = k} is i) at s = let-began tables well es u e at k b i ((depending tables well es).begins_when u e d b k is at s)
  one u e x y (on_commit {d = d} {b = b} is) at s = (depending tables well es).begins_when u e d b BeginOnCommit is at s
  one u e x y (on_abort {d = d} {b = b} is) at s = (depending tables well es).begins_when u e d b BeginOnAbort is at s
  one u e x y (to_commit {d = d} {b = b} is) at s = (depending tables well es).commits u d b Abort is (subst (Happens h u) (commit-of d e s) at)
  one u e x y (committer {t = t}) at s = has-begun u t ((fundamental tables well es).in_between u e at t (ap (acts t) (commit-of t e s) ∙ sym (ap (commits t) (commit-of t e s)) ∙ s))
  one u e x y (aborter {t = t}) at s = has-begun u t ((fundamental tables well es).in_between u e at t (ap (acts t) (abort-of t e s) ∙ sym (ap (aborts t) (abort-of t e s)) ∙ s))
  one u e x y (step_saga {t = t} {f = f} {n = n} {i = i} q) at s =
      has-begun u f ((structure tables well es).step_begins u t f n i q (subst (Happens h u) (begin-of u e at t (Step f n i) q refl s) at)).0
  one u e x y (step_step {t = t} {f = f} {n = n} {i = i} q l) at s = ((structure tables well es).step_begins u t f n i q (subst (Happens h u) (begin-of u e at t (Step f n i) q refl s) at)).1 l
  one u e x y (saga_last {f = f} {n = n} q) at s = (structure tables well es).saga_commits u f n q (subst (Happens h u) (commit-of f e s) at)
  one u e x y (undo_saga {t = t} {f = f} {n = n} {i = i} q) at s = ((structure tables well es).undo_begins u t f n i q (subst (Happens h u) (begin-of u e at t (Undo f n i) q refl s) at)).0
  one u e x y (undo_step {t = t} {f = f} {n = n} {i = i} q) at s = ((structure tables well es).undo_begins u t f n i q (subst (Happens h u) (begin-of u e at t (Undo f n i) q refl s) at)).1

  behind : (u : List Event) (e : Event) (x y : Turn) → WaitsFor tables x y → Happens h u e → is_turn x e ≡ true → occurs (is_turn y) u ≡ true
  behind u e x y (directly a) at s = one u e x y a at s
  behind u e x z (by_way_of {y = y} a w) at s =
      let o = occurs-where (is_turn y) u (one u e x y a at s) in
      let there : Happens h o.0 o.1 = (o.2 ++ (e ∷ at.0), at.1 ∙ ap (λ (l : List Event). l ++ (e ∷ at.0)) o.3 ∙ append_assoc o.0 (o.1 ∷ o.2) (e ∷ at.0)) in
      ap (occurs (is_turn z)) o.3 ∙ occurs-append (is_turn z) o.0 (o.1 ∷ o.2) ∙ or_left (occurs (is_turn z) o.0) (occurs (is_turn z) (o.1 ∷ o.2)) (behind o.0 o.1 y z w there o.4)

  -- nothing happens twice
  once-only : (u : List Event) (e : Event) (x : Turn) → Happens h u e → is_turn x e ≡ true → occurs (is_turn x) u ≡ true → ⊥
  once-only u e (begin t) at s o = clash o ((fundamental tables well es).one_begin u e at t s)
  once-only u e (commit t) at s o =
      let g = (fundamental tables well es).in_between u e at t (ap (acts t) (commit-of t e s) ∙ sym (ap (commits t) (commit-of t e s)) ∙ s) in
      clash o (off-or (committed u t) (aborted u t) (on-not (ended u t) (on_and (began u t) (not (ended u t)) g).1)).0
  once-only u e (abort t) at s o =
      let g = (fundamental tables well es).in_between u e at t (ap (acts t) (abort-of t e s) ∙ sym (ap (aborts t) (abort-of t e s)) ∙ s) in
      clash o (off-or (committed u t) (aborted u t) (on-not (ended u t) (on_and (began u t) (not (ended u t)) g).1)).1

  pub in_turn : InTurn tables h
  in_turn =
      record {
        behind = behind;
        never = λ x w.
            is-not (occurs (is_turn x) h)
            (λ o. let p = occurs-where (is_turn x) h o in once-only p.0 p.1 x (p.2, p.3) p.4 (behind p.0 p.1 x x w (p.2, p.3) p.4));
      }
