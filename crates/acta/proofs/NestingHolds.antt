-- Children: whose child one is, and what the preconditions say of children.
use Prim.Native.Nat.{ℕ}
use native.Mathlib.Omega.{arith}
use mathlib.Core.Path.{◌≡◌, refl, sym, ap, subst, ◌∙◌}
use mathlib.Core.Bool.{true, false}
use mathlib.Core.List.{List, ◌++◌}
use Rattle.laws.proofs.Bools.{bool_cases, clash, is-not, or_left}
use Rattle.terms.specs.declared.Event.{Event}
use Rattle.terms.specs.declared.Event.TheVariants.{Commit, CommitOne, Spawn}
use Rattle.ties.specs.Operations.{is_committed as is_committed_op}
use Rattle.tables.specs.Accepted.{Well}
use Rattle.tables.specs.declared.Tables.{Tables}
use Rattle.rules.specs.States.{parent_of, phase_of}
use Rattle.rules.specs.States.{Parent}
use Rattle.std.specs.Prelude.{None, Some}
use Rattle.rules.proofs.PhaseLaws.{idle-is}
use Rattle.histories.specs.Histories.{history, no_account, reached, told}
use Rattle.histories.proofs.FamiliesHold.{families}
use Rattle.histories.proofs.Kin.{kin}
use Rattle.acta.specs.Nesting.{Nesting}
use Rattle.acta.specs.Told.{IsTold}
use Rattle.acta.specs.Words.{Happens, began, begins, in_progress, occurs, parent, responsible}
use Rattle.acta.proofs.Deeds.{account-append, nobodys-child}
use Rattle.acta.proofs.FundamentalHolds.{fundamental}
use Rattle.acta.proofs.Places.{further, occurs-append, occurs-where}
use Rattle.acta.proofs.Runs.{is_history}
use Rattle.acta.proofs.StructureHolds.{by-preconditions, taken-there}
use Rattle.acta.proofs.ToldHolds.{is_told}

module _ (tables : Tables) (well : Well tables) (es : List Event) where
  abbrev h : List Event
  h = history tables es

  -- a child has begun
  pub begun : (u : List Event) → history tables u ≡ u → (c m : ℕ) → parent u c ≡ Some m → began u c ≡ true
  begun u all c m p =
      let told = subst (IsTold tables u) all (is_told tables u well) in
      bool_cases (began u c) (λ b. b)
      (λ b. absurd (omega (arith, ((kin tables u).begun c m (told.parents c ∙ p)).0, idle-is (phase_of (reached tables u).transactions c) (told.idle c ∙ rw b))))

  one_parent : (u v : List Event) → h ≡ u ++ v → (c m : ℕ) → parent u c ≡ Some m → parent h c ≡ Some m
  one_parent u v q c m p =
      ap (λ (l : List Event). parent l c) q
      ∙ ap (λ a. a.parent c) (account-append u v no_account)
      ∙ nobodys-child c v (told u)
      (is-not (occurs (begins c) v)
      (λ o.
      let w = occurs-where (begins c) v o in
      let at = further h u v q w.0 w.1 w.2 w.3 in
      clash (occurs-append (begins c) u w.0 ∙ or_left (began u c) (began w.0 c) (begun u ((is_history tables es).beginnings u v q) c m p))
      ((fundamental tables well es).one_begin (u ++ w.0) w.1 at c w.4)))
      ∙ p

  -- ---- read off the preconditions

  children_first : (u : List Event) (t : ℕ) → Happens h u (Commit t) → (c : ℕ) → parent u c ≡ Some t → in_progress u c ≡ false
  children_first u t at = by (parent u t) refl
    where
      by : (p : Parent) → parent u t ≡ p → (c : ℕ) → parent u c ≡ Some t → in_progress u c ≡ false
      by None e = (((by-preconditions tables well es u (Commit t) at).commit t e).0 (taken-there tables well es u (Commit t) at)).children
      by (Some m) e = (((by-preconditions tables well es u (Commit t) at).hand t m e).0 (taken-there tables well es u (Commit t) at)).children

  pub nesting : Nesting h
  nesting =
      record {
        spawns = λ u m c at.
            let may = ((by-preconditions tables well es u (Spawn m c) at).spawn m c).0 (taken-there tables well es u (Spawn m c) at) in (may.going, may.fresh);
        one_parent = one_parent;
        children_first = children_first;
        parent_lasts = λ u c m at p. (((by-preconditions tables well es u (Commit c) at).hand c m p).0 (taken-there tables well es u (Commit c) at)).parent_going;
        keeps_none = λ u c q at. (((by-preconditions tables well es u (CommitOne c q) at).keep_one c q).0 (taken-there tables well es u (CommitOne c q) at)).no_child;
        none_kept = λ q m l p.
            let told = is_told tables es well in
            sym (ap is_committed_op (told.fates q l))
            ∙ (families tables es).none_kept q m (omega (arith, l, told.count))
            (ap (parent_of (reached tables es).transactions) (told.responsibles q l) ∙ told.parents (responsible h q) ∙ p);
      }
