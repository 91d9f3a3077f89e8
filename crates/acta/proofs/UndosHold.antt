-- Undos get through: read off the preconditions, and off what stays an undo's.
use Prim.Native.Nat.{ℕ, ◌<◌}
use native.Mathlib.Omega.{arith}
use mathlib.Core.Path.{◌≡◌, refl, sym, ap, subst, subst⁻¹, ◌∙◌}
use mathlib.Core.Bool.{true, false}
use mathlib.Core.Logic.{◌⊎◌, inl, inr}
use mathlib.Core.List.{List, ◌∷◌, ◌++◌, append_assoc}
use Rattle.laws.proofs.Bools.{and_on, clash, or_left, or_right}
use Rattle.laws.proofs.Decisions.{same_or}
use Rattle.terms.specs.declared.Event.{Event}
use Rattle.terms.specs.declared.Event.TheVariants.{Operation as Invoke}
use Rattle.terms.specs.declared.Mark.{Mark}
use Rattle.ties.specs.Operations.{is_aborted as is_aborted_op, is_active as is_active_op, is_committed as is_committed_op}
use Rattle.ties.specs.declared.Fate.{Fate}
use Rattle.ties.specs.declared.Fate.TheVariants.{Aborted, Active, Committed}
use Rattle.tables.specs.Accepted.{Well}
use Rattle.tables.specs.Sorts.{is_undo, sort_of}
use Rattle.tables.specs.declared.Tables.{Tables}
use Rattle.rules.specs.States.{is_active, phase_of}
use Rattle.histories.specs.Histories.{history, reached}
use Rattle.histories.proofs.JudgePromisesHold.{judge-promises}
use Rattle.acta.specs.Fundamental.{Sorts}
use Rattle.acta.specs.Told.{IsTold}
use Rattle.acta.specs.Undos.{UndosPass}
use Rattle.acta.specs.Words.{Happens, Tied, conflicts, fate, invoked, kept, responsible, runs}
use Rattle.acta.proofs.Deeds.{came-by}
use Rattle.acta.proofs.DelegatingHolds.{delegation}
use Rattle.acta.proofs.Runs.{before-it}
use Rattle.acta.proofs.SortsHold.{sorts}
use Rattle.acta.proofs.StructureHolds.{by-preconditions, taken-there}
use Rattle.acta.proofs.ToldHolds.{is_told}

module _ (tables : Tables) (well : Well tables) (es : List Event) where
  abbrev h : List Event
  h = history tables es

  waits : (u : List Event) (t o : ℕ) (m : Mark) → Happens h u (Invoke t o m) → is_undo (sort_of tables t) ≡ true
      → (p : ℕ) → p < invoked u → runs u p ≡ true → conflicts u p o m ≡ true → responsible u p ≡ t
  waits u t o m at is p l r c =
      same_or (responsible u p) t (λ e. e)
      (λ n. clash c ((((by-preconditions tables well es u (Invoke t o m) at).invoke t o m).0 (taken-there tables well es u (Invoke t o m) at)).waits is p l r n))

  -- an operation that is an undo's at some time was invoked by it, and is its own for good
  stays : (u : List Event) (e : Event) → Happens h u e → (p : ℕ) → p < invoked u → is_undo (sort_of tables (responsible u p)) ≡ true → responsible h p ≡ responsible u p
  stays u e at p l is =
      let before : Sorts tables u = subst (Sorts tables) (before-it tables es u e at) (sorts tables well u) in
      let w = came-by p u l in
      let n = w.number in
      let mine = subst (λ (k : ℕ). is_undo (sort_of tables (responsible u k)) ≡ true → responsible u k ≡ w.t) n
      (λ i. before.undo_keeps w.u w.t w.o w.m w.came (or_right (is_undo (sort_of tables w.t)) (is_undo (sort_of tables (responsible u (invoked w.u)))) i)) is in
      let there : Happens h w.u (Invoke w.t w.o w.m) =
      (w.came.0 ++ (e ∷ at.0), at.1 ∙ ap (λ (x : List Event). x ++ (e ∷ at.0)) w.came.1 ∙ append_assoc w.u (Invoke w.t w.o w.m ∷ w.came.0) (e ∷ at.0)) in
      let later = (sorts tables well es).undo_keeps w.u w.t w.o w.m there
      (or_left (is_undo (sort_of tables w.t)) (is_undo (sort_of tables (responsible h (invoked w.u)))) (subst (λ (x : ℕ). is_undo (sort_of tables x) ≡ true) mine is)) in
      subst (λ (k : ℕ). responsible h k ≡ w.t) n later ∙ sym mine

  strict : (p q : ℕ) → Tied h p q → is_undo (sort_of tables (responsible h q)) ≡ true → (kept h p ≡ true) ⊎ (responsible h p ≡ responsible h q)
  strict p q w is =
      let u = w.u in
      let e = Invoke w.t w.o w.m in
      let undo : is_undo (sort_of tables (responsible h (invoked u))) ≡ true = subst⁻¹ (λ (k : ℕ). is_undo (sort_of tables (responsible h k)) ≡ true) w.number is in
      let mine : responsible h q ≡ w.t = subst (λ (k : ℕ). responsible h k ≡ w.t) w.number
      ((sorts tables well es).undo_keeps u w.t w.o w.m w.came (or_right (is_undo (sort_of tables w.t)) (is_undo (sort_of tables (responsible h (invoked u)))) undo)) in
      let by-undo : is_undo (sort_of tables w.t) ≡ true = subst (λ (x : ℕ). is_undo (sort_of tables x) ≡ true) mine is in
      let l : p < invoked u = omega (arith, w.earlier, w.number) in
      by-fate (fate u p) w.stood
      (λ r.
      let own = waits u w.t w.o w.m w.came by-undo p l r w.conflicting in
      inr (stays u e w.came p l (subst⁻¹ (λ (x : ℕ). is_undo (sort_of tables x) ≡ true) own by-undo) ∙ own ∙ sym mine))
      (λ k o. inl (ap is_committed_op ((delegation tables well es).permanent u (e ∷ w.came.0) w.came.1 p l o).0 ∙ k))
    where
      by-fate : {A : Type 0} (x : Fate) → is_aborted_op x ≡ false → (is_active_op x ≡ true → A) → (is_committed_op x ≡ true → is_active_op x ≡ false → A) → A
      by-fate Active d f g = f refl
      by-fate Committed d f g = g refl refl
      by-fate Aborted d f g = clash refl d

  pub undos_pass : UndosPass tables h
  undos_pass =
      record {
        waits = waits;
        strict = strict;
        off_rings = λ t is going ring.
            let told : IsTold tables es h = is_told tables es well in
            clash ((told.rings t).1 ring)
            ((judge-promises.any_run tables es).undo_off_rings t
            (and_on (is_undo (sort_of tables t)) (is_active (phase_of (reached tables es).transactions t)) is (told.active t ∙ going)));
      }
