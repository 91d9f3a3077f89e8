-- How operations end (★7).
use Prim.Native.Nat.{ℕ, ◌<◌}
use native.Mathlib.Omega.{arith}
use mathlib.Core.Path.{◌≡◌, refl, sym, ap, subst, subst⁻¹, ◌∙◌}
use mathlib.Core.Bool.{Bool, true, false, not, ◌||◌}
use mathlib.Core.Logic.{◌⊎◌, inl, inr}
use mathlib.Core.List.{List, [], ◌∷◌, ◌++◌}
use lib.Dec.{eqb}
use borrow.Author.Tests.{eq-eqb}
use Rattle.laws.proofs.Bools.{clash, off-or, on_and, on-not, or_left, or_right, together}
use Rattle.laws.proofs.Decisions.{lt-or}
use Rattle.terms.specs.declared.Event.{Event}
use Rattle.terms.specs.declared.Event.TheVariants.{Abort, AbortOne, Commit, CommitOne}
use Rattle.ties.specs.Operations.{is_aborted as is_aborted_op, is_active as is_active_op, is_committed as is_committed_op}
use Rattle.ties.specs.declared.Fate.{Fate}
use Rattle.ties.specs.declared.Fate.TheVariants.{Aborted, Active, Committed}
use Rattle.tables.specs.Accepted.{Well}
use Rattle.tables.specs.Sorts.{is_plain, sort_of}
use Rattle.tables.specs.declared.Tables.{Tables}
use Rattle.rules.specs.States.{is_aborted, is_committed, phase_of}
use Rattle.rules.specs.declared.Phase.{Phase}
use Rattle.rules.specs.declared.Phase.TheVariants.{Aborted as PhaseAborted, Active as PhaseActive, Committed as PhaseCommitted, Idle}
use Rattle.histories.specs.Histories.{Account, Deed, history, reached, to_receiver, told}
use Rattle.acta.specs.Delegating.{Endings, ends_one}
use Rattle.acta.specs.Words.{Happens, aborted, aborts, began, committed, commits, dropped, ended, ends, invoked, kept, occurs, responsible, runs}
use Rattle.acta.proofs.Deeds.{nothing-told}
use Rattle.acta.proofs.DelegatingHolds.{abort-fate, commit-fate, delegation, hand-over, held_by}
use Rattle.acta.proofs.Places.{along, occurs-append}
use Rattle.acta.proofs.SortsHold.{sorts}
use Rattle.acta.proofs.ToldHolds.{is_told}
use Rattle.acta.proofs.Whose.{Fares, dropped-alone, dropped-with, fares, fresh, given_to, handed-to, kept-alone, kept-with, unmoved}

running : (f : Fate) → is_active_op f ≡ true → (is_committed_op f ≡ false) × (is_aborted_op f ≡ false)
running Active h = (refl, refl)
running Committed h = clash h refl
running Aborted h = clash h refl

committed-now : (u : List Event) (t : ℕ) → committed (u ++ (Commit t ∷ [])) t ≡ true
unfolding occurs
committed-now u t = occurs-append (commits t) u (Commit t ∷ []) ∙ or_right (committed u t) (eqb t t || false) (or_left (eqb t t) false (eq-eqb t t refl))

pub aborted-now : (u : List Event) (t : ℕ) → aborted (u ++ (Abort t ∷ [])) t ≡ true
unfolding occurs
aborted-now u t = occurs-append (aborts t) u (Abort t ∷ []) ∙ or_right (aborted u t) (eqb t t || false) (or_left (eqb t t) false (eq-eqb t t refl))

module _ (tables : Tables) (well : Well tables) (es : List Event) where
  abbrev h : List Event
  h = history tables es

  abbrev plain : ℕ → Bool
  plain t = is_plain (sort_of tables t)

  -- whoever ends an operation alone is responsible for it, and plain
  kept-plain : (u : List Event) (e : Event) → Happens h u e → (t q : ℕ) → e ≡ CommitOne t q → plain (responsible u q) ≡ true
  kept-plain u e at t q c =
      let there = subst (Happens h u) c at in
      subst⁻¹ (λ (x : ℕ). plain x ≡ true) ((delegation tables well es).keeps_one u t q there).1 ((sorts tables well es).keeps_one u t q there)

  dropped-plain : (u : List Event) (e : Event) → Happens h u e → (t q : ℕ) → e ≡ AbortOne t q → plain (responsible u q) ≡ true
  dropped-plain u e at t q c =
      let there = subst (Happens h u) c at in
      subst⁻¹ (λ (x : ℕ). plain x ≡ true) ((delegation tables well es).drops_one u t q there).1 ((sorts tables well es).drops_one u t q there)

  ended_by : (u : List Event) (e : Event) → Happens h u e → (q : ℕ) → q < invoked u → runs u q ≡ true → runs (u ++ (e ∷ [])) q ≡ false
      → (ends (responsible u q) e ≡ true) ⊎ ((ends_one q e ≡ true) × (plain (responsible u q) ≡ true))
  ended_by u e at q l r = of (fares u q e l)
    where
      me : eqb (responsible u q) (responsible u q) ≡ true
      me = eq-eqb (responsible u q) (responsible u q) refl

      of : {d : Deed} → Fares u e q d → is_active_op d.fate ≡ false
          → (ends (responsible u q) e ≡ true) ⊎ ((ends_one q e ≡ true) × (plain (responsible u q) ≡ true))
      of (unmoved i) o = clash r (sym (ap (λ (d : Deed). is_active_op d.fate) i) ∙ o)
      of (kept-with a c n i) o = inl (subst⁻¹ (λ (x : Event). ends (responsible u q) x ≡ true) c (or_left (eqb (responsible u q) (responsible u q)) false me))
      of (dropped-with a c i) o = inl (subst⁻¹ (λ (x : Event). ends (responsible u q) x ≡ true) c me)
      of (kept-alone t a c i) o = inr (subst⁻¹ (λ (x : Event). ends_one q x ≡ true) c (eq-eqb q q refl), kept-plain u e at t q c)
      of (dropped-alone t a c i) o = inr (subst⁻¹ (λ (x : Event). ends_one q x ≡ true) c (eq-eqb q q refl), dropped-plain u e at t q c)
      of (given_to t x a c i) o = clash r (sym (ap (λ (d : Deed). is_active_op d.fate) i) ∙ o)
      of (handed-to m a c n i) o = clash r (sym (ap (λ (d : Deed). is_active_op d.fate) i) ∙ o)

  -- ---- failure atomicity

  -- what is kept of one that is not plain is kept by its commit, what is dropped is dropped by its abort
  abbrev AsWhole : List Event → Deed → Type 0
  AsWhole u d =
      plain d.whose ≡ false → (is_committed_op d.fate ≡ true → committed u d.whose ≡ true) × (is_aborted_op d.fate ≡ true → aborted u d.whose ≡ true)

  abbrev AllWhole : List Event → Type 0
  AllWhole u = (q : ℕ) → q < invoked u → AsWhole u ((told u).deed q)

  still-runs : (u : List Event) (d : Deed) → is_active_op d.fate ≡ true → AsWhole u d
  still-runs u d r n = (λ k. clash k (running d.fate r).0, λ k. clash k (running d.fate r).1)

  whole-more : (u : List Event) (e : Event) → Happens h u e → AllWhole u → AllWhole (u ++ (e ∷ []))
  whole-more u e at all q l =
      lt-or q (invoked u)
      (λ b. of b (fares u q e b))
      (λ b. still-runs (u ++ (e ∷ [])) ((told (u ++ (e ∷ []))).deed q) (fresh u e q b l).going)
    where
      of : {d : Deed} → q < invoked u → Fares u e q d → AsWhole (u ++ (e ∷ [])) d
      of b (unmoved i) =
          subst⁻¹ (AsWhole (u ++ (e ∷ []))) i
          (λ n.
          let before = all q b n in
          let t = responsible u q in (
            λ k. occurs-append (commits t) u (e ∷ []) ∙ or_left (committed u t) (committed (e ∷ []) t) (before.0 k),
            λ k. occurs-append (aborts t) u (e ∷ []) ∙ or_left (aborted u t) (aborted (e ∷ []) t) (before.1 k),
          ))
      of b (kept-with a c x i) =
          subst⁻¹ (AsWhole (u ++ (e ∷ []))) i
          (λ n. (λ k. subst⁻¹ (λ (y : Event). committed (u ++ (y ∷ [])) (responsible u q) ≡ true) c (committed-now u (responsible u q)), λ k. clash k refl))
      of b (dropped-with a c i) =
          subst⁻¹ (AsWhole (u ++ (e ∷ []))) i
          (λ n. (λ k. clash k refl, λ k. subst⁻¹ (λ (y : Event). aborted (u ++ (y ∷ [])) (responsible u q) ≡ true) c (aborted-now u (responsible u q))))
      of b (kept-alone t a c i) = subst⁻¹ (AsWhole (u ++ (e ∷ []))) i (λ n. clash (kept-plain u e at t q c) n)
      of b (dropped-alone t a c i) = subst⁻¹ (AsWhole (u ++ (e ∷ []))) i (λ n. clash (dropped-plain u e at t q c) n)
      of b (given_to t x a c i) = subst⁻¹ (AsWhole (u ++ (e ∷ []))) i (still-runs (u ++ (e ∷ [])) (to_receiver x ((told u).deed q)) a)
      of b (handed-to m a c n i) = subst⁻¹ (AsWhole (u ++ (e ∷ []))) i (still-runs (u ++ (e ∷ [])) (to_receiver m ((told u).deed q)) a)

  all_whole : AllWhole h
  all_whole = along h AllWhole whole-more h [] refl (λ q l. absurd (none q l))
    where
      none : (q : ℕ) → q < invoked [] → ⊥
      none q l = omega (arith, l, ap (λ (a : Account). a.made) nothing-told)

  -- nobody both committed and aborted, nor is in progress if it did either
  pub one_end : (t : ℕ) → committed h t ≡ true → aborted h t ≡ true → ⊥
  one_end t c a =
      by-phase (phase_of (reached tables es).transactions t) ((is_told tables es well).committed_is t ∙ c) ((is_told tables es well).aborted_is t ∙ a)
    where
      by-phase : (p : Phase) → is_committed p ≡ true → is_aborted p ≡ true → ⊥
      by-phase Idle x y = clash x refl
      by-phase PhaseActive x y = clash x refl
      by-phase PhaseCommitted x y = clash y refl
      by-phase PhaseAborted x y = clash x refl

  running-open : (q : ℕ) → q < invoked h → runs h q ≡ true → (committed h (responsible h q) ≡ false) × (aborted h (responsible h q) ≡ false)
  running-open q l r =
      let t = responsible h q in
      off-or (committed h t) (aborted h t) (on-not (ended h t) (on_and (began h t) (not (ended h t)) (held_by tables well es q l r)).1)

  atomic : (q : ℕ) → q < invoked h → plain (responsible h q) ≡ false → (kept h q ≡ committed h (responsible h q)) × (dropped h q ≡ aborted h (responsible h q))
  atomic q l n =
      let t = responsible h q in
      let whole = all_whole q l n in (
        together (kept h q) (committed h t) whole.0
            (λ c. by-fate ((told h).deed q).fate (λ f. is_committed_op f ≡ true) (λ r. clash c (running-open q l r).0) (λ k. k) (λ k. absurd (one_end t c (whole.1 k)))),
        together (dropped h q) (aborted h t) whole.1
            (λ a. by-fate ((told h).deed q).fate (λ f. is_aborted_op f ≡ true) (λ r. clash a (running-open q l r).1) (λ k. absurd (one_end t (whole.0 k) a)) (λ k. k)),
      )
    where
      by-fate : (f : Fate) (A : Fate → Type 0) → (is_active_op f ≡ true → A f) → (is_committed_op f ≡ true → A f) → (is_aborted_op f ≡ true → A f) → A f
      by-fate Active A x y z = x refl
      by-fate Committed A x y z = y refl
      by-fate Aborted A x y z = z refl

  pub endings : Endings tables h
  endings =
      record {
        commit = λ u t at n q. commit-fate u t q n;
        abort = λ u t at q. abort-fate u t q;
        hand = λ u t m at n q. hand-over u t q m n;
        by = ended_by;
        atomic = atomic;
      }
