-- How an operation came to be kept; and ties, marks and parents in a beginning of the history.
use Prim.Native.Nat.{ℕ, ◌≤◌, ◌<◌}
use native.Mathlib.Omega.{arith}
use mathlib.Core.Path.{◌≡◌, refl, sym, ap, subst, ◌∙◌}
use mathlib.Core.Bool.{true, false}
use mathlib.Core.Logic.{⊎_elim}
use mathlib.Core.List.{List, [], ◌∷◌, ◌++◌, append-nil}
use Rattle.laws.proofs.Bools.{clash, is-not, or_left}
use Rattle.laws.proofs.Decisions.{lt-or}
use Rattle.terms.specs.declared.Event.{Event}
use Rattle.terms.specs.declared.Event.TheVariants.{Commit, CommitOne, Operation as Invoke}
use Rattle.ties.specs.Operations.{is_active as is_active_op, is_committed as is_committed_op}
use Rattle.ties.specs.declared.Fate.{Fate}
use Rattle.ties.specs.declared.Fate.TheVariants.{Aborted, Active, Committed}
use Rattle.std.specs.Prelude.{None}
use Rattle.histories.specs.Histories.{Account, Deed, no_account, told}
use Rattle.acta.specs.Words.{Happens, Tied, began, begins, invoked, kept, mark, object, occurs, parent, responsible, runs}
use Rattle.acta.proofs.Deeds.{account-append, made-on, nobodys-child, nothing-told, same-on}
use Rattle.acta.proofs.Places.{along, cuts, further, heads, occurs-append, occurs-where}
use Rattle.acta.proofs.Whose.{Fares, dropped-alone, dropped-with, fares, fresh, given_to, handed-to, kept-alone, kept-with, unmoved}

still : (f : Fate) → is_active_op f ≡ true → is_committed_op f ≡ true → ⊥
still Active r k = clash k refl
still Committed r k = clash r refl
still Aborted r k = clash r refl

-- q was kept with the one responsible for it, who was nobody's child; or alone
pub data KeptBy (h : List Event) (q : ℕ) : Type 0 where
  with_it : (u : List Event) → Happens h u (Commit (responsible u q)) → parent u (responsible u q) ≡ None → q < invoked u → runs u q ≡ true → KeptBy h q
  by_itself : (u : List Event) (t : ℕ) → Happens h u (CommitOne t q) → KeptBy h q

module _ (h : List Event) (q : ℕ) where
  abbrev Known : List Event → Type 0
  Known u = q < invoked u → kept u q ≡ true → KeptBy h q

  known_more : (u : List Event) (e : Event) → Happens h u e → Known u → Known (u ++ (e ∷ []))
  known_more u e at before l k =
      lt-or q (invoked u)
      (λ b. of b (fares u q e b) k)
      (λ b. absurd (still ((told (u ++ (e ∷ []))).deed q).fate (fresh u e q b l).going k))
    where
      of : {d : Deed} → q < invoked u → Fares u e q d → is_committed_op d.fate ≡ true → KeptBy h q
      of b (unmoved i) k = before b (sym (ap (λ (d : Deed). is_committed_op d.fate) i) ∙ k)
      of b (kept-with a c n i) k = with_it u (subst (Happens h u) c at) n b a
      of b (dropped-with a c i) k = clash (sym (ap (λ (d : Deed). is_committed_op d.fate) i) ∙ k) refl
      of b (kept-alone t a c i) k = by_itself u t (subst (Happens h u) c at)
      of b (dropped-alone t a c i) k = clash (sym (ap (λ (d : Deed). is_committed_op d.fate) i) ∙ k) refl
      of b (given_to t x a c i) k = absurd (still ((told u).deed q).fate a (sym (ap (λ (d : Deed). is_committed_op d.fate) i) ∙ k))
      of b (handed-to m a c n i) k = absurd (still ((told u).deed q).fate a (sym (ap (λ (d : Deed). is_committed_op d.fate) i) ∙ k))

  pub kept_by : q < invoked h → kept h q ≡ true → KeptBy h q
  kept_by = along h Known known_more h [] refl (λ l k. absurd (none l))
    where
      none : q < invoked [] → ⊥
      none l = omega (arith, l, ap (λ (a : Account). a.made) nothing-told)

-- ---- in a beginning u of the history

module _ (h u v : List Event) (is : h ≡ u ++ v) where
  pub same-mark : (q : ℕ) → q < invoked u → mark h q ≡ mark u q
  same-mark q l =
      ap (λ (x : List Event). mark x q) is ∙ ap (λ (a : Account). (a.deed q).mark) (account-append u v no_account)
      ∙ same-on (λ d. d.mark) (λ r d. refl) (λ x d. refl) q v (told u) l

  pub same_object : (q : ℕ) → q < invoked u → object h q ≡ object u q
  same_object q l =
      ap (λ (x : List Event). object x q) is ∙ ap (λ (a : Account). (a.deed q).object) (account-append u v no_account)
      ∙ same-on (λ d. d.object) (λ r d. refl) (λ x d. refl) q v (told u) l

  -- a tie of an operation that is there stands there
  pub tied-there : (p q : ℕ) → Tied h p q → q < invoked u → Tied u p q
  tied-there p q w l =
      ⊎_elim
      (λ c. by c.0 c.1 c.2)
      (λ c. absurd (omega (arith, l, w.number, up c.0 c.1)))
      (cuts w.u (Invoke w.t w.o w.m ∷ w.came.0) u v (sym w.came.1 ∙ is))
    where
      up : (m : List Event) → w.u ≡ u ++ m → (told u).made ≤ (told w.u).made
      up m e = omega (arith, ap (λ (x : List Event). (told x).made) e, ap (λ (a : Account). a.made) (account-append u m no_account), made-on m (told u))

      by : (m : List Event) → u ≡ w.u ++ m → Invoke w.t w.o w.m ∷ w.came.0 ≡ m ++ v → Tied u p q
      by [] e d = absurd (omega (arith, l, w.number, ap (λ (x : List Event). (told x).made) (e ∙ append-nil w.u)))
      by (x ∷ m) e d =
          let a = (heads (Invoke w.t w.o w.m) x w.came.0 (m ++ v) d).0 in
          record {
            t = w.t;
            o = w.o;
            m = w.m;
            u = w.u;
            came = (m, e ∙ ap (λ (y : Event). w.u ++ (y ∷ m)) (sym a));
            number = w.number;
            earlier = w.earlier;
            conflicting = w.conflicting;
            stood = w.stood;
          }

  -- whose child one is that has begun there
  pub same-parent : ((a : List Event) (e : Event) → Happens h a e → (t : ℕ) → begins t e ≡ true → began a t ≡ false) → (c : ℕ) → began u c ≡ true → parent h c ≡ parent u c
  same-parent one c b =
      ap (λ (l : List Event). parent l c) is ∙ ap (λ (a : Account). a.parent c) (account-append u v no_account)
      ∙ nobodys-child c v (told u)
      (is-not (occurs (begins c) v)
      (λ o.
      let w = occurs-where (begins c) v o in
      clash (occurs-append (begins c) u w.0 ∙ or_left (began u c) (began w.0 c) b) (one (u ++ w.0) w.1 (further h u v is w.0 w.1 w.2 w.3) c w.4)))
