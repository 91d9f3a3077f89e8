-- How one event more changes what is told of an operation: whose it is, and its fate.
use Prim.Native.Nat.{ℕ, ◌<◌, ◌≤◌}
use native.Mathlib.Omega.{arith}
use mathlib.Core.Path.{◌≡◌, refl, sym, ap, subst, subst⁻¹, ◌∙◌}
use mathlib.Core.Bool.{Bool, true, false}
use mathlib.Core.List.{List, [], ◌∷◌, ◌++◌, append_assoc, append-nil}
use borrow.Author.Tests.{eq-eqb, eqb-true, ne_eqb}
use Rattle.laws.proofs.Bools.{bool_cases, clash}
use Rattle.terms.specs.declared.Event.{Event}
use Rattle.terms.specs.declared.Event.TheVariants.{Abort, AbortOne, Begin, Commit, CommitOne, Delegate, Operation as Invoke, Spawn}
use Rattle.terms.specs.declared.Mark.{Mark}
use Rattle.ties.specs.Operations.{is_active}
use Rattle.ties.specs.declared.Fate.TheVariants.{Aborted as FateAborted, Committed as FateCommitted}
use Rattle.rules.specs.States.{Parent}
use Rattle.std.specs.Prelude.{None, Some}
use Rattle.rules.specs.declared.Phase.TheVariants.{Committed}
use Rattle.histories.specs.Histories.{Account, Deed, kept, moved, of_the, only, recounted, retell, to_fate, to_receiver, told}
use Rattle.acta.specs.Words.{invoked, parent, responsible, runs}
use Rattle.acta.proofs.Deeds.{made_up, told_more}

-- ---- an operation that was there before

-- what becomes of q by e; d is what is told of it then
pub data Fares (u : List Event) (e : Event) (q : ℕ) (d : Deed) : Type 0 where
  unmoved : d ≡ (told u).deed q → Fares u e q d
  kept-with : runs u q ≡ true → e ≡ Commit (responsible u q) → parent u (responsible u q) ≡ None → d ≡ to_fate FateCommitted ((told u).deed q) → Fares u e q d
  dropped-with : runs u q ≡ true → e ≡ Abort (responsible u q) → d ≡ to_fate FateAborted ((told u).deed q) → Fares u e q d
  kept-alone : (t : ℕ) → runs u q ≡ true → e ≡ CommitOne t q → d ≡ to_fate FateCommitted ((told u).deed q) → Fares u e q d
  dropped-alone : (t : ℕ) → runs u q ≡ true → e ≡ AbortOne t q → d ≡ to_fate FateAborted ((told u).deed q) → Fares u e q d
  given_to : (t r : ℕ) → runs u q ≡ true → e ≡ Delegate t r q → d ≡ to_receiver r ((told u).deed q) → Fares u e q d
  handed-to : (m : ℕ) → runs u q ≡ true → e ≡ Commit (responsible u q) → parent u (responsible u q) ≡ Some m → d ≡ to_receiver m ((told u).deed q) → Fares u e q d

module _ (u : List Event) (q : ℕ) where
  abbrev a : Account
  a = told u

  -- an ended or other operation does not change
  unless : (meant : ℕ → Deed → Bool) (how : Deed → Deed) (b : Account) (A : Deed → Type 0) → A (b.deed q)
      → (meant q (b.deed q) ≡ true → is_active (b.deed q).fate ≡ true → A (how (b.deed q))) → A ((retell meant how b).deed q)
  unless meant how b A same new =
      bool_cases (meant q (b.deed q))
      (λ x. bool_cases (is_active (b.deed q).fate) (λ y. rw (x, y) (new x y)) (λ y. rw (x, y) same))
      (λ x. rw x same)

  faring : (e : Event) → q < invoked u → Fares u e q ((recounted e a).deed q)
  faring (Begin t) l = unmoved refl
  faring (Commit t) l = by-parent (a.parent t) refl
    where
      by-parent : (p : Parent) → a.parent t ≡ p → Fares u (Commit t) q ((kept t p (moved Committed t a)).deed q)
      by-parent None e =
          unless (of_the t) (to_fate FateCommitted) (moved Committed t a) (Fares u (Commit t) q) (unmoved refl)
          (λ x y. let w = sym (eqb-true (responsible u q) t x) in kept-with y (ap Commit w) (subst (λ (z : ℕ). parent u z ≡ None) w e) refl)
      by-parent (Some m) e =
          unless (of_the t) (to_receiver m) (moved Committed t a) (Fares u (Commit t) q) (unmoved refl)
          (λ x y. let w = sym (eqb-true (responsible u q) t x) in handed-to m y (ap Commit w) (subst (λ (z : ℕ). parent u z ≡ Some m) w e) refl)
  faring (Abort t) l =
      unless (of_the t) (to_fate FateAborted) a (Fares u (Abort t) q) (unmoved refl) (λ x y. dropped-with y (ap Abort (sym (eqb-true (responsible u q) t x))) refl)
  faring (Invoke t o m) l = rw (ne_eqb q a.made (λ e. absurd (omega arith))) (unmoved refl)
  faring (Delegate t r p) l =
      unless (only p) (to_receiver r) a (Fares u (Delegate t r p) q) (unmoved refl) (λ x y. given_to t r y (ap (Delegate t r) (sym (eqb-true q p x))) refl)
  faring (CommitOne t p) l =
      unless (only p) (to_fate FateCommitted) a (Fares u (CommitOne t p) q) (unmoved refl) (λ x y. kept-alone t y (ap (CommitOne t) (sym (eqb-true q p x))) refl)
  faring (AbortOne t p) l =
      unless (only p) (to_fate FateAborted) a (Fares u (AbortOne t p) q) (unmoved refl) (λ x y. dropped-alone t y (ap (AbortOne t) (sym (eqb-true q p x))) refl)
  faring (Spawn m c) l = unmoved refl

  pub fares : (e : Event) → q < invoked u → Fares u e q ((told (u ++ (e ∷ []))).deed q)
  fares e l = subst⁻¹ (λ (b : Account). Fares u e q (b.deed q)) (told_more u e) (faring e l)

-- what has ended stays as it is
pub ended-stays : (q : ℕ) (v u : List Event) → q < invoked u → runs u q ≡ false → (told (u ++ v)).deed q ≡ (told u).deed q
ended-stays q [] u l over = ap (λ (x : List Event). (told x).deed q) (append-nil u)
ended-stays q (e ∷ v) u l over =
    let once = of (fares u q e l) in
    ap (λ (x : List Event). (told x).deed q) (sym (append_assoc u (e ∷ []) v))
    ∙ ended-stays q v (u ++ (e ∷ [])) (omega (arith, l, ap (λ (x : Account). x.made) (told_more u e), made_up e (told u))) (ap (λ (d : Deed). is_active d.fate) once ∙ over)
    ∙ once
  where
    of : {d : Deed} → Fares u e q d → d ≡ (told u).deed q
    of (unmoved j) = j
    of (kept-with r c n j) = clash r over
    of (dropped-with r c j) = clash r over
    of (kept-alone t r c j) = clash r over
    of (dropped-alone t r c j) = clash r over
    of (given_to t x r c j) = clash r over
    of (handed-to m r c n j) = clash r over

-- who comes to be responsible: q stays whose it was, is delegated, or is handed on by a child that commits
pub data Passes (u : List Event) (e : Event) (q : ℕ) (now : ℕ) : Type 0 where
  as-was : now ≡ responsible u q → Passes u e q now
  given : (t r : ℕ) → e ≡ Delegate t r q → now ≡ r → Passes u e q now
  handed : (m : ℕ) → e ≡ Commit (responsible u q) → parent u (responsible u q) ≡ Some m → now ≡ m → Passes u e q now

pub passes : (u : List Event) (q : ℕ) (e : Event) → q < invoked u → Passes u e q (responsible (u ++ (e ∷ [])) q)
passes u q e l = of (fares u q e l)
  where
    of : {d : Deed} → Fares u e q d → Passes u e q d.whose
    of (unmoved i) = as-was (ap (λ (x : Deed). x.whose) i)
    of (kept-with r c n i) = as-was (ap (λ (x : Deed). x.whose) i)
    of (dropped-with r c i) = as-was (ap (λ (x : Deed). x.whose) i)
    of (kept-alone t r c i) = as-was (ap (λ (x : Deed). x.whose) i)
    of (dropped-alone t r c i) = as-was (ap (λ (x : Deed). x.whose) i)
    of (given_to t x r c i) = given t x c (ap (λ (x : Deed). x.whose) i)
    of (handed-to m r c n i) = handed m c n (ap (λ (x : Deed). x.whose) i)

-- ---- a new operation

pub record Fresh (u : List Event) (e : Event) (q : ℕ) : Type 0 where
  pub t : ℕ
  pub o : ℕ
  pub m : Mark
  pub event : e ≡ Invoke t o m
  pub number : q ≡ invoked u
  pub whose : responsible (u ++ (e ∷ [])) q ≡ t
  pub going : runs (u ++ (e ∷ [])) q ≡ true

pub fresh : (u : List Event) (e : Event) (q : ℕ) → invoked u ≤ q → q < invoked (u ++ (e ∷ [])) → Fresh u e q
fresh u e q l b = by e (subst (λ (x : Account). q < x.made) (told_more u e) b)
  where
    kept-made : (t : ℕ) (p : Parent) (x : Account) → (kept t p x).made ≡ x.made
    kept-made t None x = refl
    kept-made t (Some m) x = refl

    by : (e : Event) → q < (recounted e (told u)).made → Fresh u e q
    by (Begin t) b = absurd (omega arith)
    by (Commit t) b = absurd (omega (arith, b, kept-made t ((told u).parent t) (moved Committed t (told u))))
    by (Abort t) b = absurd (omega arith)
    by (Invoke t o m) b =
        let n : q ≡ invoked u = omega arith in
        record {
          t = t;
          o = o;
          m = m;
          event = refl;
          number = n;
          whose = ap (λ (x : Account). (x.deed q).whose) (told_more u (Invoke t o m)) ∙ rw (eq-eqb q (invoked u) n);
          going = ap (λ (x : Account). is_active (x.deed q).fate) (told_more u (Invoke t o m)) ∙ rw (eq-eqb q (invoked u) n);
        }
    by (Delegate t r p) b = absurd (omega arith)
    by (CommitOne t p) b = absurd (omega arith)
    by (AbortOne t p) b = absurd (omega arith)
    by (Spawn m c) b = absurd (omega arith)
