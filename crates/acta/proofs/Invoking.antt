-- An operation that comes, in any list of events: what is told of it and of those before it from then on.
use Prim.Native.Nat.{ℕ, ◌<◌}
use native.Mathlib.Omega.{arith}
use mathlib.Core.Path.{◌≡◌, refl, ap, ◌∙◌}
use mathlib.Core.List.{List, ◌∷◌, ◌++◌}
use borrow.Author.Tests.{eq-eqb}
use Rattle.terms.specs.declared.Event.{Event}
use Rattle.terms.specs.declared.Event.TheVariants.{Operation as Invoke}
use Rattle.terms.specs.declared.Mark.{Mark}
use Rattle.ties.specs.declared.Fate.{Fate}
use Rattle.histories.specs.Histories.{Account, Deed, account_of, no_account, recounted, to_fate, to_receiver, told}
use Rattle.acta.specs.Words.{conflicts, invoked, mark, object}
use Rattle.acta.proofs.Deeds.{account-append, made-on, same-on}

module _ (t o : ℕ) (m : Mark) (u v : List Event) where
  after : told (u ++ (Invoke t o m ∷ v)) ≡ account_of v (recounted (Invoke t o m) (told u))
  unfolding account_of
  after = account-append u (Invoke t o m ∷ v) no_account

  pub one_more : invoked u < invoked (u ++ (Invoke t o m ∷ v))
  one_more = omega (arith, ap (λ (a : Account). a.made) after, made-on v (recounted (Invoke t o m) (told u)))

  module _ {A : Type 0} (f : Deed → A) (given : (r : ℕ) (d : Deed) → f (to_receiver r d) ≡ f d) (ends : (x : Fate) (d : Deed) → f (to_fate x d) ≡ f d) where
    old : (p : ℕ) → p < invoked u → f ((told (u ++ (Invoke t o m ∷ v))).deed p) ≡ f ((told u).deed p)
    unfolding account_of
    old p l = ap (λ (a : Account). f (a.deed p)) (account-append u (Invoke t o m ∷ v) no_account) ∙ same-on f given ends p (Invoke t o m ∷ v) (told u) l

    new : f ((told (u ++ (Invoke t o m ∷ v))).deed (invoked u)) ≡ f ((recounted (Invoke t o m) (told u)).deed (invoked u))
    new = ap (λ (a : Account). f (a.deed (invoked u))) after ∙ same-on f given ends (invoked u) v (recounted (Invoke t o m) (told u)) (omega arith)

  new-object : object (u ++ (Invoke t o m ∷ v)) (invoked u) ≡ o
  new-object = new (λ d. d.object) (λ r d. refl) (λ x d. refl) ∙ rw (eq-eqb (invoked u) (invoked u) refl)

  new-mark : mark (u ++ (Invoke t o m ∷ v)) (invoked u) ≡ m
  new-mark = new (λ d. d.mark) (λ r d. refl) (λ x d. refl) ∙ rw (eq-eqb (invoked u) (invoked u) refl)

  -- what conflicted with it when it came conflicts with it ever after
  pub conflict-then : (p : ℕ) → p < invoked u
      → conflicts (u ++ (Invoke t o m ∷ v)) p (object (u ++ (Invoke t o m ∷ v)) (invoked u)) (mark (u ++ (Invoke t o m ∷ v)) (invoked u)) ≡ conflicts u p o m
  conflict-then p l =
      rw (new-object, new-mark, old (λ d. d.object) (λ r d. refl) (λ x d. refl) p l, old (λ d. d.mark) (λ r d. refl) (λ x d. refl) p l)
