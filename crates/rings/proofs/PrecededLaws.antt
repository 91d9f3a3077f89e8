-- Going through the operations once, with the objects that others used and wrote so far: whether one stands before t.
use Prim.Native.Nat.{ℕ, ◌+◌, ◌<◌}
use native.Mathlib.Omega.{arith}
use mathlib.Core.Path.{◌≡◌, refl, sym, ap, ◌∙◌, subst, subst⁻¹}
use mathlib.Core.Bool.{Bool, true, false, cond, not}
use mathlib.Core.Logic.{◌≢◌}
use lib.Dec.{eqb}
use borrow.Author.Tests.{eq-eqb, ne_eqb}
use Rattle.laws.proofs.Bools.{not_on, on-not, is-not, clash}
use Rattle.laws.proofs.Decisions.{same_or}
use Rattle.laws.proofs.IndexLaws.{any-intro, any-off}
use Rattle.terms.specs.Events.{is_write}
use Rattle.terms.specs.Limits.{most_transactions}
use Rattle.sets.specs.Sets.{inserted}
use Rattle.sets.proofs.SetLaws.{mem-empty}
use Rattle.ties.specs.declared.Operation.{Operation}
use Rattle.ties.specs.Ties.{is_gone, ties_of}
use Rattle.ties.proofs.TieLaws.{between, kept_small}
use Rattle.rings.specs.Passes.{preceded_by}
use Rattle.rings.proofs.PassLaws.{Tie, Sets, In, tie-of, tied, source_more, writer-more, cross, crossed-by, in-crosses, sets-some, in-old, in-new}

module _ (n : ℕ) (op : ℕ → Operation) (t : ℕ) where
  abbrev pub other : ℕ → Bool
  other k = not (eqb k t)

  -- the sets hold what others used and wrote below i, and nothing of theirs stands before an operation of t below i
  pub record Free (i used written : ℕ) : Type 0 where
    pub theirs : Sets op other i used written
    pub all : (p : ℕ) → p < i → is_gone (op p) ≡ false → (op p).responsible ≢ t → In op used written p
    pub none : (p q : ℕ) → Tie op p q → q < i → (op q).responsible ≡ t → (op p).responsible ≢ t → ⊥

  pub free-first : Free 0 0 0
  free-first = record {
    theirs = record { uses = λ o h. clash h (mem-empty o); writes = λ o h. clash h (mem-empty o) };
    all = λ p l h e. absurd (omega arith);
    none = λ p q w l a b. absurd (omega arith);
  }

  pub free-end : (i used written : ℕ) → Free i used written → i ≡ n → false ≡ preceded_by (ties_of n op) t
  unfolding preceded_by
  free-end i used written f e =
      sym (any-off most_transactions (λ a. ties_of n op a t) (λ a l. is-not (ties_of n op a t) (λ h.
      let w = between n op a t h in
      f.none w.p w.q (tie-of op w.p w.q w.earlier w.tie) (omega (arith, w.below)) w.second (λ s. w.tie.other (s ∙ sym w.second)))))

  -- the next operation is q
  module _ (i used written : ℕ) (f : Free i used written) (q : Operation) (at : q ≡ op i) where
    theirs-on : Sets op other (i + 1) used written
    theirs-on = record { uses = λ o e. source_more op other i o (f.theirs.uses o e); writes = λ o e. writer-more op other i o (f.theirs.writes o e) }

    pub free-gone : is_gone q ≡ true → Free (i + 1) used written
    free-gone h = record {
      theirs = theirs-on;
      all = λ p l a e. same_or p i (λ s. clash (gone p s) a) (λ s. f.all p (omega arith) a e);
      none = λ p k w l a b. same_or k i (λ s. clash (gone k s) w.there) (λ s. f.none p k w (omega arith) a b);
    }
      where
        gone : (k : ℕ) → k ≡ i → is_gone (op k) ≡ true
        gone k s = ap (λ (j : ℕ). is_gone (op j)) s ∙ ap is_gone (sym at) ∙ h

    module _ (live : is_gone q ≡ false) where
      here : is_gone (op i) ≡ false
      here = ap is_gone (sym at) ∙ live

      small : (op i).object < 64
      small = omega (arith, (kept_small (op i) here).1)

      pub free_own : q.responsible ≡ t → cross op used written q ≡ false → Free (i + 1) used written
      free_own own off = record {
        theirs = theirs-on;
        all = λ p l a e. same_or p i (λ s. absurd (e (ap (λ (k : ℕ). (op k).responsible) s ∙ ap (λ (x : Operation). x.responsible) (sym at) ∙ own))) (λ s. f.all p (omega arith) a e);
        none = λ p k w l a b. same_or k i
            (λ s.
            let v = subst (Tie op p) s w in
            clash (in-crosses op used written p i v (f.all p v.earlier v.here b)) (ap (cross op used written) (sym at) ∙ off))
            (λ s. f.none p k w (omega arith) a b);
      }

      pub free_other : q.responsible ≢ t → Free (i + 1) (inserted used q.object) (cond (is_write q.mark) (inserted written q.object) written)
      free_other ne =
          subst⁻¹ (λ (x : Operation). Free (i + 1) (inserted used x.object) (cond (is_write x.mark) (inserted written x.object) written)) at
          (record {
            theirs = sets-some op i here small other true used written (λ s. not_on (eqb (op i).responsible t) (ne_eqb (op i).responsible t not_own)) f.theirs;
            all = λ p l a e. same_or p i
                (λ s. subst⁻¹ (In op (inserted used (op i).object) (cond (is_write (op i).mark) (inserted written (op i).object) written)) s (in-new op i here small true used written refl))
                (λ s. in-old op i here small true used written p (f.all p (omega arith) a e));
            none = λ p k w l a b. same_or k i (λ s. not_own (ap (λ (j : ℕ). (op j).responsible) (sym s) ∙ a)) (λ s. f.none p k w (omega arith) a b);
          })
        where
          not_own : (op i).responsible ≢ t
          not_own e = ne (ap (λ (x : Operation). x.responsible) at ∙ e)

      pub free-met : i < n → q.responsible ≡ t → cross op used written q ≡ true → true ≡ preceded_by (ties_of n op) t
      unfolding preceded_by
      free-met below own hit =
          crossed-by op other i used written f.theirs here (ap (cross op used written) (sym at) ∙ hit)
          (λ p w m.
          let mine : (op i).responsible ≡ t = ap (λ (x : Operation). x.responsible) (sym at) ∙ own in
          let ne : (op p).responsible ≢ (op i).responsible = λ e. clash (eq-eqb (op p).responsible t (e ∙ mine)) (on-not (eqb (op p).responsible t) m) in
          sym (any-intro most_transactions (λ a. ties_of n op a t) (op p).responsible (kept_small (op p) w.here).0
          (subst (λ (b : ℕ). ties_of n op (op p).responsible b ≡ true) mine (tied n op p i w below ne))))
