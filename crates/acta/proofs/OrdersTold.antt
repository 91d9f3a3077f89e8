-- The order that a list of events tells, also with an event behind it that was not judged yet, is the order that refusal 22 is judged by.
use Prim.Native.Nat.{ℕ, ◌<◌}
use native.Mathlib.Omega.{arith}
use mathlib.Core.Path.{◌≡◌, refl, sym, ap, subst, subst⁻¹, ◌∙◌}
use mathlib.Core.Bool.{true, false, ◌||◌}
use mathlib.Core.List.{List, ◌∷◌}
use lib.Dec.{leb}
use borrow.Author.Tests.{lt-leb}
use Rattle.laws.proofs.Bools.{clash, is-not, off-or, or_off}
use Rattle.terms.specs.Limits.{most_objects, most_transactions}
use Rattle.terms.specs.declared.Event.{Event}
use Rattle.terms.specs.declared.Event.TheVariants.{Operation as Invoke}
use Rattle.ties.specs.Operations.{is_aborted as is_aborted_op, is_active as is_active_op}
use Rattle.ties.specs.Ties.{conflict, is_gone, ties_of}
use Rattle.ties.specs.declared.Fate.{Fate}
use Rattle.ties.specs.declared.Fate.TheVariants.{Aborted, Active, Committed}
use Rattle.ties.specs.declared.Operation.{Operation}
use Rattle.ties.proofs.TieLaws.{between, ties-on}
use Rattle.histories.specs.Histories.{Deed, told}
use Rattle.histories.specs.Promises.{AsTold}
use Rattle.acta.specs.Words.{Precedes, conflicts, dropped, fate, invoked, mark, object}
use Rattle.acta.proofs.Deeds.{came-by}
use Rattle.acta.proofs.Invoking.{conflict-then, one_more}
use Rattle.acta.proofs.Whose.{ended-stays}

-- these operations are the ones that the list tells, and their numbers are within the limits
pub record Shows (w : List Event) (n : ℕ) (op : ℕ → Operation) : Type 0 where
  pub number : n ≡ invoked w
  pub each : (i : ℕ) → i < invoked w → AsTold (op i) ((told w).deed i)
  pub within : (i : ℕ) → i < invoked w → ((op i).responsible < most_transactions) × ((op i).object < most_objects)

dropped-ends : (f : Fate) → is_aborted_op f ≡ true → is_active_op f ≡ false
dropped-ends Aborted h = refl
dropped-ends Active h = clash h refl
dropped-ends Committed h = refl

module _ (w : List Event) (n : ℕ) (op : ℕ → Operation) (shows : Shows w n op) (a b : ℕ) where
  -- what is not aborted counts
  counts-here : (i : ℕ) → i < invoked w → dropped w i ≡ false → is_gone (op i) ≡ false
  counts-here i l d =
      let x = op i in
      let in-limits = shows.within i l in
      or_off (is_aborted_op x.fate) (leb most_transactions x.responsible || leb most_objects x.object) (ap is_aborted_op (shows.each i l).fate ∙ d)
      (or_off (leb most_transactions x.responsible) (leb most_objects x.object) (lt-leb most_transactions x.responsible in-limits.0) (lt-leb most_objects x.object in-limits.1))

  stays : (i : ℕ) → i < invoked w → is_gone (op i) ≡ false → dropped w i ≡ false
  stays i l g =
      ap is_aborted_op (sym (shows.each i l).fate) ∙ (off-or (is_aborted_op (op i).fate) (leb most_transactions (op i).responsible || leb most_objects (op i).object) g).0

  -- two conflict as the list tells it
  told-conflict : (p q : ℕ) → p < invoked w → q < invoked w → conflict (op p) (op q).object (op q).mark ≡ conflicts w p (object w q) (mark w q)
  told-conflict p q l r = rw ((shows.each p l).object, (shows.each p l).mark, (shows.each q r).object, (shows.each q r).mark)

  pub precedes : ties_of n op a b ≡ true → Precedes w a b
  precedes e =
      let x = between n op a b e in
      let r : x.q < invoked w = omega (arith, x.below, shows.number) in
      let l : x.p < invoked w = omega (arith, x.earlier, r) in
      let came = came-by x.q w r in
      let low : x.p < invoked came.u = omega (arith, x.earlier, came.number) in
      let here = stays x.p l x.tie.here in
      record {
        p = x.p;
        q = x.q;
        tie =
            record {
              t = came.t;
              o = came.o;
              m = came.m;
              u = came.u;
              came = came.came;
              number = came.number;
              earlier = x.earlier;
              conflicting =
                  sym (conflict-then came.t came.o came.m came.u came.came.0 x.p low)
                  ∙ subst (λ (h : List Event). conflicts h x.p (object h (invoked came.u)) (mark h (invoked came.u)) ≡ true) came.came.1
                  (subst⁻¹ (λ (k : ℕ). conflicts w x.p (object w k) (mark w k) ≡ true) came.number (sym (told-conflict x.p x.q l r) ∙ x.tie.conflicts));
              stood =
                  is-not (dropped came.u x.p)
                  (λ d. clash (ap (λ (h : List Event). dropped h x.p) came.came.1
                  ∙ ap (λ (z : Deed). is_aborted_op z.fate) (ended-stays x.p (Invoke came.t came.o came.m ∷ came.came.0) came.u low (dropped-ends (fate came.u x.p) d)) ∙ d) here);
            };
        here = here;
        there = stays x.q r x.tie.there;
        first = sym (shows.each x.p l).responsible ∙ x.first;
        second = sym (shows.each x.q r).responsible ∙ x.second;
        differ = λ i. x.tie.other (x.first ∙ i ∙ sym x.second);
      }

  pub preceded : Precedes w a b → ties_of n op a b ≡ true
  preceded x =
      let z = x.tie in
      let more : invoked z.u < invoked w = subst⁻¹ (λ (h : List Event). invoked z.u < invoked h) z.came.1 (one_more z.t z.o z.m z.u z.came.0) in
      let r : x.q < invoked w = omega (arith, more, z.number) in
      let l : x.p < invoked w = omega (arith, z.earlier, r) in
      ties-on n op a b
      (record {
        p = x.p;
        q = x.q;
        earlier = z.earlier;
        below = omega (arith, r, shows.number);
        tie =
            record {
              conflicts =
                  told-conflict x.p x.q l r
                  ∙ ap (λ (k : ℕ). conflicts w x.p (object w k) (mark w k)) (sym z.number)
                  ∙ ap (λ (h : List Event). conflicts h x.p (object h (invoked z.u)) (mark h (invoked z.u))) z.came.1
                  ∙ conflict-then z.t z.o z.m z.u z.came.0 x.p (omega (arith, z.earlier, z.number))
                  ∙ z.conflicting;
              here = counts-here x.p l x.here;
              there = counts-here x.q r x.there;
              other = λ i. x.differ (sym x.first ∙ sym (shows.each x.p l).responsible ∙ i ∙ (shows.each x.q r).responsible ∙ x.second);
            };
        first = (shows.each x.p l).responsible ∙ x.first;
        second = (shows.each x.q r).responsible ∙ x.second;
      })
