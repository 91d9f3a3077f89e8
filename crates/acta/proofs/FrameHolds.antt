-- What an event leaves as it was.
use Prim.Native.Nat.{ℕ, ◌<◌}
use mathlib.Core.Path.{◌≡◌, refl, sym, ap, subst, ◌∙◌}
use mathlib.Core.Bool.{true, false}
use mathlib.Core.Logic.{◌⊎◌, inl, inr}
use mathlib.Core.List.{List, [], ◌∷◌, ◌++◌, append_assoc}
use lib.Dec.{eqb}
use borrow.Author.Tests.{eq-eqb}
use Rattle.laws.proofs.Bools.{or_left, or_off}
use Rattle.terms.specs.declared.Event.{Event}
use Rattle.terms.specs.declared.Event.TheVariants.{Operation as Invoke}
use Rattle.tables.specs.Accepted.{Well}
use Rattle.tables.specs.declared.Tables.{Tables}
use Rattle.histories.specs.Histories.{Account, Deed, history, no_account, told}
use Rattle.acta.specs.Frame.{LeavesOthers}
use Rattle.acta.specs.Words.{Happens, Tied, acts, begins, fate, invoked, occurs, responsible, runs}
use Rattle.acta.proofs.Deeds.{account-append, nobodys-child}
use Rattle.acta.proofs.DelegatingHolds.{delegation}
use Rattle.acta.proofs.Losses.{same-mark, same_object, tied-there}
use Rattle.acta.proofs.Whose.{Fares, dropped-alone, dropped-with, fares, given_to, handed-to, kept-alone, kept-with, unmoved}

-- a tie stands whatever follows
pub tied_on : (u v : List Event) (p q : ℕ) → Tied u p q → Tied (u ++ v) p q
tied_on u v p q w =
    record {
      t = w.t;
      o = w.o;
      m = w.m;
      u = w.u;
      came = (w.came.0 ++ v, ap (λ (l : List Event). l ++ v) w.came.1 ∙ append_assoc w.u (Invoke w.t w.o w.m ∷ w.came.0) v);
      number = w.number;
      earlier = w.earlier;
      conflicting = w.conflicting;
      stood = w.stood;
    }

module _ (tables : Tables) (well : Well tables) (es : List Event) where
  abbrev h : List Event
  h = history tables es

  whose : (u : List Event) (e : Event) → Happens h u e → (q : ℕ) → q < invoked u
      → ((fate (u ++ (e ∷ [])) q ≡ fate u q) × (responsible (u ++ (e ∷ [])) q ≡ responsible u q)) ⊎ ((runs u q ≡ true) × (acts (responsible u q) e ≡ true))
  whose u e at q l = of (fares u q e l)
    where
      t : ℕ
      t = responsible u q

      me : eqb t t ≡ true
      me = eq-eqb t t refl

      of : {d : Deed} → Fares u e q d → ((d.fate ≡ fate u q) × (d.whose ≡ responsible u q)) ⊎ ((runs u q ≡ true) × (acts t e ≡ true))
      of (unmoved i) = inl (ap (λ (d : Deed). d.fate) i, ap (λ (d : Deed). d.whose) i)
      of (kept-with a c n i) = inr (a, ap (acts t) c ∙ me)
      of (dropped-with a c i) = inr (a, ap (acts t) c ∙ me)
      of (kept-alone x a c i) = inr (a, ap (acts t) c ∙ eq-eqb x t (sym ((delegation tables well es).keeps_one u x q (subst (Happens h u) c at)).1))
      of (dropped-alone x a c i) = inr (a, ap (acts t) c ∙ eq-eqb x t (sym ((delegation tables well es).drops_one u x q (subst (Happens h u) c at)).1))
      of (given_to x r a c i) = inr (a, ap (acts t) c ∙ or_left (eqb x t) (eqb r t) (eq-eqb x t (sym ((delegation tables well es).parties u x r q (subst (Happens h u) c at)).1)))
      of (handed-to m a c n i) = inr (a, ap (acts t) c ∙ me)

  no-begin : (c : ℕ) (e : Event) → begins c e ≡ false → occurs (begins c) (e ∷ []) ≡ false
  unfolding occurs
  no-begin c e n = or_off (begins c e) false n refl

  pub frame : LeavesOthers h
  frame =
      record {
        what = λ u e at q l. (same_object (u ++ (e ∷ [])) u (e ∷ []) refl q l, same-mark (u ++ (e ∷ [])) u (e ∷ []) refl q l);
        whose = whose;
        ties = λ u e at p q l. (λ w. tied-there (u ++ (e ∷ [])) u (e ∷ []) refl p q w l, tied_on u (e ∷ []) p q);
        families = λ u e at c n. ap (λ (a : Account). a.parent c) (account-append u (e ∷ []) no_account) ∙ nobodys-child c (e ∷ []) (told u) (no-begin c e n);
      }
