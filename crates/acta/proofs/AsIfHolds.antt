-- Nothing is locked; and a delegated operation is as if the receiver had performed it.
use Prim.Native.Nat.{ℕ, ◌+◌, ◌<◌}
use native.Mathlib.Omega.{arith}
use mathlib.Core.Path.{◌≡◌, refl, sym, ap, subst, subst⁻¹, ◌∙◌}
use mathlib.Core.Bool.{Bool, true, false, ◌||◌}
use mathlib.Core.Logic.{⊎_elim}
use mathlib.Core.List.{List, [], ◌∷◌, ◌++◌, append_assoc, append-nil}
use lib.Dec.{eqb}
use Rattle.laws.proofs.Bools.{clash}
use Rattle.laws.proofs.Decisions.{lt-or}
use Rattle.terms.specs.declared.Event.{Event}
use Rattle.terms.specs.declared.Event.TheVariants.{Delegate, Operation as Invoke}
use Rattle.terms.specs.declared.Mark.{Mark}
use Rattle.ties.specs.Operations.{is_aborted as is_aborted_op}
use Rattle.tables.specs.Accepted.{Well}
use Rattle.tables.specs.declared.Tables.{Tables}
use Rattle.histories.specs.Histories.{Account, Deed, account_of, history, no_account, told}
use Rattle.acta.specs.Accepting.{DelegatesWhen, InvokesWhen, Unlocked}
use Rattle.acta.specs.Delegating.{AsIf, given_at_once}
use Rattle.acta.specs.Words.{Happens, OnRing, Precedes, Tied, aborted, aborts, began, begins, committed, commits, conflicts, dropped, in_progress, invoked, occurs}
use Rattle.acta.proofs.AcceptingHolds.{accepting}
use Rattle.acta.proofs.ByTheLetterHolds.{follows-more}
use Rattle.acta.proofs.Deeds.{account-append}
use Rattle.acta.proofs.FrameHolds.{tied_on}
use Rattle.acta.proofs.Invoking.{one_more}
use Rattle.acta.proofs.Losses.{tied-there}
use Rattle.acta.proofs.Places.{cuts, heads, occurs-append}
use Rattle.acta.proofs.StructureHolds.{by-preconditions, taken-there}

pub unlocked : (tables : Tables) → Well tables → (es : List Event) → Unlocked tables (history tables es)
unlocked tables well es t o m party object room none =
    ((accepting tables well es).invoke t o m).1
    (record {
      object_known = object;
      no_saga = party.no_saga;
      going = party.going;
      waits = λ undo p l r n. clash undo party.no_undo;
      no_ring = λ (x, undo, going, ring). clash going (none x undo);
      room = room;
    })

-- ---- the last operation of a list, and its ties

module _ (h : List Event) (t o : ℕ) (m : Mark) (v : List Event) where
  abbrev X : List Event
  X = h ++ (Invoke t o m ∷ v)

  tie-last : (p : ℕ) → Tied X p (invoked h) → (p < invoked h) × (conflicts h p o m ≡ true) × (dropped h p ≡ false)
  tie-last p w =
      ⊎_elim
      (λ (z, e, d). first z e d)
      (λ (z, e, d). second z e d)
      (cuts w.u (Invoke w.t w.o w.m ∷ w.came.0) h (Invoke t o m ∷ v) (sym w.came.1))
    where
      it : Event
      it = Invoke w.t w.o w.m

      read : h ≡ w.u → Invoke w.t w.o w.m ≡ Invoke t o m → (p < invoked h) × (conflicts h p o m ≡ true) × (dropped h p ≡ false)
      read e d =
          let on : w.o ≡ o = cc in
          let how : w.m ≡ m = cc in (
            w.earlier,
            ap (λ (l : List Event). conflicts l p o m) e ∙ sym (ap (λ (k : ℕ). conflicts w.u p k m) on) ∙ sym (ap (λ (k : Mark). conflicts w.u p w.o k) how) ∙ w.conflicting,
            subst⁻¹ (λ (l : List Event). dropped l p ≡ false) e w.stood,
          )

      first : (z : List Event) → h ≡ w.u ++ z → Invoke w.t w.o w.m ∷ w.came.0 ≡ z ++ (Invoke t o m ∷ v) → (p < invoked h) × (conflicts h p o m ≡ true) × (dropped h p ≡ false)
      first [] e d = read (e ∙ append-nil w.u) (heads it (Invoke t o m) w.came.0 v d).0
      first (x ∷ z) e d =
          let same = (heads it x w.came.0 (z ++ (Invoke t o m ∷ v)) d).0 in
          absurd
          (omega (arith, w.number, one_more w.t w.o w.m w.u z, ap (λ (l : List Event). invoked l) (e ∙ ap (λ (y : Event). w.u ++ (y ∷ z)) (sym same))))

      second : (z : List Event) → w.u ≡ h ++ z → Invoke t o m ∷ v ≡ z ++ (Invoke w.t w.o w.m ∷ w.came.0) → (p < invoked h) × (conflicts h p o m ≡ true) × (dropped h p ≡ false)
      second [] e d = read (sym (e ∙ append-nil h)) (sym (heads (Invoke t o m) it v w.came.0 d).0)
      second (x ∷ z) e d =
          let same = (heads (Invoke t o m) x v (z ++ (it ∷ w.came.0)) d).0 in
          absurd (omega (arith, w.number, one_more t o m h z, ap (λ (l : List Event). invoked l) (e ∙ ap (λ (y : Event). h ++ (y ∷ z)) (sym same))))

  last-tie : (p : ℕ) → p < invoked h → conflicts h p o m ≡ true → dropped h p ≡ false → Tied X p (invoked h)
  last-tie p l c d = record { t = t; o = o; m = m; u = h; came = (v, refl); number = refl; earlier = l; conflicting = c; stood = d }

-- the same object and mark, whoever performs it, and whatever follows that makes no operation
same-ties : (h : List Event) (t r o : ℕ) (m : Mark) (v w : List Event) → invoked (h ++ (Invoke t o m ∷ v)) ≡ invoked h + 1
    → (p q : ℕ) → Tied (h ++ (Invoke t o m ∷ v)) p q → Tied (h ++ (Invoke r o m ∷ w)) p q
same-ties h t r o m v w count p q tie =
    lt-or q (invoked h)
    (λ l. tied_on h (Invoke r o m ∷ w) p q (tied-there (h ++ (Invoke t o m ∷ v)) h (Invoke t o m ∷ v) refl p q tie l))
    (λ l.
    let here : q < invoked (h ++ (Invoke t o m ∷ v)) =
    omega (arith, tie.number, ap (λ (x : List Event). invoked x) tie.came.1, one_more tie.t tie.o tie.m tie.u tie.came.0) in
    let e : q ≡ invoked h = omega (arith, l, here, count) in
    let x = tie-last h t o m v p (subst (λ (k : ℕ). Tied (h ++ (Invoke t o m ∷ v)) p k) e tie) in
    subst⁻¹ (λ (k : ℕ). Tied (h ++ (Invoke r o m ∷ w)) p k) e (last-tie h r o m w p x.0 x.1 x.2))

-- ---- an operation given at once

module _ (h : List Event) (t r o : ℕ) (m : Mark) where
  abbrev gave : List Event
  gave = given_at_once h t r o m

  abbrev did : List Event
  did = h ++ (Invoke r o m ∷ [])

  deeds : (q : ℕ) → (told gave).deed q ≡ (told did).deed q
  unfolding account_of
  deeds q =
      ap (λ (a : Account). a.deed q) (account-append h (Invoke t o m ∷ Delegate t r (invoked h) ∷ []) no_account)
      ∙ by (eqb q (invoked h)) refl
      ∙ sym (ap (λ (a : Account). a.deed q) (account-append h (Invoke r o m ∷ []) no_account))
    where
      by : (b : Bool) → eqb q (invoked h) ≡ b → (account_of (Invoke t o m ∷ Delegate t r (invoked h) ∷ []) (told h)).deed q ≡ (account_of (Invoke r o m ∷ []) (told h)).deed q
      by true e = rw e
      by false e = rw e

  gave_count : invoked gave ≡ invoked h + 1
  unfolding account_of
  gave_count = ap (λ (a : Account). a.made) (account-append h (Invoke t o m ∷ Delegate t r (invoked h) ∷ []) no_account) ∙ omega arith

  did-count : invoked did ≡ invoked h + 1
  unfolding account_of
  did-count = ap (λ (a : Account). a.made) (account-append h (Invoke r o m ∷ []) no_account) ∙ omega arith

  did-gave : (p q : ℕ) → Tied did p q → Tied gave p q
  did-gave = same-ties h r t o m [] (Delegate t r (invoked h) ∷ []) did-count

  gave-did : (p q : ℕ) → Tied gave p q → Tied did p q
  gave-did = same-ties h t r o m (Delegate t r (invoked h) ∷ []) [] gave_count

  same-order : (a b : ℕ) → Precedes did a b → Precedes gave a b
  same-order a b x =
      record {
        p = x.p;
        q = x.q;
        tie = did-gave x.p x.q x.tie;
        here = ap (λ (d : Deed). is_aborted_op d.fate) (deeds x.p) ∙ x.here;
        there = ap (λ (d : Deed). is_aborted_op d.fate) (deeds x.q) ∙ x.there;
        first = ap (λ (d : Deed). d.whose) (deeds x.p) ∙ x.first;
        second = ap (λ (d : Deed). d.whose) (deeds x.q) ∙ x.second;
        differ = x.differ;
      }

  -- an operation changes nobody's phase
  still : (x : ℕ) → in_progress (h ++ (Invoke t o m ∷ [])) x ≡ in_progress h x
  unfolding occurs
  still x =
      let none : (b : Bool) → (b || false) ≡ b = or-none in
      rw (
        occurs-append (begins x) h (Invoke t o m ∷ []) ∙ none (began h x),
        occurs-append (commits x) h (Invoke t o m ∷ []) ∙ none (committed h x),
        occurs-append (aborts x) h (Invoke t o m ∷ []) ∙ none (aborted h x),
      )
    where
      or-none : (b : Bool) → (b || false) ≡ b
      or-none true = refl
      or-none false = refl

module _ (tables : Tables) (well : Well tables) (es : List Event) where
  pub as_if : (t r o : ℕ) (m : Mark) → history tables (given_at_once (history tables es) t r o m) ≡ given_at_once (history tables es) t r o m → AsIf tables (history tables es) t r o m
  as_if t r o m all =
      record {
        accepted =
            ((accepting tables well es).invoke r o m).1
            (record {
              object_known = invokes.object_known;
              no_saga = gives.receiver.no_saga;
              going = sym (still h t r o m r) ∙ gives.receiver.going;
              waits = λ undo p l q n. clash undo gives.receiver.no_undo;
              no_ring = λ (x, undo, going, ring). gives.no_ring
                  (x, undo, still h t r o m x ∙ going, subst⁻¹ (λ (l : List Event). OnRing l x) (append_assoc h (Invoke t o m ∷ []) (Delegate t r (invoked h) ∷ [])) (follows-more (same-order h t r o m) x x ring));
              room = invokes.room;
            });
        deeds = deeds h t r o m;
        ties = λ p q. (gave-did h t r o m p q, did-gave h t r o m p q);
      }
    where
      h : List Event
      h = history tables es

      w : List Event
      w = gave h t r o m

      first-at : Happens (history tables w) h (Invoke t o m)
      first-at = (Delegate t r (invoked h) ∷ [], all)

      then_at : Happens (history tables w) (h ++ (Invoke t o m ∷ [])) (Delegate t r (invoked h))
      then_at = ([], all ∙ sym (append_assoc h (Invoke t o m ∷ []) (Delegate t r (invoked h) ∷ [])))

      invokes : InvokesWhen tables h t o m
      invokes = ((by-preconditions tables well w h (Invoke t o m) first-at).invoke t o m).0 (taken-there tables well w h (Invoke t o m) first-at)

      gives : DelegatesWhen tables (h ++ (Invoke t o m ∷ [])) t r (invoked h)
      gives =
          ((by-preconditions tables well w (h ++ (Invoke t o m ∷ [])) (Delegate t r (invoked h)) then_at).delegate t r (invoked h)).0
          (taken-there tables well w (h ++ (Invoke t o m ∷ [])) (Delegate t r (invoked h)) then_at)
