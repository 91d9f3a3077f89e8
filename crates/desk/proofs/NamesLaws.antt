-- What a code says with its fields.
use Prim.Native.Nat.{ℕ, ◌≤◌}
use native.Mathlib.Omega.{arith}
use mathlib.Core.Path.{◌≡◌, refl, sym, ap, subst}
use mathlib.Core.Bool.{Bool, true, false, cond}
use mathlib.Core.List.{List, [], ◌∷◌}
use lib.Dec.{eqb, ltb}
use lib.ListN.{get_or, length, take}
use borrow.Author.Tests.{eqb-true, le-ltb, ltb-false}
use Rattle.terms.specs.declared.Event.{Event}
use Rattle.terms.specs.declared.Event.TheVariants.{Begin, Commit, Abort, Operation as Invoke, Delegate, CommitOne, AbortOne, Spawn}
use Rattle.terms.specs.declared.Mark.{Mark}
use Rattle.terms.specs.declared.Mark.TheVariants.{Read, Write}
use Rattle.number.specs.Number.{ceiling_of}
use Rattle.number.specs.declared.Edition.{Edition}
use Rattle.number.specs.declared.Edition.TheVariants.{First, Second}
use Rattle.items.specs.Items.{fields_of_event, mark_field, record_in}
use Rattle.std.specs.Prelude.{Ok, Err}
use Rattle.desk.specs.Desk.{Named, marked_by, named_by, operation_by, says}
use Rattle.desk.specs.Promises.{NamesFields}
use Rattle.desk.specs.declared.Unnamed.TheVariants.{NoCode, NoMark, NoNumber}

-- ---- an event is named by its own fields, and by no others

-- these fields spell that event with this record
abbrev Spelt : Edition → ℕ → ℕ → ℕ → ℕ → ℕ → Event → ℕ → Type 0
Spelt ed code a b c d e pu =
    (take (length (fields_of_event ed e pu)) (code ∷ a ∷ b ∷ c ∷ d ∷ []) ≡ fields_of_event ed e pu) × ((record_in ed e pu ≡ pu) × (pu ≤ ceiling_of ed))

-- the fields of an event name it
module _ (code a b c d pu : ℕ) where
  operation-named : (ed : Edition) (t o : ℕ) (m : Mark) → Spelt ed code a b c d (Invoke t o m) pu → named_by ed code a b c d ≡ says (Invoke t o m) pu
  unfolding named_by
  operation-named First t o Read (q, (r, h)) =
      rw (
        ap (λ (l : List ℕ). get_or l 0 0) q,
        ap (λ (l : List ℕ). get_or l 1 0) q,
        ap (λ (l : List ℕ). get_or l 2 0) q,
        ap (λ (l : List ℕ). get_or l 3 0) q,
        sym r,
      )
  operation-named First t o Write (q, (r, h)) =
      rw (
        ap (λ (l : List ℕ). get_or l 0 0) q,
        ap (λ (l : List ℕ). get_or l 1 0) q,
        ap (λ (l : List ℕ). get_or l 2 0) q,
        ap (λ (l : List ℕ). get_or l 3 0) q,
        sym r,
      )
  operation-named Second t o Read (q, (r, h)) =
      rw (
        ap (λ (l : List ℕ). get_or l 0 0) q,
        ap (λ (l : List ℕ). get_or l 1 0) q,
        ap (λ (l : List ℕ). get_or l 2 0) q,
        ap (λ (l : List ℕ). get_or l 3 0) q,
        ap (λ (l : List ℕ). get_or l 4 0) q,
        le-ltb (ceiling_of Second) pu h,
      )
  operation-named Second t o Write (q, (r, h)) =
      rw (
        ap (λ (l : List ℕ). get_or l 0 0) q,
        ap (λ (l : List ℕ). get_or l 1 0) q,
        ap (λ (l : List ℕ). get_or l 2 0) q,
        ap (λ (l : List ℕ). get_or l 3 0) q,
        ap (λ (l : List ℕ). get_or l 4 0) q,
        le-ltb (ceiling_of Second) pu h,
      )

  fields-name : (ed : Edition) (e : Event) → Spelt ed code a b c d e pu → named_by ed code a b c d ≡ says e pu
  unfolding named_by
  fields-name ed (Begin t) (q, (r, h)) = rw (ap (λ (l : List ℕ). get_or l 0 0) q, ap (λ (l : List ℕ). get_or l 1 0) q, sym r)
  fields-name ed (Commit t) (q, (r, h)) = rw (ap (λ (l : List ℕ). get_or l 0 0) q, ap (λ (l : List ℕ). get_or l 1 0) q, sym r)
  fields-name ed (Abort t) (q, (r, h)) = rw (ap (λ (l : List ℕ). get_or l 0 0) q, ap (λ (l : List ℕ). get_or l 1 0) q, sym r)
  fields-name ed (Invoke t o m) s = operation-named ed t o m s
  fields-name ed (Delegate t u p) (q, (r, h)) =
      rw (ap (λ (l : List ℕ). get_or l 0 0) q, ap (λ (l : List ℕ). get_or l 1 0) q, ap (λ (l : List ℕ). get_or l 2 0) q, ap (λ (l : List ℕ). get_or l 3 0) q, sym r)
  fields-name ed (CommitOne t p) (q, (r, h)) =
      rw (ap (λ (l : List ℕ). get_or l 0 0) q, ap (λ (l : List ℕ). get_or l 1 0) q, ap (λ (l : List ℕ). get_or l 2 0) q, sym r)
  fields-name ed (AbortOne t p) (q, (r, h)) =
      rw (ap (λ (l : List ℕ). get_or l 0 0) q, ap (λ (l : List ℕ). get_or l 1 0) q, ap (λ (l : List ℕ). get_or l 2 0) q, sym r)
  fields-name ed (Spawn m p) (q, (r, h)) =
      rw (ap (λ (l : List ℕ). get_or l 0 0) q, ap (λ (l : List ℕ). get_or l 1 0) q, ap (λ (l : List ℕ). get_or l 2 0) q, sym r)

module _ (code a b c d : ℕ) where
  -- what the code says is that event, or none
  abbrev HasIn : Edition → Named → Type 0
  HasIn ed (Ok (e, pu)) = Spelt ed code a b c d e pu
  HasIn ed (Err why) = Unit {0}

  has-cond : (ed : Edition) (t : Bool) (x y : Named) → (t ≡ true → HasIn ed x) → (t ≡ false → HasIn ed y) → HasIn ed (cond t x y)
  has-cond ed true x y h g = h refl
  has-cond ed false x y h g = g refl

  code_is : (k : ℕ) → eqb code k ≡ true → code ≡ k
  code_is k h = eqb-true code k h

  has-mark : (ed : Edition) (pu : ℕ) → ((m : Mark) → c ≡ mark_field m → Spelt ed code a b c d (Invoke a b m) pu) → HasIn ed (marked_by a b c pu)
  has-mark ed pu spelt =
      has-cond ed (eqb c 0) (says (Invoke a b Read) pu) (cond (eqb c 1) (says (Invoke a b Write) pu) (Err NoMark))
      (λ h. spelt Read (eqb-true c 0 h))
      (λ n. has-cond ed (eqb c 1) (says (Invoke a b Write) pu) (Err NoMark) (λ h. spelt Write (eqb-true c 1 h)) (λ n. tt))

  -- nothing is beside an event that is no operation
  none_beside : (ed : Edition) → 0 ≤ ceiling_of ed
  none_beside First = omega arith
  none_beside Second = omega arith

  has-operation : (ed : Edition) → code ≡ 4 → HasIn ed (operation_by ed a b c d)
  has-operation First q = has-mark First 0 (λ m is. (rw (q, is), (refl, none_beside First)))
  has-operation Second q =
      has-cond Second (ltb (ceiling_of Second) d) (Err NoNumber) (marked_by a b c d) (λ n. tt)
      (λ h. has-mark Second d (λ m is. (rw (q, is), (refl, ltb-false (ceiling_of Second) d h))))

  has_all : (ed : Edition) → HasIn ed (named_by ed code a b c d)
  unfolding named_by
  has_all ed =
      has-cond ed (eqb code 1) (says (Begin a) 0) _ (λ h. (rw (code_is 1 h), (refl, none_beside ed)))
      (λ n. has-cond ed (eqb code 2) (says (Commit a) 0) _ (λ h. (rw (code_is 2 h), (refl, none_beside ed)))
      (λ n. has-cond ed (eqb code 3) (says (Abort a) 0) _ (λ h. (rw (code_is 3 h), (refl, none_beside ed)))
      (λ n. has-cond ed (eqb code 4) (operation_by ed a b c d) _ (λ h. has-operation ed (code_is 4 h))
      (λ n. has-cond ed (eqb code 5) (says (Delegate a b c) 0) _ (λ h. (rw (code_is 5 h), (refl, none_beside ed)))
      (λ n. has-cond ed (eqb code 6) (says (CommitOne a b) 0) _ (λ h. (rw (code_is 6 h), (refl, none_beside ed)))
      (λ n. has-cond ed (eqb code 7) (says (AbortOne a b) 0) _ (λ h. (rw (code_is 7 h), (refl, none_beside ed)))
      (λ n. has-cond ed (eqb code 8) (says (Spawn a b) 0) (Err NoCode) (λ h. (rw (code_is 8 h), (refl, none_beside ed))) (λ n. tt))))))))

pub names-fields : NamesFields
names-fields ed code a b c d e pu = ((λ q. subst (HasIn code a b c d ed) q (has_all code a b c d ed)), fields-name code a b c d pu ed e)
