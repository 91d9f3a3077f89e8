-- A read is dirty exactly when it was by ties to active operations: a write that was committed before it is clean.
use Prim.Native.Nat.{ℕ}
use mathlib.Core.Path.{◌≡◌, refl, ap}
use mathlib.Core.Bool.{Bool, not, ◌&&◌, ◌||◌, and-false}
use lib.Dec.{eqb, ltb}
use Rattle.laws.proofs.IndexLaws.{any_same}
use Rattle.terms.specs.Events.{is_write}
use Rattle.ties.specs.declared.Fate.{Fate}
use Rattle.ties.specs.declared.Fate.TheVariants.{Aborted, Active, Committed}
use Rattle.ties.specs.declared.Operation.{Operation}
use Rattle.ties.specs.Operations.{is_aborted, is_active, is_committed, op_at}
use Rattle.ties.specs.Ties.{conflict, dirties, dirty_at, read_by, tied_to}
use Rattle.ties.specs.Promises.{DirtyStays, dirties_active}

by-fate : (f : Fate) (c later mine : Bool)
    → ((c && (not (is_aborted f) || later)) && not (is_committed f || (is_active f && mine))) ≡ ((c && (is_active f || later)) && not (is_committed f || (is_active f && mine)))
by-fate Aborted c later mine = refl
by-fate Active c later mine = refl
by-fate Committed c later mine = rw (and-false (c && (not (is_aborted Committed) || later)), and-false (c && (is_active Committed || later)))

dirties-same : (t : ℕ) (q : Operation) (j : ℕ) (p : Operation) → dirties t q j p ≡ dirties_active t q j p
unfolding tied_to
dirties-same t q j p =
    ap (λ (b : Bool). is_write p.mark && b) (by-fate p.fate (conflict p q.object q.mark) (ltb j p.ended) (eqb p.responsible t))

pub dirty-stays : DirtyStays
unfolding dirty_at
dirty-stays ops t j =
    ap (λ (b : Bool). read_by t (op_at ops j) && b)
    (any_same j (λ i. dirties t (op_at ops j) j (op_at ops i)) (λ i. dirties_active t (op_at ops j) j (op_at ops i)) (λ i l. dirties-same t (op_at ops j) j (op_at ops i)))
