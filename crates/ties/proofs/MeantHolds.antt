-- What the words of the rules mean.
use Prim.Native.Nat.{ℕ}
use native.Mathlib.Omega.{arith}
use mathlib.Core.Path.{◌≡◌, refl, ap}
use mathlib.Core.Bool.{true, ◌&&◌, ◌||◌}
use mathlib.Core.Logic.{◌⊎◌, inl, inr, ⊎_elim}
use lib.Dec.{eqb}
use borrow.Author.Tests.{eq-eqb, eqb-true}
use Rattle.laws.proofs.Bools.{and_on, on_and, or_cases, or_left, or_right}
use Rattle.terms.specs.Events.{is_write}
use Rattle.terms.specs.declared.Mark.{Mark}
use Rattle.terms.specs.declared.Mark.TheVariants.{Read, Write}
use Rattle.ties.specs.Operations.{is_active, is_committed}
use Rattle.ties.specs.Promises.{Meant}
use Rattle.ties.specs.Ties.{clean_for, conflict}
use Rattle.ties.specs.declared.Fate.{Fate}
use Rattle.ties.specs.declared.Fate.TheVariants.{Aborted, Active, Committed}
use Rattle.ties.specs.declared.Operation.{Operation}

writes : (m : Mark) → is_write m ≡ true → m ≡ Write
writes Read e = let z : ◌≡◌ {A = ℕ} 0 1 = cc in absurd (omega arith)
writes Write e = refl

is-active : (f : Fate) → is_active f ≡ true → f ≡ Active
is-active Aborted e = let z : ◌≡◌ {A = ℕ} 0 1 = cc in absurd (omega arith)
is-active Active e = refl
is-active Committed e = let z : ◌≡◌ {A = ℕ} 0 1 = cc in absurd (omega arith)

is-committed : (f : Fate) → is_committed f ≡ true → f ≡ Committed
is-committed Aborted e = let z : ◌≡◌ {A = ℕ} 0 1 = cc in absurd (omega arith)
is-committed Active e = let z : ◌≡◌ {A = ℕ} 0 1 = cc in absurd (omega arith)
is-committed Committed e = refl

conflict-is : (p : Operation) (o : ℕ) (m : Mark) → conflict p o m ≡ true → (p.object ≡ o) × ((p.mark ≡ Write) ⊎ (m ≡ Write))
conflict-is p o m e =
    let b = on_and (eqb p.object o) (is_write p.mark || is_write m) e in
    (eqb-true p.object o b.0, ⊎_elim (λ w. inl (writes p.mark w)) (λ w. inr (writes m w)) (or_cases (is_write p.mark) (is_write m) b.1))

is-conflict : (p : Operation) (o : ℕ) (m : Mark) → (p.object ≡ o) × ((p.mark ≡ Write) ⊎ (m ≡ Write)) → conflict p o m ≡ true
is-conflict p o m h =
    and_on (eqb p.object o) (is_write p.mark || is_write m) (eq-eqb p.object o h.0)
    (⊎_elim (λ w. or_left (is_write p.mark) (is_write m) (ap is_write w)) (λ w. or_right (is_write p.mark) (is_write m) (ap is_write w)) h.1)

clean_is : (t : ℕ) (p : Operation) → clean_for t p ≡ true → (p.fate ≡ Committed) ⊎ ((p.fate ≡ Active) × (p.responsible ≡ t))
clean_is t p e =
    ⊎_elim (λ c. inl (is-committed p.fate c))
    (λ a. let b = on_and (is_active p.fate) (eqb p.responsible t) a in inr (is-active p.fate b.0, eqb-true p.responsible t b.1))
    (or_cases (is_committed p.fate) (is_active p.fate && eqb p.responsible t) e)

is-clean : (t : ℕ) (p : Operation) → (p.fate ≡ Committed) ⊎ ((p.fate ≡ Active) × (p.responsible ≡ t)) → clean_for t p ≡ true
is-clean t p h =
    ⊎_elim (λ c. or_left (is_committed p.fate) (is_active p.fate && eqb p.responsible t) (ap is_committed c))
    (λ a. or_right (is_committed p.fate) (is_active p.fate && eqb p.responsible t)
    (and_on (is_active p.fate) (eqb p.responsible t) (ap is_active a.0) (eq-eqb p.responsible t a.1)))
    h

pub meant : Meant
meant = record { most = refl; conflicts = λ p o m. (conflict-is p o m, is-conflict p o m); clean = λ t p. (clean_is t p, is-clean t p) }
