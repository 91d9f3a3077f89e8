-- What a code says, by the sort of event that it stands for, its record and its meaning.
use Prim.Native.Nat.{ℕ}
use mathlib.Core.Path.{◌≡◌, refl}
use mathlib.Core.Bool.{Bool, true, false, cond}
use lib.Dec.{eqb, ltb}
use Rattle.std.specs.Prelude.{None, Option, Some, Result, Ok, Err}
use Rattle.terms.specs.declared.Event.{Event}
use Rattle.terms.specs.declared.Event.TheVariants.{Begin, Commit, Abort, Operation as Invoke, Delegate, CommitOne, AbortOne, Spawn}
use Rattle.terms.specs.declared.Mark.TheVariants.{Read, Write}
use Rattle.number.specs.Number.{ceiling_of}
use Rattle.number.specs.declared.Edition.{Edition}
use Rattle.number.specs.declared.Edition.TheVariants.{First, Second}
use Rattle.items.specs.Items.{code_of, meaning}
use Rattle.items.specs.declared.EventSort.{EventSort}
use Rattle.items.specs.declared.EventSort.TheVariants.{Begins, Commits, Aborts, Operates, Delegates, CommitsOne, AbortsOne, Spawns}
use Rattle.desk.specs.Desk.{Named, named_by, operation_by, record_beside}
use Rattle.desk.specs.declared.Unnamed.{Unnamed}
use Rattle.desk.specs.declared.Unnamed.TheVariants.{NoCode, NoMark, NoNumber}

-- a meaning and a record make an event with its record
abbrev pub beside : Result ℕ Unnamed → Option Event → Named
beside (Err why) m = Err why
beside (Ok pu) None = Err NoMark
beside (Ok pu) (Some e) = Ok (e, pu)

abbrev pub by_sort : Edition → Option EventSort → ℕ → ℕ → ℕ → ℕ → Named
by_sort ed None a b c d = Err NoCode
by_sort ed (Some sort) a b c d = beside (record_beside ed sort d) (meaning sort a b c)

module _ (a b c : ℕ) where
  marks : (pu : ℕ) (x y : Bool)
      → cond x (Ok (Invoke a b Read, pu)) (cond y (Ok (Invoke a b Write, pu)) (Err NoMark))
      ≡ beside (Ok pu) (cond x (Some (Invoke a b Read)) (cond y (Some (Invoke a b Write)) None))
  marks pu true y = refl
  marks pu false true = refl
  marks pu false false = refl

  numbers : (d : ℕ) (t : Bool)
      → cond t (Err NoNumber) (cond (eqb c 0) (Ok (Invoke a b Read, d)) (cond (eqb c 1) (Ok (Invoke a b Write, d)) (Err NoMark)))
      ≡ beside (cond t (Err NoNumber) (Ok d)) (meaning Operates a b c)
  numbers d true = refl
  numbers d false = marks d (eqb c 0) (eqb c 1)

  operates : (ed : Edition) (d : ℕ) → operation_by ed a b c d ≡ beside (record_beside ed Operates d) (meaning Operates a b c)
  operates First d = marks 0 (eqb c 0) (eqb c 1)
  operates Second d = numbers d (ltb (ceiling_of Second) d)

pub named-by-sort : (ed : Edition) (code a b c d : ℕ) → named_by ed code a b c d ≡ by_sort ed (code_of code) a b c d
unfolding named_by code_of
named-by-sort ed code a b c d = go ed (eqb code 1) (eqb code 2) (eqb code 3) (eqb code 4) (eqb code 5) (eqb code 6) (eqb code 7) (eqb code 8)
  where
    go : (ed : Edition) (p q r s t u v w : Bool)
        → cond p (Ok (Begin a, 0))
        (cond q (Ok (Commit a, 0))
        (cond r (Ok (Abort a, 0))
        (cond s (operation_by ed a b c d)
        (cond t (Ok (Delegate a b c, 0))
        (cond u (Ok (CommitOne a b, 0)) (cond v (Ok (AbortOne a b, 0)) (cond w (Ok (Spawn a b, 0)) (Err NoCode))))))))
        ≡ by_sort ed
        (cond p (Some Begins)
        (cond q (Some Commits)
        (cond r (Some Aborts)
        (cond s (Some Operates)
        (cond t (Some Delegates) (cond u (Some CommitsOne) (cond v (Some AbortsOne) (cond w (Some Spawns) None))))))))
        a b c d
    go First true q r s t u v w = refl
    go First false true r s t u v w = refl
    go First false false true s t u v w = refl
    go ed false false false true t u v w = operates a b c ed d
    go First false false false false true u v w = refl
    go First false false false false false true v w = refl
    go First false false false false false false true w = refl
    go First false false false false false false false true = refl
    go ed false false false false false false false false = refl
    go Second true q r s t u v w = refl
    go Second false true r s t u v w = refl
    go Second false false true s t u v w = refl
    go Second false false false false true u v w = refl
    go Second false false false false false true v w = refl
    go Second false false false false false false true w = refl
    go Second false false false false false false false true = refl
