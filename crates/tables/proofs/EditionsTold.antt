-- The edition field: what a book names there, and what is refused for it.
use Prim.Native.Nat.{ℕ, ◌≤◌}
use native.Mathlib.Omega.{arith}
use mathlib.Core.Path.{◌≡◌, ap, ◌∙◌}
use mathlib.Core.Logic.{◌≢◌}
use mathlib.Core.List.{List}
use borrow.Author.Tests.{lt-ltb, le-ltb, ne_eqb}
use Rattle.laws.proofs.Decisions.{lt-or}
use Rattle.terms.specs.declared.Refusal.{Refusal}
use Rattle.terms.specs.declared.Refusal.TheVariants.{BadEdition}
use Rattle.number.specs.Number.{ceiling_of, edition_number, number_at, number_within, fault}
use Rattle.number.specs.declared.Edition.{Edition}
use Rattle.number.specs.declared.Edition.TheVariants.{First, Second}
use Rattle.number.proofs.EditionLaws.{edition-named}
use Rattle.tables.specs.Accepted.{EditionsTold}
use Rattle.tables.specs.Reading.{edition_field, edition_of, tables_by}
use Rattle.tables.specs.declared.Circles.{Circles}
use Rattle.tables.proofs.EditionLaws.{edition-read, named, unnamed}
use Rattle.std.specs.Prelude.{Ok}

module _ (s : List ℕ) where
  told : (ed : Edition) (next : ℕ) → number_at (ceiling_of First) s 0 ≡ Ok (edition_number ed, next) → edition_of s ≡ ed
  told ed next e = named s (edition_number ed) next e ∙ edition-named ed

  -- a number that is not the first's is refused for it
  not_first : (v next : ℕ) → number_at (ceiling_of First) s 0 ≡ Ok (v, next) → v ≢ 1 → edition_field First s ≡ fault BadEdition 0
  unfolding number_within
  not_first v next e h =
      lt-or v 1
      (λ low. rw (e, lt-ltb v 1 low))
      (λ high. let above : 1 ≤ v = high in let more : 2 ≤ v = omega (arith, h) in rw (e, le-ltb v 1 above, lt-ltb 1 v more))

  faulty : (r : Refusal) (p : ℕ) → number_at (ceiling_of First) s 0 ≡ fault r p → edition_field First s ≡ fault r p
  unfolding number_within
  faulty r p e = rw e

  module _ (circles : Circles) where
    stopped : (r : Refusal) (p : ℕ) → edition_field First s ≡ fault r p → (tables_by circles First s).answer ≡ fault r p
    unfolding tables_by
    stopped r p e = rw e

    other : (v next : ℕ) → number_at (ceiling_of First) s 0 ≡ Ok (v, next) → ((ed : Edition) → v ≢ edition_number ed)
        → (tables_by circles (edition_of s) s).answer ≡ fault BadEdition 0
    other v next e differs =
        let is : edition_of s ≡ First = named s v next e ∙ rw (ne_eqb v 2 (differs Second)) in
        ap (λ (ed : Edition). (tables_by circles ed s).answer) is ∙ stopped BadEdition 0 (not_first v next e (differs First))

    none : (r : Refusal) (p : ℕ) → number_at (ceiling_of First) s 0 ≡ fault r p → (tables_by circles (edition_of s) s).answer ≡ fault r p
    none r p e = ap (λ (ed : Edition). (tables_by circles ed s).answer) (unnamed s r p e) ∙ stopped r p (faulty r p e)

pub editions-told : EditionsTold
editions-told circles s = record { names = told s; other = other s circles; none = none s circles; accepted = edition-read s circles }
