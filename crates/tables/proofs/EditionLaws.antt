-- What edition a book names, by its first field.
use Prim.Native.Nat.{ℕ}
use native.Mathlib.Omega.{arith}
use mathlib.Core.Path.{◌≡◌, ap, ◌∙◌}
use mathlib.Core.List.{List}
use Rattle.terms.specs.declared.Refusal.{Refusal}
use Rattle.terms.specs.declared.Refusal.TheVariants.{BadEdition}
use Rattle.number.specs.Number.{edition_named, edition_number, number_at, fault}
use Rattle.number.specs.declared.Edition.{Edition}
use Rattle.number.specs.declared.Edition.TheVariants.{First}
use Rattle.number.proofs.EditionLaws.{edition-named}
use Rattle.number.proofs.FieldLaws.{within-range}
use Rattle.tables.specs.Reading.{edition_ceiling, edition_of, tables_by}
use Rattle.tables.specs.declared.Circles.{Circles}
use Rattle.tables.specs.declared.TablesRead.{TablesRead}
use Rattle.tables.proofs.WayLaws.{by-tables, no_read}
use Rattle.std.specs.Prelude.{Ok}

module _ (s : List ℕ) where
  pub named : (v next : ℕ) → number_at edition_ceiling s 0 ≡ Ok (v, next) → edition_of s ≡ edition_named v
  unfolding edition_of
  named v next e = rw e

  pub unnamed : (r : Refusal) (p : ℕ) → number_at edition_ceiling s 0 ≡ fault r p → edition_of s ≡ First
  unfolding edition_of
  unnamed r p e = rw e

  pub edition-read : (circles : Circles) (ed : Edition) (at : ℕ) → (tables_by circles ed s).answer ≡ Ok at → edition_of s ≡ ed
  edition-read circles ed at =
      by-tables ed s circles (λ (x : TablesRead). x.answer ≡ Ok at → edition_of s ≡ ed)
      (λ r p f. no_read)
      (λ e g x y sum z f₁ f₂ f₃ h.
      let first = within-range edition_ceiling s 0 (edition_number ed) (edition_number ed) BadEdition e x f₁ in
      let is : e ≡ edition_number ed = omega (arith, first.0, first.1) in
      named e x first.2 ∙ ap edition_named is ∙ edition-named ed)
