-- Refused tables are the empty tables, and the refusal is one of 2 to 6 at a place of the book, or its end; or 21, which an old book's never get.
use Prim.Native.Nat.{ℕ, zero, suc, ◌+◌, ◌≤◌}
use native.Mathlib.Omega.{arith}
use mathlib.Core.Path.{◌≡◌, refl, sym}
use mathlib.Core.Logic.{◌⊎◌, inl, inr}
use mathlib.Core.List.{List}
use lib.ListN.{length}
use Rattle.terms.specs.Limits.{most_sagas, most_objects, most_dependencies}
use Rattle.terms.specs.declared.Refusal.{Refusal}
use Rattle.terms.specs.declared.Refusal.TheVariants.{BadCount, NeverMoves}
use Rattle.number.specs.declared.Edition.{Edition}
use Rattle.number.specs.Number.{ceiling_of, fault}
use Rattle.number.proofs.FieldLaws.{within-next}
use Rattle.tables.specs.declared.Circles.{Circles}
use Rattle.tables.specs.declared.Circles.TheVariants.{Forbidden}
use Rattle.tables.specs.declared.Tables.{Tables}
use Rattle.tables.specs.declared.TablesRead.{TablesRead}
use Rattle.tables.specs.Reading.{empty_tables, sagas_from, refused, with_entry, dependencies_from, with_counts, tables_by}
use Rattle.tables.proofs.FaultLaws.{Faulty}
use Rattle.tables.proofs.WayLaws.{sagas-next, by-circle, by-entry, by-rest, by-tables}
use Rattle.number.proofs.Spelling.{fault-parts}

module _ (circles : Circles) (ed : Edition) (s : List ℕ) (r : Refusal) (p : ℕ) where
  abbrev Blank : TablesRead → Type 0
  Blank x = x.answer ≡ fault r p → (x.tables ≡ empty_tables) × (Faulty s r p ⊎ ((circles ≡ Forbidden) × (r ≡ NeverMoves) × (p ≤ length s)))

  blank-stop : (q : Refusal) (at : ℕ) → Faulty s q at → Blank (refused q at)
  blank-stop q at f e = let same = fault-parts e in (refl, inl (rw (← same.0, ← same.1) f))

  blank-circle : (at : ℕ) → at ≤ length s → circles ≡ Forbidden → Blank (refused NeverMoves at)
  blank-circle at l f e = let same = fault-parts e in (refl, inr (f, sym same.0, omega (arith, same.1)))

  blank-entries : (n k at : ℕ) (t : Tables) → at ≤ length s → Blank (dependencies_from (ceiling_of ed) s n k at t)
  unfolding dependencies_from
  blank-entries n zero at t b = λ e. let z : ◌≡◌ {A = ℕ} 0 1 = cc in absurd (omega arith)
  blank-entries n (suc k) at t b =
      by-entry (ceiling_of ed) s n k at t Blank b blank-stop
      (λ d b kind next f l h. blank-entries n k next (with_entry t d b kind) l)

  blank : Blank (tables_by circles ed s)
  blank =
      by-tables ed s circles Blank blank-stop
      (λ e g x y sum z f₁ f₂ f₃.
      let t = (sagas_from (ceiling_of ed) s g y 0 empty_tables).tables in
      by-rest (ceiling_of ed) s circles z sum t Blank (sagas-next (ceiling_of ed) s g y 0 empty_tables sum z (within-next (ceiling_of ed) s x 0 most_sagas BadCount g y f₂).1 f₃).1 blank-stop
      (λ q m k u v w h₁ h₂ h₃.
      by-circle circles v _ Blank (blank-circle v (within-next (ceiling_of ed) s u 0 most_objects BadCount m v h₂).1)
      (λ kept. blank-entries (sum + q) k w (with_counts t q m) (within-next (ceiling_of ed) s v 0 most_dependencies BadCount k w h₃).1)))

  pub refused-empty : (tables_by circles ed s).answer ≡ fault r p → (tables_by circles ed s).tables ≡ empty_tables
  refused-empty e = (blank e).0

  pub refused-number : (tables_by circles ed s).answer ≡ fault r p → Faulty s r p ⊎ ((circles ≡ Forbidden) × (r ≡ NeverMoves) × (p ≤ length s))
  refused-number e = (blank e).1
