-- Accepted tables are read from their own bytes: what follows them does not matter.
use Prim.Native.Nat.{ℕ, zero, suc, ◌+◌, ◌-◌, ◌*◌, ◌≤◌}
use native.Mathlib.Omega.{arith}
use mathlib.Core.Path.{◌≡◌, refl, sym, ap, ◌∙◌}
use mathlib.Core.List.{List}
use lib.ListN.{length, take}
use Rattle.terms.specs.Limits.{most_sagas, most_steps, most_transactions, most_objects, most_dependencies}
use Rattle.terms.specs.declared.Refusal.TheVariants.{BadEdition, BadCount}
use Rattle.number.specs.declared.Edition.{Edition}
use Rattle.number.specs.Number.{ceiling_of, edition_number}
use Rattle.number.proofs.Beginnings.{Agrees, number-local, number-extends, within_same}
use Rattle.number.proofs.Spelling.{no_value, number_same}
use Rattle.number.proofs.EditionLaws.{ceiling-low, edition-low}
use Rattle.number.proofs.FieldLaws.{within_in, within-next, within-range}
use Rattle.tables.specs.declared.Circles.{Circles}
use Rattle.tables.specs.declared.Tables.{Tables}
use Rattle.tables.specs.declared.SagasRead.{SagasRead}
use Rattle.tables.specs.declared.TablesRead.{TablesRead}
use Rattle.tables.specs.Reading.{empty_tables, with_saga, sagas_from, with_entry, dependencies_from, with_counts, unless_circle, rest_from, tables_by, edition_ceiling, edition_field}
use Rattle.tables.proofs.ReadingLaws.{sagas-more, entries-more, rest4, all4}
use Rattle.tables.proofs.WayLaws.{no_read, sagas-next, by-circle, by-saga, entry-inside, by-entry, by-rest, by-tables}
use Rattle.std.specs.Prelude.{Ok}

module _ (cap : ℕ) (s u : List ℕ) (o : ℕ) (same : Agrees cap s u o) where
  sagas-same : (k at sum : ℕ) (t : Tables) (v p : ℕ) → at ≤ length s → p ≤ o → (sagas_from cap s k at sum t).answer ≡ Ok (v, p)
      → sagas_from cap u k at sum t ≡ sagas_from cap s k at sum t
  unfolding sagas_from
  sagas-same zero at sum t v p b h e = refl
  sagas-same (suc k) at sum t v p b h e =
      by-saga cap s k at sum t (λ (r : SagasRead). r.answer ≡ Ok (v, p) → sagas_from cap u (suc k) at sum t ≡ r) b
      (λ r q f. no_value)
      (λ n next f l g.
      let w = (within-next cap s at 1 most_steps BadCount n next f).1 in
      let z = sagas-next cap s k next (sum + 2 * n) (with_saga t n) v p w g in
      sagas-more cap u at sum t (suc k) k refl n next (within_same cap s u o same at 1 most_steps BadCount n next f (omega (arith, z.0))) t.sagas refl l
      ∙ sagas-same k next (sum + 2 * n) (with_saga t n) v p w h g)
      e

  module _ (x : ℕ) (before : x ≤ o) where
    -- the place that was passed is not after the end, and u has the same
    abbrev Same : ℕ → TablesRead → TablesRead → Type 0
    Same at other r = r.answer ≡ Ok x → (at ≤ x) × (x ≤ length s) × (other ≡ r)

    entries-same : (n k at : ℕ) (t : Tables) → at ≤ length s → Same at (dependencies_from cap u n k at t) (dependencies_from cap s n k at t)
    unfolding dependencies_from
    entries-same n zero at t b = λ e. let q : at ≡ x = cc in (omega arith, omega arith, refl)
    entries-same n (suc k) at t b =
        by-entry cap s n k at t (Same at (dependencies_from cap u n (suc k) at t)) b
        (λ r p f. no_read)
        (λ d base kind next f l h e.
        let i = entries-same n k next (with_entry t d base kind) l e in
        let j = entry-inside cap s u o same at d base kind next b f in (
          omega (arith, i.0, j.later),
          i.1,
          entries-more cap u n at t (suc k) k refl d base kind next (j.cut (omega (arith, i.0)) ∙ f) t.declared _ refl refl h ∙ i.2,
        ))

    rest-same : (circles : Circles) (at sum : ℕ) (t : Tables) → at ≤ length s → Same at (rest_from circles cap u at sum t) (rest_from circles cap s at sum t)
    rest-same circles at sum t b =
        by-rest cap s circles at sum t (Same at (rest_from circles cap u at sum t)) b
        (λ r p f. no_read)
        (λ p m k y z w f₁ f₂ f₃.
        by-circle circles z _ (Same at (rest_from circles cap u at sum t)) (λ f. no_read)
        (λ kept e.
        let l₁ = within-next cap s at 0 (most_transactions - sum) BadCount p y f₁ in
        let l₂ = within-next cap s y 0 most_objects BadCount m z f₂ in
        let l₃ = within-next cap s z 0 most_dependencies BadCount k w f₃ in
        let i = entries-same (sum + p) k w (with_counts t p m) l₃.1 e in
        let g₁ = within_same cap s u o same at 0 (most_transactions - sum) BadCount p y f₁ (omega (arith, i.0)) in
        let g₂ = within_same cap s u o same y 0 most_objects BadCount m z f₂ (omega (arith, i.0)) in
        let g₃ = within_same cap s u o same z 0 most_dependencies BadCount k w f₃ (omega (arith, i.0)) in (
          omega (arith, i.0),
          i.1,
          sym (rest4 circles cap u at sum t p y g₁ m z g₂ k w g₃) ∙ ap (unless_circle circles z) i.2 ∙ kept,
        )))

-- the edition field too, whatever the ceiling
module _ (ed : Edition) (s u : List ℕ) (o : ℕ) (same : Agrees (ceiling_of ed) s u o) where
  first-same : (v next : ℕ) → edition_field ed s ≡ Ok (v, next) → next ≤ o → edition_field ed u ≡ Ok (v, next)
  first-same v next f l =
      let first = within-range edition_ceiling s 0 (edition_number ed) (edition_number ed) BadEdition v next f in
      let here = number_same edition_ceiling (ceiling_of ed) s 0 v next first.2 (omega (arith, first.1, edition-low ed, ceiling-low ed)) in
      within_in edition_ceiling u 0 (edition_number ed) (edition_number ed) BadEdition v next
      (number_same (ceiling_of ed) edition_ceiling u 0 v next (same 0 v next here l) (omega (arith, first.1, edition-low ed))) first.0 first.1

  module _ (x : ℕ) (before : x ≤ o) where
    tables-same : (circles : Circles) → Same (ceiling_of ed) s u o same x before 0 (tables_by circles ed u) (tables_by circles ed s)
    tables-same circles =
        by-tables ed s circles (Same (ceiling_of ed) s u o same x before 0 (tables_by circles ed u))
        (λ r p f. no_read)
        (λ v g y z sum w f₁ f₂ f₃ e.
        let l₁ = within-next edition_ceiling s 0 (edition_number ed) (edition_number ed) BadEdition v y f₁ in
        let l₂ = within-next (ceiling_of ed) s y 0 most_sagas BadCount g z f₂ in
        let l₃ = sagas-next (ceiling_of ed) s g z 0 empty_tables sum w l₂.1 f₃ in
        let i = rest-same (ceiling_of ed) s u o same x before circles w sum (sagas_from (ceiling_of ed) s g z 0 empty_tables).tables l₃.1 e in
        let g₁ = first-same v y f₁ (omega (arith, i.0)) in
        let g₂ = within_same (ceiling_of ed) s u o same y 0 most_sagas BadCount g z f₂ (omega (arith, i.0)) in
        let g₃ = sagas-same (ceiling_of ed) s u o same g z 0 empty_tables sum w l₂.1 (omega (arith, i.0)) f₃ in (
          omega arith,
          i.1,
          sym (all4 circles ed u v y g₁ g z g₂ (sagas_from (ceiling_of ed) s g z 0 empty_tables) (sym g₃) sum w f₃) ∙ i.2,
        ))

module _ (circles : Circles) (ed : Edition) (s : List ℕ) where
  -- the tables end within the book
  pub tables-place : (at : ℕ) → (tables_by circles ed s).answer ≡ Ok at → at ≤ length s
  tables-place at e = (tables-same ed s s at (λ x v next f h. f) at (omega arith) circles e).1

  -- a beginning that holds them has the same
  pub tables-local : (at o : ℕ) → (tables_by circles ed s).answer ≡ Ok at → at ≤ o → tables_by circles ed (take o s) ≡ tables_by circles ed s
  tables-local at o e h = (tables-same ed s (take o s) o (λ x v next f l. number-local (ceiling_of ed) x v next s o f l) at h circles e).2

  -- and what a beginning has, the whole has
  pub tables-extend : (at o : ℕ) → (tables_by circles ed (take o s)).answer ≡ Ok at → tables_by circles ed s ≡ tables_by circles ed (take o s)
  tables-extend at o e = (tables-same ed (take o s) s at (λ x v next f l. number-extends (ceiling_of ed) x v next s o f) at (omega arith) circles e).2
