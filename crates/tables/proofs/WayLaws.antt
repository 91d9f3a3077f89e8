-- The ways that reading the tables can take, each with two ends: it stops at a fault, or it goes on with what was read.
-- What is shown of both ends is shown of the whole.
use Prim.Native.Nat.{ℕ, zero, suc, ◌+◌, ◌-◌, ◌*◌, ◌≤◌}
use native.Mathlib.Omega.{arith}
use mathlib.Core.Path.{◌≡◌, refl, ap}
use mathlib.Core.Bool.{true, cond, ◌&&◌}
use mathlib.Core.List.{List}
use lib.ListN.{length, get_or}
use lib.Dec.{ltb}
use borrow.Author.Tests.{ltb-false}
use Rattle.laws.proofs.Bools.{bool_cases}
use Rattle.terms.specs.Limits.{most_sagas, most_steps, most_transactions, most_objects, most_dependencies}
use Rattle.terms.specs.declared.Refusal.{Refusal}
use Rattle.terms.specs.declared.Refusal.TheVariants.{BadEdition, BadCount, BadDependency, NeverMoves}
use Rattle.number.specs.declared.Edition.{Edition}
use Rattle.number.proofs.Spelling.{no_value, fault-parts, value-parts}
use Rattle.number.specs.Number.{ceiling_of, edition_number, number_within, no_fields, row_at, fault}
use Rattle.number.proofs.FieldLaws.{by_field, within-next}
use Rattle.number.proofs.Beginnings.{Agrees}
use Rattle.number.proofs.RowLaws.{RowInside, row_inside, row-fault}
use Rattle.tables.specs.declared.Circles.{Circles}
use Rattle.tables.specs.declared.Circles.TheVariants.{Forbidden, Permitted}
use Rattle.tables.specs.declared.Tables.{Tables}
use Rattle.tables.specs.declared.SagasRead.{SagasRead}
use Rattle.tables.specs.declared.TablesRead.{TablesRead}
use Rattle.tables.specs.Circles.{has_circle}
use Rattle.tables.specs.Dependencies.{entry_holds}
use Rattle.tables.specs.Reading.{empty_tables, with_saga, sagas_stopped, sagas_from, refused, entry_by, entry_at, with_entry, then_entry, dependencies_from, with_counts, is_read, unless_circle, rest_from, edition_field, tables_by, edition_ceiling, EntryRead, declares}
use Rattle.tables.proofs.FaultLaws.{Faulty, within-fault}
use Rattle.std.specs.Prelude.{Ok}
use Rattle.tables.proofs.ReadingLaws.{entry-parts}

pub no_read : {A : Type 0} {r : Refusal} {p at : ℕ} → fault r p ≡ Ok at → A
no_read e = let z : ◌≡◌ {A = ℕ} 0 1 = cc in absurd (omega arith)

-- tables that were read stay as they are, or are refused at this place, where circles are forbidden
pub by-circle : (circles : Circles) (at : ℕ) (r : TablesRead) (Q : TablesRead → Type 0) → (circles ≡ Forbidden → Q (refused NeverMoves at)) → (unless_circle circles at r ≡ r → Q r)
    → Q (unless_circle circles at r)
unfolding unless_circle
by-circle Permitted at r Q stop more = more refl
by-circle Forbidden at r Q stop more = bool_cases (is_read r.answer && has_circle r.tables) (λ h. rw h (stop refl)) (λ h. rw h (more (rw h)))

module _ (cap : ℕ) (s : List ℕ) where
  bad-count : (at : ℕ) → at ≤ length s → Faulty s BadCount at
  bad-count at b = record { inside = b; low = omega arith; high = omega arith }

  -- ---- one saga

  pub by-saga : (k at sum : ℕ) (t : Tables) (Q : SagasRead → Type 0) → at ≤ length s
      → ((r : Refusal) (p : ℕ) → Faulty s r p → Q (sagas_stopped r p))
      → ((n next : ℕ) → number_within cap s at 1 most_steps BadCount ≡ Ok (n, next) → sum + 2 * n ≤ most_transactions
      → Q (sagas_from cap s k next (sum + 2 * n) (with_saga t n)))
      → Q (sagas_from cap s (suc k) at sum t)
  unfolding sagas_from
  by-saga k at sum t Q b stop more =
      by_field (number_within cap s at 1 most_steps BadCount) sagas_stopped
      (λ n next. cond (ltb most_transactions (sum + 2 * n)) (sagas_stopped BadCount at) (sagas_from cap s k next (sum + 2 * n) (with_saga t n))) Q
      (λ n next f.
      bool_cases (ltb most_transactions (sum + 2 * n))
      (λ x. rw x (stop BadCount at (bad-count at b)))
      (λ x. rw x (more n next f (ltb-false most_transactions (sum + 2 * n) x))))
      (λ r p f. stop r p (within-fault cap s at b 1 most_steps BadCount (bad-count at b) r p f))

  -- the sagas end inside the book, or at a fault
  pub sagas-next : (k at sum : ℕ) (t : Tables) (v p : ℕ) → at ≤ length s → (sagas_from cap s k at sum t).answer ≡ Ok (v, p)
      → (at ≤ p) × (p ≤ length s)
  unfolding sagas_from
  sagas-next zero at sum t v p b e = let q = (value-parts e).1 in (omega arith, omega arith)
  sagas-next (suc k) at sum t v p b e =
      by-saga k at sum t (λ (r : SagasRead). r.answer ≡ Ok (v, p) → (at ≤ p) × (p ≤ length s)) b
      (λ r q f. no_value)
      (λ n next f l g.
      let w = within-next cap s at 1 most_steps BadCount n next f in
      let i = sagas-next k next (sum + 2 * n) (with_saga t n) v p w.1 g in (
        omega (arith, w.0, i.0),
        i.1,
      ))
      e

  pub sagas-fault : (k at sum : ℕ) (t : Tables) (r : Refusal) (p : ℕ) → at ≤ length s → (sagas_from cap s k at sum t).answer ≡ fault r p → Faulty s r p
  unfolding sagas_from
  sagas-fault zero at sum t r p b e = let z : ◌≡◌ {A = ℕ} 0 1 = cc in absurd (omega arith)
  sagas-fault (suc k) at sum t r p b e =
      by-saga k at sum t (λ (x : SagasRead). x.answer ≡ fault r p → Faulty s r p) b
      (λ x q f g. let same = fault-parts g in rw (← same.0, ← same.1) f)
      (λ n next f l g. sagas-fault k next (sum + 2 * n) (with_saga t n) r p (within-next cap s at 1 most_steps BadCount n next f).1 g)
      e

  -- ---- one entry

  -- the fields of an entry: what stands before its end, and that a book with the same fields has it too
  pub entry-inside : (u : List ℕ) (o : ℕ) → Agrees cap s u o → (at d b kind next : ℕ) → at ≤ length s → entry_at cap s at ≡ declares d b kind next
      → RowInside cap s at next o (entry_at cap u at ≡ entry_at cap s at)
  unfolding entry_at
  entry-inside u o agree at d b kind next l e =
      let row = row_at cap s 3 at in
      by_field row.end fault (λ n p. declares (get_or row.fields 0 0) (get_or row.fields 1 0) (get_or row.fields 2 0) p)
      (λ (x : EntryRead). x ≡ declares d b kind next → RowInside cap s at next o (entry_at cap u at ≡ entry_at cap s at))
      (λ n p f h.
      let q = (entry-parts h).3 in
      let i = row_inside cap s u o agree 3 0 at no_fields n p l f in
      record {
        later = omega (arith, i.later);
        ends = omega (arith, i.ends);
        cut = λ z. ap entry_by (i.cut (omega arith));
      })
      (λ r p f h. let z : ◌≡◌ {A = ℕ} 0 1 = cc in absurd (omega arith))
      e

  pub by-entry : (n k at : ℕ) (t : Tables) (Q : TablesRead → Type 0) → at ≤ length s
      → ((r : Refusal) (p : ℕ) → Faulty s r p → Q (refused r p))
      → ((d b kind next : ℕ) → entry_at cap s at ≡ declares d b kind next → next ≤ length s → entry_holds t n d b kind ≡ true
      → Q (dependencies_from cap s n k next (with_entry t d b kind)))
      → Q (dependencies_from cap s n (suc k) at t)
  unfolding dependencies_from entry_at
  by-entry n k at t Q l stop more =
      let row = row_at cap s 3 at in
      let d = get_or row.fields 0 0 in
      let b = get_or row.fields 1 0 in
      let kind = get_or row.fields 2 0 in
      by_field row.end fault (λ n p. declares d b kind p) (λ (e : EntryRead). entry_by row ≡ e → Goal e)
      (λ m next f q.
      bool_cases (entry_holds t n d b kind)
      (λ h. rw h (more d b kind next q (row_inside cap s s 0 (λ x v y e z. e) 3 0 at no_fields m next l f).ends h))
      (λ h. rw h (stop BadDependency at (record { inside = l; low = omega arith; high = omega arith }))))
      (λ r p f q. let g = row-fault cap s 3 0 at no_fields r p l f in stop r p (record { inside = g.0; low = g.1; high = omega (arith, g.2) }))
      refl
    where
      Goal : EntryRead → Type 0
      Goal e = Q (then_entry e at n t (λ d b kind next. dependencies_from cap s n k next (with_entry t d b kind)))

  -- ---- after the sagas

  pub by-rest : (circles : Circles) (at sum : ℕ) (t : Tables) (Q : TablesRead → Type 0) → at ≤ length s
      → ((r : Refusal) (p : ℕ) → Faulty s r p → Q (refused r p))
      → ((p m k x y z : ℕ) → number_within cap s at 0 (most_transactions - sum) BadCount ≡ Ok (p, x)
      → number_within cap s x 0 most_objects BadCount ≡ Ok (m, y) → number_within cap s y 0 most_dependencies BadCount ≡ Ok (k, z)
      → Q (unless_circle circles y (dependencies_from cap s (sum + p) k z (with_counts t p m))))
      → Q (rest_from circles cap s at sum t)
  unfolding rest_from
  by-rest circles at sum t Q b stop more =
      by_field (number_within cap s at 0 (most_transactions - sum) BadCount) refused _ Q
      (λ p x f₁.
      let u = (within-next cap s at 0 (most_transactions - sum) BadCount p x f₁).1 in
      by_field (number_within cap s x 0 most_objects BadCount) refused _ Q
      (λ m y f₂.
      let v = (within-next cap s x 0 most_objects BadCount m y f₂).1 in
      by_field (number_within cap s y 0 most_dependencies BadCount) refused _ Q
      (λ k z f₃. more p m k x y z f₁ f₂ f₃)
      (λ r q f. stop r q (within-fault cap s y v 0 most_dependencies BadCount (bad-count y v) r q f)))
      (λ r q f. stop r q (within-fault cap s x u 0 most_objects BadCount (bad-count x u) r q f)))
      (λ r q f. stop r q (within-fault cap s at b 0 (most_transactions - sum) BadCount (bad-count at b) r q f))

-- ---- the whole

module _ (ed : Edition) (s : List ℕ) where
  pub by-tables : (circles : Circles) (Q : TablesRead → Type 0)
      → ((r : Refusal) (p : ℕ) → Faulty s r p → Q (refused r p))
      → ((e g x y sum z : ℕ) → edition_field ed s ≡ Ok (e, x)
      → number_within (ceiling_of ed) s x 0 most_sagas BadCount ≡ Ok (g, y) → (sagas_from (ceiling_of ed) s g y 0 empty_tables).answer ≡ Ok (sum, z)
      → Q (rest_from circles (ceiling_of ed) s z sum (sagas_from (ceiling_of ed) s g y 0 empty_tables).tables))
      → Q (tables_by circles ed s)
  unfolding tables_by
  by-tables circles Q stop more =
      by_field (edition_field ed s) refused _ Q
      (λ e x f₁.
      let u = (within-next edition_ceiling s 0 (edition_number ed) (edition_number ed) BadEdition e x f₁).1 in
      by_field (number_within (ceiling_of ed) s x 0 most_sagas BadCount) refused _ Q
      (λ g y f₂.
      let v = (within-next (ceiling_of ed) s x 0 most_sagas BadCount g y f₂).1 in
      by_field (sagas_from (ceiling_of ed) s g y 0 empty_tables).answer refused _ Q
      (λ sum z f₃. more e g x y sum z f₁ f₂ f₃)
      (λ r q f. stop r q (sagas-fault (ceiling_of ed) s g y 0 empty_tables r q v f)))
      (λ r q f. stop r q (within-fault (ceiling_of ed) s x u 0 most_sagas BadCount (bad-count (ceiling_of ed) s x u) r q f)))
      (λ r q f.
      let b : 0 ≤ length s = omega arith in
      stop r q (within-fault edition_ceiling s 0 b (edition_number ed) (edition_number ed) BadEdition (record { inside = b; low = omega arith; high = omega arith }) r q f))
