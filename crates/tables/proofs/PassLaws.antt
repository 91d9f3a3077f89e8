-- Accepted tables stand in the book as their own fields.
use Prim.Native.Nat.{ℕ, zero, suc, ◌+◌, ◌*◌, ◌-◌, ◌≤◌}
use native.Mathlib.Omega.{arith}
use mathlib.Core.Path.{◌≡◌, refl, sym, ap, ap₂, subst, ◌∙◌}
use mathlib.Core.Bool.{true}
use mathlib.Core.List.{List, [], ◌∷◌, ◌++◌, append-nil, append_assoc}
use lib.ListN.{length, length-set, get_or, take}
use Rattle.laws.proofs.ListLaws.{take-stored}
use Rattle.terms.specs.Limits.{most_dependencies, most_objects, most_sagas, most_steps, most_transactions}
use Rattle.terms.specs.declared.Refusal.TheVariants.{BadCount, BadEdition}
use Rattle.number.specs.declared.Edition.{Edition}
use Rattle.number.specs.Number.{ceiling_of, edition_number, no_fields, row_at, fault}
use Rattle.number.proofs.FieldLaws.{by_field, within-next, within-range}
use Rattle.number.proofs.Passing.{Passes, join, pass-within}
use Rattle.number.proofs.RowLaws.{row-fields, row-places}
use Rattle.number.proofs.Spelling.{no_value, number_same}
use Rattle.number.proofs.EditionLaws.{ceiling-low, edition-low}
use Rattle.tables.specs.Dependencies.{entry_holds, kind_of}
use Rattle.tables.specs.Reading.{dependencies_from, empty_tables, entry_at, sagas_from, tables_by, with_counts, with_entry, with_saga, edition_ceiling, EntryRead, declares}
use Rattle.tables.specs.Sorts.{sagas_of}
use Rattle.tables.specs.Written.{declared_of, entries_fields, entry_fields, table_fields}
use Rattle.tables.specs.declared.Circles.{Circles}
use Rattle.tables.specs.declared.Dependency.{Dependency}
use Rattle.tables.specs.declared.SagasRead.{SagasRead}
use Rattle.tables.specs.declared.Tables.{Tables}
use Rattle.tables.specs.declared.TablesRead.{TablesRead}
use Rattle.tables.proofs.DependencyLaws.{on-allowed, on-holds}
use Rattle.tables.proofs.KindLaws.{kind-back}
use Rattle.tables.proofs.WayLaws.{by-circle, by-entry, by-rest, by-saga, by-tables, no_read, sagas-next}
use Rattle.std.specs.Prelude.{Ok}
use Rattle.tables.proofs.ReadingLaws.{entry-parts}
use Rattle.number.proofs.Spelling.{value-parts}

-- ---- the steps of the sagas

-- k more sagas with these steps, and nothing else
pub record Steps (k : ℕ) (vs : List ℕ) (t u : Tables) : Type 0 where
  pub counted : u.sagas ≡ t.sagas + k
  pub steps : sagas_of u ≡ sagas_of t ++ vs
  pub same_count : u.declared ≡ t.declared
  pub same_entries : u.dependencies ≡ t.dependencies

-- the entries
record Entries (k : ℕ) (vs : List ℕ) (t u : Tables) : Type 0 where
  counted : u.declared ≡ t.declared + k
  entries : entries_fields (declared_of u) ≡ entries_fields (declared_of t) ++ vs
  same-sagas : u.sagas ≡ t.sagas
  same-steps : u.steps ≡ t.steps
  same-plain : u.plain ≡ t.plain
  same-objects : u.objects ≡ t.objects

entries-append : (xs : List Dependency) (x : Dependency) → entries_fields (xs ++ (x ∷ [])) ≡ entries_fields xs ++ entry_fields x
unfolding entries_fields
entries-append [] x = append-nil (entry_fields x)
entries-append (y ∷ xs) x = ap (λ (l : List ℕ). entry_fields y ++ l) (entries-append xs x) ∙ sym (append_assoc (entry_fields y) (entries_fields xs) (entry_fields x))

no-entries : (l : List Dependency) (ws : List ℕ) → entries_fields (take 0 l) ++ ws ≡ ws
unfolding entries_fields
no-entries l ws = refl

-- what stands in the empty tables
pub empty-sagas : empty_tables.sagas ≡ 0
unfolding empty_tables
empty-sagas = refl

pub empty-declared : empty_tables.declared ≡ 0
unfolding empty_tables
empty-declared = refl

pub empty-steps : length empty_tables.steps ≡ most_sagas
unfolding empty_tables
empty-steps = refl

pub empty-entries : length empty_tables.dependencies ≡ most_dependencies
unfolding empty_tables
empty-entries = refl

-- the order of the fields
abbrev in_order : ℕ → ℕ → List ℕ → ℕ → ℕ → ℕ → List ℕ → List ℕ
in_order e g vs q m k ws = e ∷ g ∷ (vs ++ (q ∷ m ∷ k ∷ ws))

same-order : {e e' g g' q q' m m' k k' : ℕ} {vs vs' ws ws' : List ℕ} → e ≡ e' → g ≡ g' → vs ≡ vs' → q ≡ q' → m ≡ m' → k ≡ k' → ws ≡ ws'
    → in_order e g vs q m k ws ≡ in_order e' g' vs' q' m' k' ws'
same-order a b c d f h i = cc

module _ (cap : ℕ) (s : List ℕ) where
  pub pass-sagas : (k at sum : ℕ) (t : Tables) (v p : ℕ) → at ≤ length s → t.sagas + k ≤ length t.steps → (sagas_from cap s k at sum t).answer ≡ Ok (v, p)
      → (vs : List ℕ) × Passes cap s at vs p × Steps k vs t (sagas_from cap s k at sum t).tables
  unfolding sagas_from
  pass-sagas zero at sum t v p b room e =
      let q = (value-parts e).1 in
      ([], subst (Passes cap s at []) q Passes.here, record { counted = omega arith; steps = sym (append-nil (sagas_of t)); same_count = refl; same_entries = refl })
  pass-sagas (suc k) at sum t v p b room e =
      by-saga cap s k at sum t (λ (r : SagasRead). r.answer ≡ Ok (v, p) → (vs : List ℕ) × Passes cap s at vs p × Steps (suc k) vs t r.tables) b
      (λ r q f. no_value)
      (λ n next f l g.
      let j = pass-sagas k next (sum + 2 * n) (with_saga t n) v p (within-next cap s at 1 most_steps BadCount n next f).1 (omega (arith, length-set t.steps t.sagas n)) g in
      let w = j.2 in (
        n ∷ j.0,
        Passes.on (within-range cap s at 1 most_steps BadCount n next f).2 j.1,
        record {
          counted = omega (arith, w.counted);
          steps = w.steps ∙ ap (λ (x : List ℕ). x ++ j.0) (take-stored t.steps t.sagas n (omega arith)) ∙ append_assoc (sagas_of t) (n ∷ []) j.0;
          same_count = w.same_count;
          same_entries = w.same_entries;
        },
      ))
      e

  -- ---- one entry

  entry-fields : (at d b kind next : ℕ) → entry_at cap s at ≡ declares d b kind next → Passes cap s at (d ∷ b ∷ kind ∷ []) next
  unfolding entry_at
  entry-fields at d b kind next e =
      let row = row_at cap s 3 at in
      by_field row.end fault (λ n p. declares (get_or row.fields 0 0) (get_or row.fields 1 0) (get_or row.fields 2 0) p)
      (λ (x : EntryRead). x ≡ declares d b kind next → Passes cap s at (d ∷ b ∷ kind ∷ []) next)
      (λ n p f h.
      let same = entry-parts h in
      let w = row-fields cap s 3 0 at no_fields n p (omega arith) f in
      let all = row-places cap s 3 at in
      let fields : w.0 ≡ d ∷ b ∷ kind ∷ [] = sym w.2 ∙ ap (take 3) all ∙ rw (same.0, same.1, same.2) refl in
      subst (λ (l : List ℕ). Passes cap s at l next) fields (subst (Passes cap s at w.0) same.3 w.1))
      (λ r p f h. let z : ◌≡◌ {A = ℕ} 0 1 = cc in absurd (omega arith))
      e

  as_read : (t : Tables) (n d b kind : ℕ) → entry_holds t n d b kind ≡ true → entry_fields (record { dependent = d; base = b; kind = kind_of kind }) ≡ d ∷ b ∷ kind ∷ []
  as_read t n d b kind e =
      let a = on-allowed t n d b kind (on-holds t n d b kind e).0 in ap (λ (k : ℕ). d ∷ b ∷ k ∷ []) (kind-back kind a.kind_low a.kind_high)

  module _ (x : ℕ) where
    pass-entries : (n k at : ℕ) (t : Tables) → at ≤ length s → t.declared + k ≤ length t.dependencies → (dependencies_from cap s n k at t).answer ≡ Ok x
        → (vs : List ℕ) × Passes cap s at vs x × Entries k vs t (dependencies_from cap s n k at t).tables
    unfolding dependencies_from
    pass-entries n zero at t b room e =
        let q : at ≡ x = cc in (
          [],
          subst (Passes cap s at []) q Passes.here,
          record { counted = omega arith; entries = sym (append-nil (entries_fields (declared_of t))); same-sagas = refl; same-steps = refl; same-plain = refl; same-objects = refl },
        )
    pass-entries n (suc k) at t b room e =
        by-entry cap s n k at t (λ (r : TablesRead). r.answer ≡ Ok x → (vs : List ℕ) × Passes cap s at vs x × Entries (suc k) vs t r.tables) b (λ r p f. no_read)
        (λ d base kind next f l h g.
        let new : Dependency = record { dependent = d; base = base; kind = kind_of kind } in
        let j = pass-entries n k next (with_entry t d base kind) l (omega (arith, length-set t.dependencies t.declared new)) g in
        let w = j.2 in
        let mine = d ∷ base ∷ kind ∷ [] in (
          mine ++ j.0,
          join cap s (entry-fields at d base kind next f) j.1,
          record {
            counted = omega (arith, w.counted);
            entries = w.entries
                ∙ ap (λ (z : List ℕ). z ++ j.0)
                (ap entries_fields (take-stored t.dependencies t.declared new (omega arith))
                ∙ entries-append (declared_of t) new
                ∙ ap (λ (z : List ℕ). entries_fields (declared_of t) ++ z) (as_read t n d base kind h))
                ∙ append_assoc (entries_fields (declared_of t)) mine j.0;
            same-sagas = w.same-sagas;
            same-steps = w.same-steps;
            same-plain = w.same-plain;
            same-objects = w.same-objects;
          },
        ))
        e

-- the tables of a book, where they are accepted
module _ (ed : Edition) (s : List ℕ) (x : ℕ) where
  pub tables-pass : (circles : Circles) → (tables_by circles ed s).answer ≡ Ok x → Passes (ceiling_of ed) s 0 (table_fields ed (tables_by circles ed s).tables) x
  tables-pass circles =
      by-tables ed s circles Goal (λ r p f. no_read)
      (λ e g u w sum z f₁ f₂ f₃.
      let first = within-range edition_ceiling s 0 (edition_number ed) (edition_number ed) BadEdition e u f₁ in
      let few = (within-range (ceiling_of ed) s u 0 most_sagas BadCount g w f₂).1 in
      let v = (within-next (ceiling_of ed) s u 0 most_sagas BadCount g w f₂).1 in
      let T = (sagas_from (ceiling_of ed) s g w 0 empty_tables).tables in
      let listed = pass-sagas (ceiling_of ed) s g w 0 empty_tables sum z v (omega (arith, few, empty-sagas, empty-steps)) f₃ in
      let made = listed.2 in
      by-rest (ceiling_of ed) s circles z sum T Goal (sagas-next (ceiling_of ed) s g w 0 empty_tables sum z v f₃).1 (λ r p f. no_read)
      (λ q m k a b c h₁ h₂ h₃.
      by-circle circles b _ Goal (λ f. no_read)
      (λ kept h.
      let many = (within-range (ceiling_of ed) s b 0 most_dependencies BadCount k c h₃).1 in
      let none : T.declared ≡ 0 = made.same_count ∙ empty-declared in
      let room : length T.dependencies ≡ most_dependencies = ap length made.same_entries ∙ empty-entries in
      let declared = pass-entries (ceiling_of ed) s x (sum + q) k c (with_counts T q m) (within-next (ceiling_of ed) s b 0 most_dependencies BadCount k c h₃).1 (omega (arith, many, none, room)) h in
      let end = declared.2 in
      let edition-is : e ≡ edition_number ed = omega (arith, first.0, first.1) in
      let sagas-are : g ≡ (dependencies_from (ceiling_of ed) s (sum + q) k c (with_counts T q m)).tables.sagas = omega (arith, end.same-sagas, made.counted, empty-sagas) in
      let steps-are : listed.0 ≡ sagas_of (dependencies_from (ceiling_of ed) s (sum + q) k c (with_counts T q m)).tables =
      sym (ap (λ (j : ℕ). take j empty_tables.steps ++ listed.0) empty-sagas)
      ∙ sym made.steps
      ∙ sym (ap₂ (λ (j : ℕ) (l : List ℕ). take j l) end.same-sagas end.same-steps) in
      let count-is : k ≡ (dependencies_from (ceiling_of ed) s (sum + q) k c (with_counts T q m)).tables.declared = omega (arith, end.counted, none) in
      let entries-are : declared.0 ≡ entries_fields (declared_of (dependencies_from (ceiling_of ed) s (sum + q) k c (with_counts T q m)).tables) =
      sym (ap (λ (j : ℕ). entries_fields (take j T.dependencies) ++ declared.0) none ∙ no-entries T.dependencies declared.0) ∙ sym end.entries in
      subst (λ (l : List ℕ). Passes (ceiling_of ed) s 0 l x) (same-order edition-is sagas-are steps-are (sym end.same-plain) (sym end.same-objects) count-is entries-are)
      (join (ceiling_of ed) s (Passes.on (number_same edition_ceiling (ceiling_of ed) s 0 e u first.2 (omega (arith, first.1, edition-low ed, ceiling-low ed))) Passes.here)
      (join (ceiling_of ed) s (pass-within (ceiling_of ed) s u 0 most_sagas BadCount g w f₂)
      (join (ceiling_of ed) s listed.1
      (join (ceiling_of ed) s (pass-within (ceiling_of ed) s z 0 (most_transactions - sum) BadCount q a h₁)
      (join (ceiling_of ed) s (pass-within (ceiling_of ed) s a 0 most_objects BadCount m b h₂)
      (join (ceiling_of ed) s (pass-within (ceiling_of ed) s b 0 most_dependencies BadCount k c h₃) declared.1)))))))))
    where
      Goal : TablesRead → Type 0
      Goal r = r.answer ≡ Ok x → Passes (ceiling_of ed) s 0 (table_fields ed r.tables) x
