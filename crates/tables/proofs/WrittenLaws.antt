-- Well-formed tables that stand in a book as their own fields are accepted, as themselves.
use Prim.Native.Nat.{ℕ, zero, suc, ◌+◌, ◌*◌, ◌-◌, ◌≤◌, ◌<◌, min}
use native.Mathlib.Numerals.{add-one}
use native.Mathlib.Omega.{arith}
use mathlib.Core.Path.{◌≡◌, refl, sym, ap, ap₂, subst, subst⁻¹, ◌∙◌}
use mathlib.Core.Bool.{true}
use mathlib.Core.List.{List, [], ◌∷◌, ◌++◌}
use lib.Dec.{eqb}
use lib.ListN.{length, length-set, get_or, set, take, drop, get_or-eq_default}
use lib.Seq.{drop_at, drop-cons, drop-length, get_or-set_same, get_or-take, length-take-le, take_at}
use borrow.Author.Tests.{eq-eqb, le-ltb}
use Rattle.laws.proofs.Bools.{and_on, or_left, or_right}
use Rattle.laws.proofs.Decisions.{lt-or}
use Rattle.laws.specs.Index.{any_below}
use Rattle.laws.proofs.IndexLaws.{any_same}
use Rattle.terms.specs.Limits.{most_dependencies, most_objects, most_sagas, most_steps, most_transactions}
use Rattle.terms.specs.declared.Refusal.TheVariants.{BadCount, BadEdition}
use Rattle.sets.proofs.ReachLaws.{leads-more}
use Rattle.number.specs.declared.Edition.{Edition}
use Rattle.number.specs.Number.{ceiling_of, edition_number, row_from}
use Rattle.number.proofs.FieldLaws.{within_in}
use Rattle.number.proofs.Passing.{Passes, pass-none, pass_same, split}
use Rattle.number.proofs.Spelling.{number-next, number_same}
use Rattle.number.proofs.EditionLaws.{edition-low}
use Rattle.tables.specs.Accepted.{GoesRound, SameTables, Well}
use Rattle.tables.specs.Circles.{begin_link, waits_by}
use Rattle.tables.specs.Counts.{dependency_count}
use Rattle.tables.specs.Dependencies.{allowed, dependency_at, entry_holds, kind_number, kind_of, no_dependency, rises_from, rises_to}
use Rattle.tables.specs.Reading.{dependencies_from, empty_tables, entry_at, rest_from, sagas_from, tables_by, unless_circle, with_counts, with_entry, with_saga, edition_ceiling, declares}
use Rattle.tables.specs.Sorts.{number_of_all, owned_by, sagas_of, sort_from, sort_of}
use Rattle.tables.specs.Written.{declared_of, entries_fields, entry_fields, table_fields}
use Rattle.tables.specs.declared.Circles.TheVariants.{Forbidden, Permitted}
use Rattle.tables.specs.declared.Dependency.{Dependency}
use Rattle.tables.specs.declared.Kind.{Kind}
use Rattle.tables.specs.declared.Tables.{Tables}
use Rattle.tables.specs.declared.TablesRead.{TablesRead}
use Rattle.tables.proofs.AcceptedWellHolds.{accepted-well}
use Rattle.tables.proofs.DependencyLaws.{on-allowed}
use Rattle.tables.proofs.KindLaws.{kind-again}
use Rattle.tables.proofs.NeverMovesRefusedHolds.{never-moves-refused}
use Rattle.tables.proofs.PassLaws.{empty-declared, empty-entries, empty-sagas, empty-steps, pass-sagas, tables-pass}
use Rattle.std.specs.Prelude.{Ok}

-- ---- what is counted is there

module _ (t : Tables) (well : Well t) where
  steps-there : t.sagas ≤ length t.steps
  steps-there =
      lt-or (length t.steps) t.sagas
      (λ h. absurd (omega (arith, (well.stepped (length t.steps) h).0, get_or-eq_default t.steps 0 {n = length t.steps} (omega arith))))
      (λ h. h)

  entries-there : t.declared ≤ length t.dependencies
  entries-there =
      lt-or (length t.dependencies) t.declared
      (λ h.
      let none : dependency_at t (length t.dependencies) ≡ no_dependency = get_or-eq_default t.dependencies no_dependency (omega arith) in
      let x = dependency_at t (length t.dependencies) in
      let fine = on-allowed t (number_of_all t) x.dependent x.base (kind_number x.kind) (well.permitted (length t.dependencies) h) in
      absurd (fine.apart (ap (λ (y : Dependency). y.dependent) none ∙ sym (ap (λ (y : Dependency). y.base) none))))
      (λ h. h)

  pub steps-many : length (sagas_of t) ≡ t.sagas
  steps-many = length-take-le t.sagas t.steps steps-there

  pub entries-many : length (declared_of t) ≡ t.declared
  entries-many = length-take-le t.declared t.dependencies entries-there

  pub entry-is : (i : ℕ) → i < t.declared → drop i (declared_of t) ≡ dependency_at t i ∷ drop (suc i) (declared_of t)
  entry-is i h =
      drop-cons (declared_of t) i no_dependency (omega (arith, entries-many))
      ∙ ap (λ (x : Dependency). x ∷ drop (suc i) (declared_of t)) (get_or-take t.declared t.dependencies i no_dependency h)

-- ---- the sorts go by the steps and the plain ones alone

module _ (t u : Tables) (steps : sagas_of u ≡ sagas_of t) (plain : u.plain ≡ t.plain) where
  same-sort : (x : ℕ) → sort_of u x ≡ sort_of t x
  unfolding sort_of
  same-sort x = ap₂ (λ (l : List ℕ) (p : ℕ). sort_from l 0 p x) steps plain

  same-allowed : (n d b kind : ℕ) → allowed t n d b kind ≡ true → allowed u n d b kind ≡ true
  same-allowed n d b kind h = rw (same-sort b, same-sort d) h

-- ---- the entries read so far, i of them

record Partly (t : Tables) (i : ℕ) (u : Tables) : Type 0 where
  steps : sagas_of u ≡ sagas_of t
  plain : u.plain ≡ t.plain
  count : u.declared ≡ i
  room : length u.dependencies ≡ most_dependencies
  last : (j : ℕ) → i ≡ suc j → dependency_at u j ≡ dependency_at t j

module _ (t : Tables) (well : Well t) (u : Tables) where
  rises : (i : ℕ) → Partly t i u → i < t.declared
      → rises_to u (dependency_at t i).dependent (dependency_at t i).base (kind_number (dependency_at t i).kind) ≡ true
  unfolding rises_to
  rises zero so h = or_left (eqb u.declared 0) _ (eq-eqb u.declared 0 so.count)
  rises (suc j) so h =
      let x = dependency_at t (suc j) in
      let back : u.declared - 1 ≡ j = omega (arith, so.count) in
      let next = subst (λ (m : ℕ). rises_from (dependency_at t j) (dependency_at t m).dependent (dependency_at t m).base (kind_number (dependency_at t m).kind) ≡ true) (add-one j) (well.rising j (omega arith)) in
      or_right (eqb u.declared 0) _
      (subst (λ (y : Dependency). rises_from y x.dependent x.base (kind_number x.kind) ≡ true) (sym (ap (dependency_at u) back ∙ so.last j refl)) next)

  partly_more : (i : ℕ) → Partly t i u → i < t.declared
      → Partly t (suc i) (with_entry u (dependency_at t i).dependent (dependency_at t i).base (kind_number (dependency_at t i).kind))
  partly_more i so h =
      let x = dependency_at t i in
      let few = well.declared in
      let new : Dependency = record { dependent = x.dependent; base = x.base; kind = kind_of (kind_number x.kind) } in
      record {
        steps = so.steps;
        plain = so.plain;
        count = omega (arith, so.count);
        room = length-set u.dependencies u.declared new ∙ so.room;
        last = λ j e.
            let mine : j ≡ u.declared = omega (arith, so.count) in
            let told : j ≡ i = omega arith in
            ap (λ (m : ℕ). get_or (set u.dependencies u.declared new) m no_dependency) mine
            ∙ get_or-set_same u.dependencies u.declared new no_dependency (omega (arith, so.count, so.room))
            ∙ ap (λ (k : Kind). record { dependent = x.dependent; base = x.base; kind = k }) (kind-again x.kind)
            ∙ sym (ap (dependency_at t) told);
      }

  entry-holds : (i : ℕ) → Partly t i u → i < t.declared
      → entry_holds u (number_of_all t) (dependency_at t i).dependent (dependency_at t i).base (kind_number (dependency_at t i).kind) ≡ true
  unfolding entry_holds
  entry-holds i so h =
      let x = dependency_at t i in
      and_on (allowed u (number_of_all t) x.dependent x.base (kind_number x.kind)) (rises_to u x.dependent x.base (kind_number x.kind))
      (same-allowed t u so.steps so.plain (number_of_all t) x.dependent x.base (kind_number x.kind) (well.permitted i h)) (rises i so h)

-- ---- as they stand in a book

module _ (cap : ℕ) (s : List ℕ) where
  sagas-accepted : (vs : List ℕ) (at sum p : ℕ) (t : Tables) → Passes cap s at vs p
      → ((i : ℕ) → i < length vs → (1 ≤ get_or vs i 0) × (get_or vs i 0 ≤ most_steps)) → sum + owned_by vs ≤ most_transactions
      → (sagas_from cap s (length vs) at sum t).answer ≡ Ok (sum + owned_by vs, p)
  unfolding sagas_from owned_by
  sagas-accepted [] at sum p t w each room = let all : sum ≡ sum + 0 = omega arith in ap₂ (λ (v q : ℕ). Ok (v, q)) all (pass-none cap s w)
  sagas-accepted (n ∷ ns) at sum p t (Passes.on {p = next} f w) each room =
      let mine = each 0 (omega arith) in
      let all : sum + 2 * n + owned_by ns ≡ sum + (2 * n + owned_by ns) = omega arith in
      rw (within_in cap s at 1 most_steps BadCount n next f mine.0 mine.1, le-ltb most_transactions (sum + 2 * n) (omega arith))
      (sagas-accepted ns next (sum + 2 * n) p (with_saga t n) w (λ i h. each (suc i) (omega arith)) (omega arith) ∙ ap (λ (v : ℕ). Ok (v, p)) all)

  entry-there : (at d b kind p : ℕ) → Passes cap s at (d ∷ b ∷ kind ∷ []) p → entry_at cap s at ≡ declares d b kind p
  unfolding entry_at row_from
  entry-there at d b kind p (Passes.on f₁ (Passes.on f₂ (Passes.on f₃ w))) = rw (f₁, f₂, f₃, pass-none cap s w) refl

  module _ (t : Tables) (well : Well t) where
    entries-accepted : (k i at p : ℕ) (u : Tables) → i + k ≡ t.declared → Partly t i u → Passes cap s at (entries_fields (drop i (declared_of t))) p
        → (dependencies_from cap s (number_of_all t) k at u).answer ≡ Ok p
    unfolding dependencies_from entries_fields
    entries-accepted zero i at p u e so w =
        let all : i ≡ length (declared_of t) = omega (arith, entries-many t well) in
        let none : drop i (declared_of t) ≡ [] = ap (λ (m : ℕ). drop m (declared_of t)) all ∙ drop-length (declared_of t) in
        ap Ok (pass-none cap s (subst (λ (l : List Dependency). Passes cap s at (entries_fields l) p) none w))
    entries-accepted (suc k) i at p u e so w =
        let x = dependency_at t i in
        let low : i < t.declared = omega arith in
        let parts = split cap s (entry_fields x) (subst (λ (l : List Dependency). Passes cap s at (entries_fields l) p) (entry-is t well i low) w) in
        rw (entry-there at x.dependent x.base (kind_number x.kind) parts.0 parts.1, entry-holds t well u i so low)
        (entries-accepted k (suc i) parts.0 p (with_entry u x.dependent x.base (kind_number x.kind)) (omega arith) (partly_more t well u i so low) parts.2)

    pub steps-each : (i : ℕ) → i < length (sagas_of t) → (1 ≤ get_or (sagas_of t) i 0) × (get_or (sagas_of t) i 0 ≤ most_steps)
    steps-each i h =
        let low : i < t.sagas = omega (arith, steps-many t well) in
        rw (get_or-take t.sagas t.steps i 0 low) (well.stepped i low)

    rest-accepted : (at x : ℕ) (u : Tables) → sagas_of u ≡ sagas_of t → u.declared ≡ 0 → length u.dependencies ≡ most_dependencies
        → Passes cap s at (t.plain ∷ t.objects ∷ t.declared ∷ entries_fields (declared_of t)) x
        → (rest_from Permitted cap s at (owned_by (sagas_of t)) u).answer ≡ Ok x
    unfolding rest_from unless_circle
    rest-accepted at x u steps none room (Passes.on {p = a} f₁ (Passes.on {p = b} f₂ (Passes.on {p = c} f₃ w))) =
        let fits = well.fits in
        rw (
          within_in cap s at 0 (most_transactions - owned_by (sagas_of t)) BadCount t.plain a f₁ (omega arith) (omega arith),
          within_in cap s a 0 most_objects BadCount t.objects b f₂ (omega arith) well.objects,
          within_in cap s b 0 most_dependencies BadCount t.declared c f₃ (omega arith) well.declared,
        )
        (entries-accepted t.declared 0 c x (with_counts u t.plain t.objects) (omega arith)
        (record { steps = steps; plain = refl; count = none; room = room; last = λ j e. absurd (omega arith) }) w)

-- reading accepts them up to where they end
module _ (ed : Edition) (s : List ℕ) (t : Tables) (well : Well t) where
  tables-accepted : (x : ℕ) → Passes (ceiling_of ed) s 0 (table_fields ed t) x → (tables_by Permitted ed s).answer ≡ Ok x
  unfolding tables_by
  tables-accepted x (Passes.on {p = a} f₁ (Passes.on {p = b} f₂ w)) =
      let parts = split (ceiling_of ed) s (sagas_of t) w in
      let m = parts.0 in
      let fits = well.fits in
      let many = steps-many t well in
      let sum : 0 + owned_by (sagas_of t) ≡ owned_by (sagas_of t) = omega arith in
      let sagas : (sagas_from (ceiling_of ed) s t.sagas b 0 empty_tables).answer ≡ Ok ((owned_by (sagas_of t)), m) =
      subst (λ (k : ℕ). (sagas_from (ceiling_of ed) s k b 0 empty_tables).answer ≡ Ok ((owned_by (sagas_of t)), m)) many
      (sagas-accepted (ceiling_of ed) s (sagas_of t) b 0 m empty_tables parts.1 (steps-each (ceiling_of ed) s t well) (omega arith) ∙ ap (λ (v : ℕ). Ok (v, m)) sum) in
      let read = pass-sagas (ceiling_of ed) s t.sagas b 0 empty_tables (owned_by (sagas_of t)) m (number-next (ceiling_of ed) s a t.sagas b f₂).1 (omega (arith, well.listed, empty-sagas, empty-steps)) sagas in
      let made = read.2 in
      let steps = made.steps ∙ ap (λ (j : ℕ). take j empty_tables.steps ++ read.0) empty-sagas ∙ pass_same (ceiling_of ed) s read.1 parts.1 in
      rw (
        within_in edition_ceiling s 0 (edition_number ed) (edition_number ed) BadEdition (edition_number ed) a (number_same (ceiling_of ed) edition_ceiling s 0 (edition_number ed) a f₁ (omega (arith, edition-low ed))) (omega arith) (omega arith),
        within_in (ceiling_of ed) s a 0 most_sagas BadCount t.sagas b f₂ (omega arith) well.listed,
        sagas,
      )
      (rest-accepted (ceiling_of ed) s t well m x (sagas_from (ceiling_of ed) s t.sagas b 0 empty_tables).tables steps (made.same_count ∙ empty-declared) (ap length made.same_entries ∙ empty-entries) parts.2)

-- ---- tables with the same fields are the same tables

entries-same : (xs ys : List Dependency) → entries_fields xs ≡ entries_fields ys → xs ≡ ys
unfolding entries_fields
entries-same [] [] e = refl
entries-same [] (y ∷ ys) e = absurd (omega (arith, ap length e))
entries-same (x ∷ xs) [] e = absurd (omega (arith, ap length e))
entries-same (x ∷ xs) (y ∷ ys) e =
    let kinds : x.kind ≡ y.kind = sym (kind-again x.kind) ∙ ap (λ (l : List ℕ). kind_of (get_or l 2 0)) e ∙ kind-again y.kind in
    let first : x ≡ y = same-entry (ap (λ (l : List ℕ). get_or l 0 0) e) (ap (λ (l : List ℕ). get_or l 1 0) e) kinds in
    ap₂ (λ (z : Dependency) (l : List Dependency). z ∷ l) first (entries-same xs ys (ap (drop 3) e))
  where
    same-entry : {d d' b b' : ℕ} {k k' : Kind} → d ≡ d' → b ≡ b' → k ≡ k'
        → ◌≡◌ {A = Dependency} (record { dependent = d; base = b; kind = k }) (record { dependent = d'; base = b'; kind = k' })
    same-entry p q r = cc

module _ (ed : Edition) (t u : Tables) (wt : Well t) (wu : Well u) (same : table_fields ed u ≡ table_fields ed t) where
  abbrev counts : Tables → List ℕ
  counts x = x.plain ∷ x.objects ∷ x.declared ∷ entries_fields (declared_of x)

  same_tables : SameTables u t
  same_tables =
      let sagas : u.sagas ≡ t.sagas = ap (λ (l : List ℕ). get_or l 1 0) same in
      let rest : sagas_of u ++ counts u ≡ sagas_of t ++ counts t = ap (drop 2) same in
      let n = t.sagas in
      let long : length (sagas_of u) ≡ n = steps-many u wu ∙ sagas in
      let later : counts u ≡ counts t = sym (drop_at (sagas_of u) (counts u) n long) ∙ ap (drop n) rest ∙ drop_at (sagas_of t) (counts t) n (steps-many t wt) in
      record {
        sagas = sagas;
        steps = sym (take_at (sagas_of u) (counts u) n long) ∙ ap (take n) rest ∙ take_at (sagas_of t) (counts t) n (steps-many t wt);
        plain = ap (λ (l : List ℕ). get_or l 0 0) later;
        objects = ap (λ (l : List ℕ). get_or l 1 0) later;
        declared = ap (λ (l : List ℕ). get_or l 2 0) later;
        entries = entries-same (declared_of u) (declared_of t) (ap (drop 3) later);
      }

  same-entry-at : (i : ℕ) → i < u.declared → dependency_at u i ≡ dependency_at t i
  same-entry-at i h =
      let q = same_tables.declared in
      sym (get_or-take u.declared u.dependencies i no_dependency h)
      ∙ ap (λ (l : List Dependency). get_or l i no_dependency) same_tables.entries
      ∙ get_or-take t.declared t.dependencies i no_dependency (omega arith)

  same-link : (a b : ℕ) → begin_link u a b ≡ begin_link t a b
  unfolding begin_link
  same-link a b =
      let many : dependency_count u ≡ dependency_count t = ap (λ (n : ℕ). min n most_dependencies) same_tables.declared in
      any_same (dependency_count u) (λ i. waits_by (dependency_at u i) a b) (λ i. waits_by (dependency_at t i) a b) (λ i h. ap (λ (x : Dependency). waits_by x a b) (same-entry-at i (omega arith)))
      ∙ ap (λ (n : ℕ). any_below n (λ i. waits_by (dependency_at t i) a b)) many

  same-round : GoesRound u → GoesRound t
  same-round g = (g.0, leads-more (λ a b h. sym (same-link a b) ∙ h) g.1)

-- ---- accepted as themselves

module _ (ed : Edition) (s : List ℕ) (t : Tables) (well : Well t) (x : ℕ) (fields : Passes (ceiling_of ed) s 0 (table_fields ed t) x) where
  abbrev read : Tables
  read = (tables_by Permitted ed s).tables

  answer : (tables_by Permitted ed s).answer ≡ Ok x
  answer = tables-accepted ed s t well x fields

  well-read : Well read
  well-read = accepted-well Permitted ed s x answer

  fields_read : table_fields ed read ≡ table_fields ed t
  fields_read = pass_same (ceiling_of ed) s (tables-pass ed s x Permitted answer) fields

  pub back-permitted : ((tables_by Permitted ed s).answer ≡ Ok x) × SameTables read t
  back-permitted = (answer, same_tables ed t read well well-read fields_read)

  pub back-forbidden : (GoesRound t → ⊥) → ((tables_by Forbidden ed s).answer ≡ Ok x) × SameTables (tables_by Forbidden ed s).tables t
  back-forbidden none =
      let same = (never-moves-refused ed s).no_circle x answer (λ g. none (same-round ed t read well well-read fields_read g)) in
      subst⁻¹ (λ (r : TablesRead). (r.answer ≡ Ok x) × SameTables r.tables t) same back-permitted
