-- Reading the tables, in the code's own terms: one law for each way to go on or to stop.
use Prim.Native.Nat.{ℕ, suc, ◌+◌, ◌-◌, ◌*◌, ◌≤◌, ◌<◌}
use mathlib.Core.Path.{◌≡◌, refl, ap}
use mathlib.Core.Bool.{true, false}
use mathlib.Core.List.{List}
use lib.ListN.{set}
use borrow.Author.Tests.{lt-ltb, le-ltb}
use Rattle.terms.specs.Limits.{most_sagas, most_steps, most_transactions, most_objects, most_dependencies}
use Rattle.terms.specs.declared.Refusal.{Refusal}
use Rattle.terms.specs.declared.Refusal.TheVariants.{BadCount, BadDependency}
use Rattle.number.specs.declared.Edition.{Edition}
use Rattle.number.specs.Number.{ceiling_of, number_within, fault}
use Rattle.tables.specs.declared.Circles.{Circles}
use Rattle.tables.specs.declared.Tables.{Tables}
use Rattle.tables.specs.declared.Kind.{Kind}
use Rattle.tables.specs.declared.SagasRead.{SagasRead}
use Rattle.tables.specs.Dependencies.{kind_of, entry_holds}
use Rattle.tables.specs.Reading.{empty_tables, sagas_stopped, sagas_from, refused, entry_at, dependencies_from, with_counts, unless_circle, rest_from, edition_field, tables_by, EntryRead, declares}
use Rattle.std.specs.Prelude.{Ok, Err}
use Rattle.tables.specs.declared.Entry.{Entry}

-- ---- two entries that are equal have equal parts

abbrev entry_in : Entry × ℕ → EntryRead → Entry × ℕ
entry_in other (Ok x) = x
entry_in other (Err f) = other

pub entry-parts : {d b k p e c l q : ℕ} → declares d b k p ≡ declares e c l q → (d ≡ e) × (b ≡ c) × (k ≡ l) × (p ≡ q)
entry-parts {d = d} {b = b} {k = k} {p = p} h =
    let x = ap (entry_in (record { dependent = d; base = b; kind = k }, p)) h in (
      ap (λ (y : Entry × ℕ). y.0.dependent) x,
      ap (λ (y : Entry × ℕ). y.0.base) x,
      ap (λ (y : Entry × ℕ). y.0.kind) x,
      ap (λ (y : Entry × ℕ). y.1) x,
    )

-- ---- the sagas

-- as the code writes it: the place of the new saga is a local
abbrev pub with_saga_at : Tables → ℕ → ℕ → Tables
with_saga_at t i n =
    record { sagas = i + 1; steps = set t.steps i n; plain = t.plain; objects = t.objects; dependencies = t.dependencies; declared = t.declared }

pub sagas-none : empty_tables.sagas ≡ 0
unfolding empty_tables
sagas-none = refl

module _ (cap : ℕ) (s : List ℕ) (at sum : ℕ) (t : Tables) where
  pub sagas-end : (k : ℕ) → k ≡ 0 → sagas_from cap s k at sum t ≡ record { answer = Ok (sum, at); tables = t }
  unfolding sagas_from
  sagas-end k e = rw e

  module _ (k j : ℕ) (e : k ≡ suc j) where
    pub sagas-stop : (r : Refusal) (p : ℕ) → number_within cap s at 1 most_steps BadCount ≡ fault r p → sagas_from cap s k at sum t ≡ sagas_stopped r p
    unfolding sagas_from
    sagas-stop r p f = rw (e, f)

    module _ (n next : ℕ) (f : number_within cap s at 1 most_steps BadCount ≡ Ok (n, next)) where
      pub sagas-large : most_transactions < sum + 2 * n → sagas_from cap s k at sum t ≡ sagas_stopped BadCount at
      unfolding sagas_from
      sagas-large h = rw (e, f, lt-ltb most_transactions (sum + 2 * n) h)

      pub sagas-more : (i : ℕ) → t.sagas ≡ i → sum + 2 * n ≤ most_transactions
          → sagas_from cap s k at sum t ≡ sagas_from cap s j next (sum + 2 * n) (with_saga_at t i n)
      unfolding sagas_from
      sagas-more i q h =
          rw (e, f, le-ltb most_transactions (sum + 2 * n) h) (ap (λ (x : ℕ). sagas_from cap s j next (sum + 2 * n) (with_saga_at t x n)) q)

-- ---- the dependencies

abbrev pub with_entry_at : Tables → ℕ → ℕ → ℕ → Kind → Tables
with_entry_at t i d b k =
    record {
      sagas = t.sagas;
      steps = t.steps;
      plain = t.plain;
      objects = t.objects;
      dependencies = set t.dependencies i (record { dependent = d; base = b; kind = k });
      declared = i + 1;
    }

module _ (cap : ℕ) (s : List ℕ) (n at : ℕ) (t : Tables) where
  pub entries-end : (k : ℕ) → k ≡ 0 → dependencies_from cap s n k at t ≡ record { answer = Ok at; tables = t }
  unfolding dependencies_from
  entries-end k e = rw e

  module _ (k j : ℕ) (e : k ≡ suc j) where
    pub entries-stop : (r : Refusal) (p : ℕ) → entry_at cap s at ≡ fault r p → dependencies_from cap s n k at t ≡ refused r p
    unfolding dependencies_from
    entries-stop r p f = rw (e, f)

    module _ (d b kind next : ℕ) (f : entry_at cap s at ≡ declares d b kind next) where
      -- refused at the place p, which is the entry's own
      pub entries-bad : (p : ℕ) → entry_holds t n d b kind ≡ false → p ≡ at → dependencies_from cap s n k at t ≡ refused BadDependency p
      unfolding dependencies_from
      entries-bad p h q = rw (e, f, h, q)

      pub entries-more : (i : ℕ) (m : Kind) → t.declared ≡ i → m ≡ kind_of kind → entry_holds t n d b kind ≡ true
          → dependencies_from cap s n k at t ≡ dependencies_from cap s n j next (with_entry_at t i d b m)
      unfolding dependencies_from
      entries-more i m q g h =
          rw (e, f, h, g) (ap (λ (x : ℕ). dependencies_from cap s n j next (with_entry_at t x d b (kind_of kind))) q)

-- ---- the whole: as it goes on from field to field

module _ (circles : Circles) (cap : ℕ) (s : List ℕ) (at sum : ℕ) (t : Tables) where
  pub rest4 : (v x : ℕ) → number_within cap s at 0 (most_transactions - sum) BadCount ≡ Ok (v, x) → (m y : ℕ) → number_within cap s x 0 most_objects BadCount ≡ Ok (m, y)
      → (k z : ℕ) → number_within cap s y 0 most_dependencies BadCount ≡ Ok (k, z)
      → unless_circle circles y (dependencies_from cap s (sum + v) k z (with_counts t v m)) ≡ rest_from circles cap s at sum t
  unfolding rest_from
  rest4 v x a m y b k z e = rw (a, b, e)

module _ (circles : Circles) (ed : Edition) (s : List ℕ) where
  pub all4 : (v x : ℕ) → edition_field ed s ≡ Ok (v, x) → (g y : ℕ) → number_within (ceiling_of ed) s x 0 most_sagas BadCount ≡ Ok (g, y)
      → (read : SagasRead) → read ≡ sagas_from (ceiling_of ed) s g y 0 empty_tables → (sum z : ℕ) → read.answer ≡ Ok (sum, z)
      → rest_from circles (ceiling_of ed) s z sum read.tables ≡ tables_by circles ed s
  unfolding tables_by
  all4 v x a g y b read q sum z f = rw (a, b, ← q, f)
