-- Tables that reading accepts are well formed: one induction over the sagas read, one over the entries read.
use Prim.Native.Nat.{ℕ, zero, suc, ◌+◌, ◌-◌, ◌*◌, ◌≤◌, ◌<◌}
use native.Mathlib.Omega.{arith}
use native.Mathlib.Numerals.{add-one}
use mathlib.Core.Logic.{◌≢◌}
use mathlib.Core.Path.{◌≡◌, refl, ap, ◌∙◌, subst⁻¹}
use mathlib.Core.Bool.{true}
use mathlib.Core.List.{List}
use lib.ListN.{length, get_or, take, set, length-set, length-replicate}
use lib.Seq.{get_or-set_same, get_or-set_other, take-suc-set}
use borrow.Author.Tests.{ne_eqb}
use Rattle.laws.proofs.Decisions.{same_or}
use Rattle.terms.specs.Limits.{most_sagas, most_steps, most_transactions, most_objects, most_dependencies}
use Rattle.terms.specs.declared.Refusal.TheVariants.{BadCount}
use Rattle.number.specs.Number.{ceiling_of}
use Rattle.number.proofs.Spelling.{no_value, value-parts}
use Rattle.number.proofs.FieldLaws.{within-range, within-next}
use Rattle.tables.specs.declared.Circles.{Circles}
use Rattle.tables.specs.declared.Dependency.{Dependency}
use Rattle.tables.specs.declared.Tables.{Tables}
use Rattle.tables.specs.declared.SagasRead.{SagasRead}
use Rattle.tables.specs.declared.TablesRead.{TablesRead}
use Rattle.tables.specs.Sorts.{sort_of, owned_by, number_of_all}
use Rattle.tables.specs.Dependencies.{kind_number, kind_of, no_dependency, dependency_at, allowed, rises_from, rises_to, entry_holds}
use Rattle.tables.specs.Reading.{empty_tables, with_saga, sagas_from, with_entry, dependencies_from, with_counts, rest_from}
use Rattle.tables.specs.Accepted.{Well, AcceptedWell}
use Rattle.tables.proofs.KindLaws.{kind-back}
use Rattle.tables.proofs.DependencyLaws.{on-allowed, on-holds}
use Rattle.tables.proofs.SortLaws.{owned-snoc}
use Rattle.tables.proofs.WayLaws.{no_read, sagas-next, by-circle, by-saga, by-entry, by-rest, by-tables}
use Rattle.std.specs.Prelude.{Ok}

-- i is the last, or one before it
last_or : {A : Type 0} (i m : ℕ) → i < m + 1 → (i ≡ m → A) → (i < m → A) → A
last_or i m h f g = same_or i m f (λ q. g (omega arith))

-- ---- the sagas read so far, k still to come

pub record Sagas (k sum : ℕ) (t : Tables) : Type 0 where
  pub few : t.sagas + k ≤ most_sagas
  pub size : length t.steps ≡ most_sagas
  pub fits : sum ≤ most_transactions
  pub owned : owned_by (take t.sagas t.steps) ≡ sum
  pub stepped : (i : ℕ) → i < t.sagas → (1 ≤ get_or t.steps i 0) × (get_or t.steps i 0 ≤ most_steps)
  pub bare : t.declared ≡ 0
  pub room : length t.dependencies ≡ most_dependencies

sagas-step : (k sum n : ℕ) (t : Tables) → Sagas (suc k) sum t → 1 ≤ n → n ≤ most_steps → sum + 2 * n ≤ most_transactions
    → Sagas k (sum + 2 * n) (with_saga t n)
sagas-step k sum n t h l m f =
    let i = t.sagas in
    let in-range : i < length t.steps = omega (arith, h.few, h.size) in
    record {
      few = omega (arith, h.few);
      size = length-set t.steps i n ∙ h.size;
      fits = f;
      owned =
          ap owned_by (ap (λ (x : ℕ). take x (set t.steps i n)) (add-one i) ∙ take-suc-set t.steps i n in-range)
          ∙ owned-snoc (take i t.steps) n
          ∙ ap (λ (x : ℕ). x + 2 * n) h.owned;
      stepped =
          λ j b.
          last_or j i b
          (λ e. rw (e, get_or-set_same t.steps i n 0 in-range) (l, m))
          (λ g. let ne : j ≢ i = omega arith in rw (get_or-set_other t.steps i j n 0 ne) (h.stepped j g));
      bare = h.bare;
      room = h.room;
    }

none_read : (k : ℕ) → k ≤ most_sagas → Sagas k 0 empty_tables
unfolding empty_tables owned_by
none_read k h =
    record {
      few = omega arith;
      size = refl;
      fits = omega arith;
      owned = refl;
      stepped = λ i b. absurd (omega arith);
      bare = refl;
      room = length-replicate most_dependencies no_dependency;
    }

module _ (cap : ℕ) (s : List ℕ) where
  sagas-all : (k at sum : ℕ) (t : Tables) (v p : ℕ) → at ≤ length s → Sagas k sum t → (sagas_from cap s k at sum t).answer ≡ Ok (v, p)
      → Sagas 0 v (sagas_from cap s k at sum t).tables
  unfolding sagas_from
  sagas-all zero at sum t v p b h e = rw (value-parts e).0 at h
  sagas-all (suc k) at sum t v p b h e =
      by-saga cap s k at sum t (λ (r : SagasRead). r.answer ≡ Ok (v, p) → Sagas 0 v r.tables) b
      (λ r q f. no_value)
      (λ n next f l g.
      let r = within-range cap s at 1 most_steps BadCount n next f in
      sagas-all k next (sum + 2 * n) (with_saga t n) v p (within-next cap s at 1 most_steps BadCount n next f).1
      (sagas-step k sum n t h r.0 r.1 l) g)
      e

  pub sagas-read : (k at v p : ℕ) → k ≤ most_sagas → at ≤ length s → (sagas_from cap s k at 0 empty_tables).answer ≡ Ok (v, p)
      → Sagas 0 v (sagas_from cap s k at 0 empty_tables).tables
  sagas-read k at v p h b e = sagas-all k at 0 empty_tables v p b (none_read k h) e

-- ---- the entries read so far, k still to come

record Entries (n k : ℕ) (t : Tables) : Type 0 where
  -- what the entries leave as it is
  listed : t.sagas ≤ most_sagas
  stepped : (i : ℕ) → i < t.sagas → (1 ≤ get_or t.steps i 0) × (get_or t.steps i 0 ≤ most_steps)
  number : number_of_all t ≡ n
  fits : n ≤ most_transactions
  objects : t.objects ≤ most_objects
  -- the entries
  room : length t.dependencies ≡ most_dependencies
  few : t.declared + k ≤ most_dependencies
  permitted : (i : ℕ) → i < t.declared
      → allowed t n (dependency_at t i).dependent (dependency_at t i).base (kind_number (dependency_at t i).kind) ≡ true
  rising : (i : ℕ) → i + 1 < t.declared
      → rises_from (dependency_at t i) (dependency_at t (i + 1)).dependent (dependency_at t (i + 1)).base (kind_number (dependency_at t (i + 1)).kind) ≡ true

-- an entry that rises stands after the last one
rises-last : (t : Tables) (d b kind i : ℕ) → rises_to t d b kind ≡ true → t.declared ≡ i + 1 → rises_from (dependency_at t i) d b kind ≡ true
unfolding rises_to
rises-last t d b kind i h e =
    let ne : t.declared ≡ 0 → ⊥ = omega arith in
    let l : t.declared - 1 ≡ i = omega arith in
    rw (ne_eqb t.declared 0 ne, l) at h

module _ (n k d b kind : ℕ) (t : Tables) (h : Entries n (suc k) t) (e : entry_holds t n d b kind ≡ true) where
  abbrev new : Dependency
  new = record { dependent = d; base = b; kind = kind_of kind }

  as-declared : kind_number (kind_of kind) ≡ kind
  as-declared = let a = on-allowed t n d b kind (on-holds t n d b kind e).0 in kind-back kind a.kind_low a.kind_high

  as-new : dependency_at (with_entry t d b kind) t.declared ≡ new
  as-new = get_or-set_same t.dependencies t.declared new no_dependency (omega (arith, h.few, h.room))

  as_before : (i : ℕ) → i < t.declared → dependency_at (with_entry t d b kind) i ≡ dependency_at t i
  as_before i l =
      let ne : i ≢ t.declared = omega arith in
      get_or-set_other t.dependencies t.declared i new no_dependency ne

  abbrev OfEntry : Dependency → Type 0
  OfEntry x = allowed t n x.dependent x.base (kind_number x.kind) ≡ true

  abbrev Following : Dependency → Dependency → Type 0
  Following x y = rises_from x y.dependent y.base (kind_number y.kind) ≡ true

  entries-step : Entries n k (with_entry t d b kind)
  unfolding sort_of
  entries-step =
      record {
        listed = h.listed;
        stepped = h.stepped;
        number = h.number;
        fits = h.fits;
        objects = h.objects;
        room = length-set t.dependencies t.declared new ∙ h.room;
        few = omega (arith, h.few);
        permitted =
            λ i l.
            last_or i t.declared l
            (λ q.
            subst⁻¹ OfEntry (ap (dependency_at (with_entry t d b kind)) q ∙ as-new)
            (subst⁻¹ (λ (x : ℕ). allowed t n d b x ≡ true) as-declared (on-holds t n d b kind e).0))
            (λ q. subst⁻¹ OfEntry (as_before i q) (h.permitted i q));
        rising =
            λ i l.
            subst⁻¹ (λ (x : Dependency). Following x (dependency_at (with_entry t d b kind) (i + 1))) (as_before i (omega arith))
            (last_or (i + 1) t.declared l
            (λ q.
            subst⁻¹ (Following (dependency_at t i)) (ap (dependency_at (with_entry t d b kind)) q ∙ as-new)
            (subst⁻¹ (λ (x : ℕ). rises_from (dependency_at t i) d b x ≡ true) as-declared
            (rises-last t d b kind i (on-holds t n d b kind e).1 (omega arith))))
            (λ q. subst⁻¹ (Following (dependency_at t i)) (as_before (i + 1) q) (h.rising i q)));
      }

entries-well : (n : ℕ) (t : Tables) → Entries n 0 t → Well t
entries-well n t h =
    record {
      listed = h.listed;
      stepped = h.stepped;
      fits = omega (arith, h.number, h.fits);
      objects = h.objects;
      declared = omega (arith, h.few);
      permitted =
          subst⁻¹
          (λ (x : ℕ). (i : ℕ) → i < t.declared
          → allowed t x (dependency_at t i).dependent (dependency_at t i).base (kind_number (dependency_at t i).kind) ≡ true)
          h.number h.permitted;
      rising = h.rising;
    }

counts-read : (sum p m k : ℕ) (t : Tables) → Sagas 0 sum t → p ≤ most_transactions - sum → m ≤ most_objects → k ≤ most_dependencies
    → Entries (sum + p) k (with_counts t p m)
counts-read sum p m k t h a b l =
    record {
      listed = omega (arith, h.few);
      stepped = h.stepped;
      number = ap (λ (x : ℕ). x + p) h.owned;
      fits = omega (arith, h.fits);
      objects = b;
      room = h.room;
      few = omega (arith, h.bare);
      permitted = λ i q. absurd (omega (arith, h.bare));
      rising = λ i q. absurd (omega (arith, h.bare));
    }

-- ---- the whole

abbrev WellRead : ℕ → TablesRead → Type 0
WellRead x r = r.answer ≡ Ok x → Well r.tables

module _ (cap : ℕ) (s : List ℕ) (x : ℕ) where
  entries-all : (n k at : ℕ) (t : Tables) → at ≤ length s → Entries n k t → WellRead x (dependencies_from cap s n k at t)
  unfolding dependencies_from
  entries-all n zero at t b h = λ e. entries-well n t h
  entries-all n (suc k) at t b h =
      by-entry cap s n k at t (WellRead x) b
      (λ r p f. no_read)
      (λ d b kind next f l e. entries-all n k next (with_entry t d b kind) l (entries-step n k d b kind t h e))

  rest-well : (circles : Circles) (at sum : ℕ) (t : Tables) → at ≤ length s → Sagas 0 sum t → WellRead x (rest_from circles cap s at sum t)
  rest-well circles at sum t b h =
      by-rest cap s circles at sum t (WellRead x) b
      (λ r p f. no_read)
      (λ p m k y z w f₁ f₂ f₃.
      by-circle circles z _ (WellRead x) (λ f. no_read)
      (λ kept.
      let r₁ = within-range cap s at 0 (most_transactions - sum) BadCount p y f₁ in
      let r₂ = within-range cap s y 0 most_objects BadCount m z f₂ in
      let r₃ = within-range cap s z 0 most_dependencies BadCount k w f₃ in
      entries-all (sum + p) k w (with_counts t p m) (within-next cap s z 0 most_dependencies BadCount k w f₃).1
      (counts-read sum p m k t h r₁.1 r₂.1 r₃.1)))

pub accepted-well : AcceptedWell
accepted-well circles ed s x =
    by-tables ed s circles (WellRead x)
    (λ r p f. no_read)
    (λ v g y z sum w f₁ f₂ f₃.
    let b = (within-next (ceiling_of ed) s y 0 most_sagas BadCount g z f₂).1 in
    let c = sagas-next (ceiling_of ed) s g z 0 empty_tables sum w b f₃ in
    rest-well (ceiling_of ed) s x circles w sum (sagas_from (ceiling_of ed) s g z 0 empty_tables).tables c.1
    (sagas-read (ceiling_of ed) s g z sum w (within-range (ceiling_of ed) s y 0 most_sagas BadCount g z f₂).1 b f₃))
