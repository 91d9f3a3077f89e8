-- The begin dependencies entry by entry: the sets of those that each begin waits for.
use Prim.Native.Nat.{ℕ, ◌+◌, ◌<◌, min}
use native.Mathlib.Omega.{arith}
use mathlib.Core.Path.{◌≡◌, refl, sym, ap, ap₂, ◌∙◌}
use mathlib.Core.Bool.{Bool, true, false, ◌&&◌, ◌||◌, or-false}
use mathlib.Core.List.{List}
use lib.Dec.{eqb, ltb}
use lib.ListN.{length, get_or, set}
use lib.Seq.{get_or-set_same, get_or-set_other}
use borrow.Author.Tests.{eqb-true, eq-eqb, ne_eqb, ltb-true, ltb-false}
use Rattle.laws.specs.Index.{any_below}
use Rattle.laws.proofs.Bools.{bool_cases, on_and, and-rest, together}
use Rattle.laws.proofs.Decisions.{same_or}
use Rattle.laws.proofs.IndexLaws.{any_none, any-more, any_same, any-intro, any-elim, search-end}
use Rattle.terms.specs.Limits.{most_transactions, most_dependencies}
use Rattle.sets.specs.Sets.{mem, inserted}
use Rattle.sets.proofs.SetLaws.{mem-empty, mem-inserted-small}
use Rattle.sets.proofs.RowLaws.{Holds, in_row}
use Rattle.sets.proofs.ReachLaws.{leads-same, among-small, among-on, computed-leads}
use Rattle.sets.specs.Reach.{Leads, among, leads_to}
use Rattle.tables.specs.Accepted.{Well}
use Rattle.tables.specs.Circles.{is_begin_kind, waits_by, begin_link, has_circle}
use Rattle.tables.specs.Dependencies.{dependency_at, kind_number}
use Rattle.tables.specs.Sorts.{number_of_all}
use Rattle.tables.proofs.DependencyLaws.{on-allowed}
use Rattle.tables.specs.declared.Dependency.{Dependency}
use Rattle.tables.specs.declared.Tables.{Tables}

-- by one of the first n entries the begin of d waits for b
abbrev pub linked_by : Tables → ℕ → ℕ → ℕ → Bool
linked_by tables n d b = any_below n (λ i. waits_by (dependency_at tables i) d b)

-- ---- one entry

module _ (x : Dependency) (d b : ℕ) where
  -- another's
  waits-other : (x.dependent ≡ d → ⊥) → waits_by x d b ≡ false
  waits-other e = rw (ne_eqb x.dependent d e) (and_no (is_begin_kind x.kind))
    where
      and_no : (t : Bool) → (t && false) ≡ false
      and_no true = refl
      and_no false = refl

  -- d's own, of a begin kind
  waits-own : is_begin_kind x.kind ≡ true → x.dependent ≡ d → eqb b x.base ≡ waits_by x d b
  waits-own h e =
      rw (h, eq-eqb x.dependent d e)
      (same_or b x.base (λ q. eq-eqb b x.base q ∙ sym (eq-eqb x.base b (sym q))) (λ q. ne_eqb b x.base q ∙ sym (ne_eqb x.base b (λ r. q (sym r)))))

-- ---- the sets, when the first i entries are in them

pub links-none : (tables : Tables) (rows : List ℕ) → ((d : ℕ) → get_or rows d 0 ≡ 0) → Holds rows (linked_by tables 0)
links-none tables rows z d b l m = ap (λ (x : ℕ). mem x b) (z d) ∙ mem-empty b ∙ sym (any_none (λ i. waits_by (dependency_at tables i) d b))

pub links-all : (tables : Tables) (rows : List ℕ) (n : ℕ) → n ≡ min tables.declared most_dependencies → Holds rows (linked_by tables n) → Holds rows (begin_link tables)
unfolding begin_link
links-all tables rows n e h d b l m = h d b l m ∙ ap (λ (k : ℕ). linked_by tables k d b) e

module _ (tables : Tables) (i : ℕ) (rows : List ℕ) (h : Holds rows (linked_by tables i)) where
  abbrev entry : Dependency
  entry = dependency_at tables i

  more : (d b : ℕ) → (linked_by tables i d b || waits_by entry d b) ≡ linked_by tables (i + 1) d b
  more d b = sym (any-more i (λ j. waits_by (dependency_at tables j) d b))

  -- entry i is of a begin kind
  pub links-in : length rows ≡ most_transactions → (is_begin_kind entry.kind && ltb entry.dependent most_transactions) ≡ true
      → Holds (set rows entry.dependent (inserted (get_or rows entry.dependent 0) entry.base)) (linked_by tables (i + 1))
  links-in full e d b l m =
      let both = on_and (is_begin_kind entry.kind) (ltb entry.dependent most_transactions) e in
      let low = ltb-true entry.dependent most_transactions both.1 in
      same_or d entry.dependent
      (λ q.
      rw (q, get_or-set_same rows entry.dependent (inserted (get_or rows entry.dependent 0) entry.base) 0 (omega arith))
      (mem-inserted-small (get_or rows entry.dependent 0) entry.base b m
      ∙ ap₂ (λ (u v : Bool). u || v) (h entry.dependent b low m) (waits-own entry entry.dependent b both.0 refl)
      ∙ more entry.dependent b))
      (λ q.
      rw (get_or-set_other rows entry.dependent d (inserted (get_or rows entry.dependent 0) entry.base) 0 q) (stays d b l m (λ r. q (sym r))))
    where
      stays : (d b : ℕ) → d < most_transactions → b < most_transactions → (entry.dependent ≡ d → ⊥) → mem (get_or rows d 0) b ≡ linked_by tables (i + 1) d b
      stays d b l m q = h d b l m ∙ sym (or-false (linked_by tables i d b)) ∙ ap (λ (v : Bool). linked_by tables i d b || v) (sym (waits-other entry d b q)) ∙ more d b

  -- it is not, or its dependent is no transaction
  pub links-out : (is_begin_kind entry.kind && ltb entry.dependent most_transactions) ≡ false → Holds rows (linked_by tables (i + 1))
  links-out e d b l m =
      h d b l m ∙ sym (or-false (linked_by tables i d b)) ∙ ap (λ (v : Bool). linked_by tables i d b || v) (sym off) ∙ more d b
    where
      off : waits_by entry d b ≡ false
      off =
          bool_cases (is_begin_kind entry.kind)
          (λ k.
          let far = ltb-false entry.dependent most_transactions (and-rest (is_begin_kind entry.kind) (ltb entry.dependent most_transactions) e k) in
          waits-other entry d b (λ q. omega arith))
          (λ k. rw k)

-- ---- the links followed on

-- a link is some entry's
pub linked-entry : (tables : Tables) (d b : ℕ) → begin_link tables d b ≡ true
    → (i : ℕ) × (i < min tables.declared most_dependencies) × (waits_by (dependency_at tables i) d b ≡ true)
unfolding begin_link
linked-entry tables d b h = any-elim (min tables.declared most_dependencies) (λ i. waits_by (dependency_at tables i) d b) h

-- what an entry of a begin kind says of its two
pub waits-parts : (x : Dependency) (d b : ℕ) → waits_by x d b ≡ true → (is_begin_kind x.kind ≡ true) × (x.dependent ≡ d) × (x.base ≡ b)
waits-parts x d b h =
    let k = on_and (is_begin_kind x.kind) (eqb x.dependent d && eqb x.base b) h in
    let e = on_and (eqb x.dependent d) (eqb x.base b) k.1 in
    (k.0, eqb-true x.dependent d e.0, eqb-true x.base b e.1)

-- whoever is led back to itself is the dependent of an entry
module _ (tables : Tables) where
  abbrev back : ℕ → Bool
  back t = leads_to most_transactions (begin_link tables) t t

  pub first_entry : (t c : ℕ) → begin_link tables t c ≡ true
      → (i : ℕ) × (i < min tables.declared most_dependencies) × ((dependency_at tables i).dependent ≡ t)
  first_entry t c h =
      let r = linked-entry tables t c h in
      (r.0, r.1, (waits-parts (dependency_at tables r.0) t c r.2).1)

  pub back-small : (t : ℕ) → back t ≡ true → (t < most_transactions) × (c : ℕ) × (begin_link tables t c ≡ true)
  back-small t h = go (computed-leads most_transactions (begin_link tables) t t h)
    where
      go : {b : ℕ} → Leads (among most_transactions (begin_link tables)) t b → (t < most_transactions) × (c : ℕ) × (begin_link tables t c ≡ true)
      go {b} (Leads.last e) = ((among-small most_transactions (begin_link tables) t b e).0, b, among-on most_transactions (begin_link tables) t b e)
      go (Leads.step {b = c} e w) = ((among-small most_transactions (begin_link tables) t c e).0, c, among-on most_transactions (begin_link tables) t c e)

  pub back-stuck : any_below most_transactions back ≡ has_circle tables
  unfolding has_circle
  back-stuck =
      together (any_below most_transactions back) (any_below n (λ i. back (dependency_at tables i).dependent))
      (λ h.
      let r = any-elim most_transactions back h in
      let q = back-small r.0 r.2 in
      let i = first_entry r.0 q.1 q.2 in
      any-intro n (λ i. back (dependency_at tables i).dependent) i.0 i.1 (ap back i.2 ∙ r.2))
      (λ h.
      let r = any-elim n (λ i. back (dependency_at tables i).dependent) h in
      any-intro most_transactions back (dependency_at tables r.0).dependent (back-small (dependency_at tables r.0).dependent r.2).0 r.2)
    where
      n : ℕ
      n = min tables.declared most_dependencies

-- some set has its own transaction
pub own_in : (tables : Tables) (links rows : List ℕ) → Holds links (begin_link tables) → Holds rows (leads_to most_transactions (in_row links))
    → any_below most_transactions (λ t. in_row rows t t) ≡ has_circle tables
own_in tables links rows g h =
    any_same most_transactions (λ t. in_row rows t t) (λ t. leads_to most_transactions (begin_link tables) t t)
    (λ t l. h t t l l ∙ leads-same most_transactions (in_row links) (begin_link tables) g t t)
    ∙ back-stuck tables

-- in well formed tables a link is between transactions
pub linked-small : (tables : Tables) → Well tables → (d b : ℕ) → begin_link tables d b ≡ true → (d < most_transactions) × (b < most_transactions)
linked-small tables w d b h =
    let r = linked-entry tables d b h in
    let x = dependency_at tables r.0 in
    let e = waits-parts x d b r.2 in
    let a = on-allowed tables (number_of_all tables) x.dependent x.base (kind_number x.kind) (w.permitted r.0 (omega (arith, r.1))) in
    (omega (arith, a.dependent-known, e.1, w.fits), omega (arith, a.base-known, e.2, w.fits))

-- where nothing is declared nothing leads back
pub none-circle : (tables : Tables) → tables.declared ≡ 0 → false ≡ has_circle tables
unfolding has_circle
none-circle tables e = search-end _ (min tables.declared most_dependencies) 0 (any_none _) (omega arith)
