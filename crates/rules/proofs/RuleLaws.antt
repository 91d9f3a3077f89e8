-- Saga rules, declared dependencies and active undos, in the terms in which the code finds them.
use Prim.Native.Nat.{ℕ, zero, suc, ◌-◌, min}
use native.Mathlib.Omega.{arith}
use mathlib.Core.Path.{◌≡◌, refl, sym, ap, ◌∙◌, fun_ext}
use mathlib.Core.Bool.{Bool, false, ◌&&◌}
use mathlib.Core.Logic.{◌≢◌}
use mathlib.Core.List.{List}
use lib.Dec.{ltb}
use borrow.Author.Tests.{lt-ltb, eq-eqb, ne_eqb}
use Rattle.laws.specs.Index.{any_below}
use Rattle.laws.proofs.Bools.{and-off, clash, off-or}
use Rattle.laws.proofs.Decisions.{lt-or}
use Rattle.laws.proofs.IndexLaws.{any-off, any_same}
use Rattle.terms.specs.Limits.{most_transactions, most_dependencies}
use Rattle.sets.specs.Reach.{leads_to}
use Rattle.sets.specs.Sets.{mem, set_of}
use Rattle.sets.proofs.SetLaws.{mem-empty, mem-set-of, set-of-rest}
use Rattle.ties.specs.Ties.{ring_with}
use Rattle.tables.specs.Counts.{dependency_count}
use Rattle.tables.specs.Dependencies.{dependency_at}
use Rattle.tables.specs.Sorts.{sort_of, is_undo}
use Rattle.tables.proofs.SortLaws.{undo-owned}
use Rattle.tables.specs.declared.Dependency.{Dependency}
use Rattle.tables.specs.declared.Sort.{Sort}
use Rattle.tables.specs.declared.Tables.{Tables}
use Rattle.sheet.specs.Sheet.{Holds, declared_on, dependency_on, owned_on}
use Rattle.rules.specs.Rules.{active_undo, active_undos, undo_on, declared_bars, barred_by, kind_bars}
use Rattle.rules.specs.States.{is_active, phase_of}
use Rattle.rules.specs.declared.Phase.{Phase}
use Rattle.rules.specs.declared.Transaction.{Transaction}

-- ---- one declared dependency d

module _ (begins : Bool) (ts : List Transaction) (t : ℕ) (d : Dependency) where
  -- it says nothing of another transaction
  pub other-dependent : d.dependent ≢ t → false ≡ barred_by begins ts t d
  other-dependent h = rw (ne_eqb d.dependent t h)

  -- of t it says what its kind says: p is the phase found for its base, b what the test of its kind says
  pub own-dependent : {p : Phase} {b : Bool} → d.dependent ≡ t → p ≡ phase_of ts d.base → b ≡ kind_bars begins d.kind p
      → b ≡ barred_by begins ts t d
  own-dependent e base bars = rw (eq-eqb d.dependent t e) (bars ∙ ap (kind_bars begins d.kind) base)

-- ---- all of them

-- where none is declared none bars
pub none-declared : (begins : Bool) (tables : Tables) (ts : List Transaction) (t : ℕ) → dependency_count tables ≡ 0 → declared_bars begins tables ts t ≡ false
unfolding declared_bars
none-declared begins tables ts t none = any-off (dependency_count tables) (λ i. barred_by begins ts t (dependency_at tables i)) (λ i l. absurd (omega arith))

-- ---- all of them, by a sheet that says what the tables say

abbrev pub bars_on : Bool → List ℕ → List Transaction → ℕ → ℕ → Bool
bars_on begins sheet ts t i = barred_by begins ts t (dependency_on sheet i)

pub bars-held : (begins : Bool) (sheet : List ℕ) (ts : List Transaction) (t n : ℕ) (tables : Tables) → Holds tables sheet → n ≡ min (declared_on sheet) most_dependencies
    → any_below n (bars_on begins sheet ts t) ≡ declared_bars begins tables ts t
unfolding declared_bars
bars-held begins sheet ts t n tables h e =
    ap (λ (k : ℕ). any_below k (bars_on begins sheet ts t)) (omega (arith, h.declared))
    ∙ any_same (dependency_count tables) (bars_on begins sheet ts t) (λ i. barred_by begins ts t (dependency_at tables i))
    (λ i l. ap (barred_by begins ts t) (h.dependencies i l))

-- where none is found the set is empty
pub nobody-active : (f : ℕ → Bool) (n : ℕ) → any_below n f ≡ false → 0 ≡ set_of n f
unfolding set_of any_below
nobody-active f zero h = refl
nobody-active f (suc n) h =
    let both = off-or (any_below n f) (f n) h in
    rw both.1 (nobody-active f n both.0)

-- from the first number on that no saga owns there is no undo
pub undos-held : (sheet : List ℕ) (ts : List Transaction) (n : ℕ) (tables : Tables) → Holds tables sheet → n ≡ min (owned_on sheet) most_transactions
    → set_of n (undo_on sheet ts) ≡ active_undos tables ts
unfolding active_undos
undos-held sheet ts n tables h e =
    ap (set_of n) same
    ∙ lt-or n most_transactions
    (λ l.
    set-of-rest (active_undo tables ts) n (most_transactions - n)
    (λ i g. and-off (is_undo (sort_of tables i)) (is_active (phase_of ts i)) (λ u. clash u (undo-owned tables i (omega (arith, h.owned)))))
    ∙ ap (λ (k : ℕ). set_of k (active_undo tables ts)) (omega arith))
    (λ l. ap (λ (k : ℕ). set_of k (active_undo tables ts)) (omega arith))
  where
    same : undo_on sheet ts ≡ active_undo tables ts
    same = fun_ext (λ u. ap (λ (x : Sort). is_undo x && is_active (phase_of ts u)) (h.sorts u))

-- ---- active undos, as a set

pub ring-some : (R : ℕ → ℕ → Bool) (tables : Tables) (ts : List Transaction) (set v : ℕ) → set ≡ active_undos tables ts
    → ring_with R (mem set) v ≡ ring_with R (active_undo tables ts) v
unfolding ring_with active_undos
ring-some R tables ts set v e =
    any_same most_transactions (λ u. mem set u && (leads_to most_transactions R v u && leads_to most_transactions R u v))
    (λ u. active_undo tables ts u && (leads_to most_transactions R v u && leads_to most_transactions R u v))
    (λ u l.
    let low : (ltb u most_transactions && active_undo tables ts u) ≡ active_undo tables ts u = rw (lt-ltb u most_transactions l) in
    ap (λ (b : Bool). b && (leads_to most_transactions R v u && leads_to most_transactions R u v))
    (ap (λ (x : ℕ). mem x u) e ∙ mem-set-of most_transactions (active_undo tables ts) u (omega arith) ∙ low))

-- with no active undo there is none on a ring
pub ring-nobody : (R : ℕ → ℕ → Bool) (tables : Tables) (ts : List Transaction) (set v : ℕ) → set ≡ active_undos tables ts → set ≡ 0
    → false ≡ ring_with R (active_undo tables ts) v
unfolding ring_with
ring-nobody R tables ts set v e z =
    sym
    (sym (ring-some R tables ts set v e)
    ∙ any-off most_transactions (λ u. mem set u && (leads_to most_transactions R v u && leads_to most_transactions R u v))
    (λ u l. rw (ap (λ (x : ℕ). mem x u) z ∙ mem-empty u)))
