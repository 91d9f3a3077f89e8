-- The numbers that stand for sorts and for dependencies, and which sorts have one.
use Prim.Native.Nat.{ℕ, ◌+◌, ◌*◌, ◌-◌, ◌/◌, ◌%◌, ◌≤◌, ◌<◌}
use native.Mathlib.Omega.{arith}
use mathlib.Core.Path.{◌≡◌, ap, ◌∙◌}
use mathlib.Core.List.{List, [], ◌∷◌}
use borrow.Author.Tests.{lt-ltb, le-ltb, le-leb, lt-leb, eq-eqb, ne_eqb}
use Rattle.laws.proofs.Decisions.{same_or, lt-or}
use Rattle.terms.specs.Limits.{most_transactions}
use Rattle.tables.specs.Dependencies.{kind_number, kind_of}
use Rattle.tables.specs.Sorts.{sagas_of, place_of, sort_from, sort_of, owned_by, number_of_all}
use Rattle.tables.specs.declared.Dependency.{Dependency}
use Rattle.tables.specs.declared.Sort.TheVariants.{Unknown}
use Rattle.tables.specs.declared.Tables.{Tables}
use Rattle.tables.proofs.KindLaws.{kind-again}
use Rattle.sheet.specs.Sheet.{sort_by, sort_in, SmallSort, dependency_in}

rest : (x y : ℕ) → x < 64 → (x + 64 * y) % 64 ≡ x
rest x y h = omega arith

-- a number stands for the sort whose parts it was made of
pub packed-back : (k f n i : ℕ) → k < 8 → f < 64 → n < 64 → i < 64 → sort_in (k % 8 + 8 * (f % 64) + 512 * (n % 64) + 32768 * (i % 64)) ≡ sort_by k f n i
unfolding sort_in
packed-back k f n i hk hf hn hi =
    let whole : k % 8 + 8 * (f % 64) + 512 * (n % 64) + 32768 * (i % 64) ≡ k + 8 * f + 512 * n + 32768 * i = omega arith in
    let c = k + 8 * f + 512 * n + 32768 * i in
    let a : c % 8 ≡ k = omega arith in
    let b₀ : c / 8 ≡ f + 64 * (n + 64 * i) = omega arith in
    let b : c / 8 % 64 ≡ f = rw b₀ (rest f (n + 64 * i) hf) in
    let d₀ : c / 512 ≡ n + 64 * i = omega arith in
    let d : c / 512 % 64 ≡ n = rw d₀ (rest n i hn) in
    let e₀ : c / 32768 ≡ i = omega arith in
    let e : c / 32768 % 64 ≡ i = rw e₀ (omega arith) in
    rw (whole, a, b, d, e)

-- a number stands for the dependency that it was made of
pub dependency-back : (d : Dependency) → d.dependent < 256 → d.base < 256 → dependency_in (d.dependent + 256 * d.base + 65536 * kind_number d.kind) ≡ d
unfolding dependency_in
dependency-back d a b =
    let c = d.dependent + 256 * d.base + 65536 * kind_number d.kind in
    let p : c % 256 ≡ d.dependent = omega arith in
    let q₀ : c / 256 ≡ d.base + 256 * kind_number d.kind = omega arith in
    let q : c / 256 % 256 ≡ d.base = rw q₀ (omega arith) in
    let r₀ : c / 65536 ≡ kind_number d.kind = omega arith in
    let r : kind_of (c / 65536) ≡ d.kind = ap kind_of r₀ ∙ kind-again d.kind in
    λ i. record { dependent = p i; base = q i; kind = r i }

-- sorts of tables that a book can have are small enough, and past the limit there is none
place-small : (f n k : ℕ) → k < 2 * n → f + 2 * n ≤ most_transactions → SmallSort (place_of f n k)
unfolding place_of
place-small f n k h s =
    same_or k 0
    (λ e. rw (eq-eqb k 0 e) (omega arith, omega arith))
    (λ e. lt-or n k
    (λ l. rw (ne_eqb k 0 e, lt-leb k n l) (omega arith, (omega arith, omega arith)))
    (λ l. rw (ne_eqb k 0 e, le-leb k n l) (omega arith, (omega arith, omega arith))))

from-small : (ns : List ℕ) (f p t : ℕ) → f ≤ t → f + owned_by ns ≤ most_transactions → SmallSort (sort_from ns f p t)
unfolding sort_from owned_by
from-small [] f p t l s = lt-or t (f + p) (λ h. rw (lt-ltb t (f + p) h) tt) (λ h. rw (le-ltb t (f + p) h) tt)
from-small (n ∷ ns) f p t l s =
    lt-or t (f + 2 * n)
    (λ h. rw (lt-ltb t (f + 2 * n) h) (place-small f n (t - f) (omega arith) (omega arith)))
    (λ h. rw (le-ltb t (f + 2 * n) h) (from-small ns (f + 2 * n) p t h (omega arith)))

from_past : (ns : List ℕ) (f p t : ℕ) → f + (owned_by ns + p) ≤ t → sort_from ns f p t ≡ Unknown
unfolding sort_from owned_by
from_past [] f p t h = rw (le-ltb t (f + p) (omega arith))
from_past (n ∷ ns) f p t h = rw (le-ltb t (f + 2 * n) (omega arith)) (from_past ns (f + 2 * n) p t (omega arith))

module _ (tables : Tables) (few : number_of_all tables ≤ most_transactions) where
  pub sort-small : (t : ℕ) → SmallSort (sort_of tables t)
  unfolding sort_of
  sort-small t = from-small (sagas_of tables) 0 tables.plain t (omega arith) (omega (arith, few))

  pub sort-past : (t : ℕ) → most_transactions ≤ t → sort_of tables t ≡ Unknown
  unfolding sort_of
  sort-past t h = from_past (sagas_of tables) 0 tables.plain t (omega (arith, few))
