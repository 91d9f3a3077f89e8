-- What an entry of the dependencies is that holds.
use Prim.Native.Nat.{ℕ, ◌≤◌, ◌<◌}
use mathlib.Core.Path.{◌≡◌}
use mathlib.Core.Logic.{◌≢◌}
use mathlib.Core.Bool.{true, not, ◌&&◌}
use lib.Dec.{ltb, leb, eqb}
use borrow.Author.Tests.{ltb-true, leb-true, eqb-false}
use Rattle.laws.proofs.Bools.{on_and, on-not}
use Rattle.tables.specs.declared.Tables.{Tables}
use Rattle.tables.specs.Sorts.{sort_of}
use Rattle.tables.specs.Dependencies.{may_base, may_depend, allowed, rises_to, entry_holds}

pub record Allowed (t : Tables) (n d b kind : ℕ) : Type 0 where
  pub dependent-known : d < n
  pub base-known : b < n
  pub apart : d ≢ b
  pub kind_low : 1 ≤ kind
  pub kind_high : kind ≤ 7
  pub base-may : may_base (sort_of t b) ≡ true
  pub dependent-may : may_depend (sort_of t d) kind ≡ true

pub on-allowed : (t : Tables) (n d b kind : ℕ) → allowed t n d b kind ≡ true → Allowed t n d b kind
on-allowed t n d b kind h =
    let sorts = may_base (sort_of t b) && may_depend (sort_of t d) kind in
    let kinds = leb 1 kind && leb kind 7 in
    let p = on_and (ltb d n && ltb b n) (not (eqb d b) && (kinds && sorts)) h in
    let known = on_and (ltb d n) (ltb b n) p.0 in
    let q = on_and (not (eqb d b)) (kinds && sorts) p.1 in
    let r = on_and kinds sorts q.1 in
    let k = on_and (leb 1 kind) (leb kind 7) r.0 in
    let m = on_and (may_base (sort_of t b)) (may_depend (sort_of t d) kind) r.1 in
    record {
      dependent-known = ltb-true d n known.0;
      base-known = ltb-true b n known.1;
      apart = eqb-false d b (on-not (eqb d b) q.0);
      kind_low = leb-true 1 kind k.0;
      kind_high = leb-true kind 7 k.1;
      base-may = m.0;
      dependent-may = m.1;
    }

pub on-holds : (t : Tables) (n d b kind : ℕ) → entry_holds t n d b kind ≡ true → (allowed t n d b kind ≡ true) × (rises_to t d b kind ≡ true)
unfolding entry_holds
on-holds t n d b kind h = on_and (allowed t n d b kind) (rises_to t d b kind) h
