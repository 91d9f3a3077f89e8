-- Where the tables are refused and by what: a place of the book, or its end, and one of 2 to 6.
use Prim.Native.Nat.{ℕ, ◌≤◌}
use native.Mathlib.Omega.{arith}
use mathlib.Core.Path.{◌≡◌}
use mathlib.Core.Bool.{◌||◌}
use mathlib.Core.List.{List}
use lib.ListN.{length}
use lib.Dec.{ltb}
use Rattle.laws.proofs.Bools.{bool_cases}
use Rattle.terms.specs.Refusals.{number_of}
use Rattle.terms.specs.declared.Refusal.{Refusal}
use Rattle.number.specs.Number.{number_at, held_to, number_within, Field, fault}
use Rattle.number.proofs.Faults.{number-fault}
use Rattle.std.specs.Prelude.{Err, Ok}
use Rattle.number.proofs.Spelling.{fault-parts}

-- ---- a field of the tables

pub record Faulty (s : List ℕ) (r : Refusal) (p : ℕ) : Type 0 where
  pub inside : p ≤ length s
  -- Torn, BadNumber, BadEdition, BadCount or BadDependency
  pub low : 2 ≤ number_of r
  pub high : number_of r ≤ 6

module _ (cap : ℕ) (s : List ℕ) (at : ℕ) (b : at ≤ length s) where
  pub field-fault : (r : Refusal) (p : ℕ) → number_at cap s at ≡ fault r p → Faulty s r p
  field-fault r p e =
      let n = number-fault cap s at r p e in record { inside = omega (arith, n.0); low = n.1; high = omega (arith, n.2) }

  module _ (low high : ℕ) (q : Refusal) (own : Faulty s q at) where
    held-fault : (c : Field) (r : Refusal) (p : ℕ) → ((r : Refusal) (p : ℕ) → c ≡ fault r p → Faulty s r p)
        → held_to at low high q c ≡ fault r p → Faulty s r p
    held-fault (Err f) r p h e = h r p e
    held-fault (Ok (v, next)) r p h e =
        bool_cases (ltb v low || ltb high v)
        (λ t.
        let same = fault-parts {A = ℕ × ℕ} (rw t at e) in
        rw (← same.0, ← same.1) own)
        (λ t. let y : Ok (v, next) ≡ fault r p = rw t at e in let z : ◌≡◌ {A = ℕ} 0 1 = cc in absurd (omega arith))

    -- of a field held against a range: that of its number, or that of the range at its place
    pub within-fault : (r : Refusal) (p : ℕ) → number_within cap s at low high q ≡ fault r p → Faulty s r p
    unfolding number_within
    within-fault r p e = held-fault (number_at cap s at) r p field-fault e
