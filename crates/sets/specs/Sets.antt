-- Sets of transactions, held as the bits of one number (docs/RULES.md, 6 Closing: "sets of transactions are held as the bits of one number").
use Rattle.std.specs.Prelude.{ℕ, zero, suc, ◌/◌, ◌%◌, ◌^◌, Bool, cond, eqb, ltb}
use Rattle.std.specs.Int.Bits.{bit_and, bit_or, bit_xor}
use Rattle.terms.specs.Limits.{most_transactions}

-- t is in the set x: bit t of x is 1
unfoldable pub mem : ℕ → ℕ → Bool
mem x t = eqb (x / 2 ^ t % 2) 1

-- the set with t too; what is no transaction goes into no set
unfoldable pub inserted : ℕ → ℕ → ℕ
inserted x t = cond (ltb t most_transactions) (bit_or x (2 ^ t)) x

-- the set without what it shares with another: those of x that are not in y
unfoldable pub less : ℕ → ℕ → ℕ
less x y = bit_xor x (bit_and x y)

-- the set of the numbers below n of which f holds
unfoldable pub set_of : ℕ → (ℕ → Bool) → ℕ
set_of zero f = 0
set_of (suc n) f = cond (f n) (inserted (set_of n f) n) (set_of n f)
