use Prim.Native.Nat.{ℕ}
use mathlib.Core.Path.{◌≡◌}
use mathlib.Core.Bool.{true}
use lib.ListN.{length, take}
use Rattle.terms.specs.Limits.{most_transactions}
use Rattle.rules.specs.Lent.{parent_fits, transactions_in}
use Rattle.rules.specs.States.{parent_of}
use Rattle.desk.proofs.put_transactions.Given as goal

abbrev pub invariant-loop-t : goal.invariant-loop-t
invariant-loop-t l = (length (transactions_in l.transactions) ≡ most_transactions) ×
    (((u : ℕ) → parent_fits (parent_of l.all u) ≡ true) → take l.t (transactions_in l.transactions) ≡ take l.t l.all)
