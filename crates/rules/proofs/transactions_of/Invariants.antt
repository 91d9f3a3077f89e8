use mathlib.Core.Path.{◌≡◌}
use lib.ListN.{length, take}
use Rattle.terms.specs.Limits.{most_transactions}
use Rattle.rules.specs.Lent.{transactions_in}
use Rattle.rules.proofs.transactions_of.Given as goal

abbrev pub invariant-loop-t : goal.invariant-loop-t
invariant-loop-t l = (length l.all ≡ most_transactions) × (length (transactions_in l.transactions) ≡ most_transactions → take l.t l.all ≡ take l.t (transactions_in l.transactions))
