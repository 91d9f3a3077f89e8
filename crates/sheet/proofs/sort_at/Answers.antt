use native.Mathlib.Omega.{arith}
use borrow.Author.Tests.{le-ltb, lt-ltb}
use Rattle.terms.specs.Limits.{most_transactions}
use Rattle.sheet.specs.Sheet.{sort_in, sort_at}
use Rattle.sheet.proofs.sort_at.Goals as goal

pub returns-then-t-ge-TRANSACTIONS : goal.returns-then-t-ge-TRANSACTIONS
unfolding sort_at
returns-then-t-ge-TRANSACTIONS c = rw (le-ltb c.args.t most_transactions (omega arith))

pub returns : goal.returns
unfolding sort_at sort_in
returns c = rw (lt-ltb c.args.t most_transactions (omega arith)) c.sort_by.ensures
