use native.Mathlib.Omega.{arith}
use mathlib.Core.Path.{sym, ◌∙◌}
use Rattle.rules.proofs.LentLaws.{parent-low, parent-past}
use Rattle.rules.proofs.parent_at.Goals as goal

pub returns-then-t-ge-TRANSACTIONS : goal.returns-then-t-ge-TRANSACTIONS
returns-then-t-ge-TRANSACTIONS c = sym (parent-past c.args.transactions.now c.args.t (omega arith))

pub returns : goal.returns
returns c = let a = c.args in c.parent_in.ensures ∙ sym (parent-low a.transactions.now a.t (omega arith))
