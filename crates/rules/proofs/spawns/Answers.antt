use native.Mathlib.Omega.{arith}
use Prim.Native.Nat.{ℕ}
use mathlib.Core.Path.{ap, ◌∙◌}
use lib.ListN.{set}
use Rattle.rules.specs.Lent.{transactions_in}
use Rattle.rules.proofs.LentLaws.{spawned-in, spawned-past, spawned-none}
use Rattle.rules.proofs.spawns.Goals.{else-m-lt-TRANSACTIONS-via-then-m-lt-TRANSACTIONS+else-t-lt-TRANSACTIONS, else-m-lt-TRANSACTIONS-via-else-m-lt-TRANSACTIONS}
use Rattle.rules.proofs.spawns.Goals as goal

pub returns-then-t-lt-TRANSACTIONS : goal.returns-then-t-lt-TRANSACTIONS
returns-then-t-lt-TRANSACTIONS c =
    let a = c.args in
    ap (λ (x : ℕ). transactions_in (set a.transactions.now a.t x)) c.under_in.ensures
    ∙ spawned-in a.transactions.now a.m a.t (omega arith) (omega arith)

pub returns-else-m-lt-TRANSACTIONS : goal.returns-else-m-lt-TRANSACTIONS
returns-else-m-lt-TRANSACTIONS c =
    let a = c.args in
    elim c.else-m-lt-TRANSACTIONS.branch [
      | else-m-lt-TRANSACTIONS-via-then-m-lt-TRANSACTIONS+else-t-lt-TRANSACTIONS w ↦ spawned-past a.transactions.now a.m a.t (omega (arith, w.if-m-lt-TRANSACTIONS)) (omega (arith, w.if-t-lt-TRANSACTIONS))
      | else-m-lt-TRANSACTIONS-via-else-m-lt-TRANSACTIONS w ↦ spawned-none a.transactions.now a.m a.t (omega (arith, w.if-m-lt-TRANSACTIONS))
    ]
