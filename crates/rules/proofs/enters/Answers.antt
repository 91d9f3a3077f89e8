use native.Mathlib.Omega.{arith}
use Prim.Native.Nat.{ℕ}
use mathlib.Core.Path.{ap, ◌∙◌}
use lib.ListN.{set}
use Rattle.rules.specs.Lent.{transactions_in}
use Rattle.rules.proofs.LentLaws.{entered-in, entered-past}
use Rattle.rules.proofs.enters.Goals as goal

pub returns-then-t-lt-TRANSACTIONS : goal.returns-then-t-lt-TRANSACTIONS
returns-then-t-lt-TRANSACTIONS c =
    let a = c.args in
    ap (λ (x : ℕ). transactions_in (set a.transactions.now a.t x)) c.with_phase.ensures
    ∙ entered-in a.transactions.now a.t a.phase (omega arith)

pub returns-else-t-lt-TRANSACTIONS : goal.returns-else-t-lt-TRANSACTIONS
returns-else-t-lt-TRANSACTIONS c = let a = c.args in entered-past a.transactions.now a.t a.phase (omega arith)
