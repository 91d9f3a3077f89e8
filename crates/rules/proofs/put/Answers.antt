use native.Mathlib.Omega.{arith}
use mathlib.Core.Path.{sym, ap₂, ◌∙◌}
use Prim.Native.Nat.{ℕ, ◌+◌, ◌*◌}
use lib.ListN.{set}
use Rattle.rules.specs.Lent.{transactions_in}
use Rattle.rules.proofs.LentLaws.{put-in, put-past, put-none}
use Rattle.rules.proofs.put.Goals.{else-parent_fits-via-then-parent_fits+else-t-lt-TRANSACTIONS, else-parent_fits-via-else-parent_fits}
use Rattle.rules.proofs.put.Goals as goal

pub returns-then-t-lt-TRANSACTIONS : goal.returns-then-t-lt-TRANSACTIONS
returns-then-t-lt-TRANSACTIONS c =
    let a = c.args in
    ap₂ (λ (m p : ℕ). transactions_in (set a.transactions.now a.t (m * 4 + p))) c.parent_code.ensures c.phase_code.ensures
    ∙ put-in a.transactions.now a.t a.x (sym c.parent_fits.ensures ∙ c.if-parent_fits.true) (omega arith)

pub returns-else-parent_fits : goal.returns-else-parent_fits
returns-else-parent_fits c =
    let a = c.args in
    elim c.else-parent_fits.branch [
      | else-parent_fits-via-then-parent_fits+else-t-lt-TRANSACTIONS w ↦ put-past a.transactions.now a.t a.x (sym c.parent_fits.ensures ∙ w.if-parent_fits.true) (omega (arith, w.if-t-lt-TRANSACTIONS))
      | else-parent_fits-via-else-parent_fits w ↦ put-none a.transactions.now a.t a.x (sym c.parent_fits.ensures ∙ w.if-parent_fits.false)
    ]
