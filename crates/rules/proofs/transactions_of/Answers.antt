use native.Mathlib.Omega.{arith}
use mathlib.Core.Path.{sym, ap₂, ◌∙◌}
use lib.ListN.{length-set}
use Rattle.laws.proofs.ListLaws.{copied_more, copied_all}
use Rattle.terms.specs.Limits.{most_transactions}
use Rattle.rules.specs.Lent.{transactions_in}
use Rattle.rules.specs.States.{idle}
use Rattle.rules.specs.States.{Parent}
use Rattle.rules.specs.declared.Phase.{Phase}
use Rattle.rules.specs.declared.Transaction.{Transaction}
use Rattle.rules.proofs.LentLaws.{at_low}
use Rattle.rules.proofs.transactions_of.Goals as goal

pub loop-t-preserved : goal.loop-t-preserved
loop-t-preserved c =
    let a = c.args in
    let l = c.loop-t in
    let ts = transactions_in a.transactions.now in
    let x : Transaction = record { phase = c.phase_in.result; parent = c.parent_in.result } in (
      length-set l.all l.t x ∙ l.invariant.0,
      λ e.
          copied_more ts idle l.t l.all x (l.invariant.1 e) (omega arith) (omega arith)
          (ap₂ (λ (p : Phase) (m : Parent). record { phase = p; parent = m }) c.phase_in.ensures c.parent_in.ensures ∙ sym (at_low a.transactions.now l.t (omega arith))),
    )

pub returns : goal.returns
returns c =
    let a = c.args in
    let l = c.loop-t in
    λ e. copied_all (transactions_in a.transactions.now) idle most_transactions l.t l.all (l.invariant.1 e) (omega arith) l.invariant.0 e
