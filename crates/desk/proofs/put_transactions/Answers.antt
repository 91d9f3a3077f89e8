use borrow.Author.Rules.{rules}
use native.Mathlib.Omega.{arith}
use Prim.Native.Nat.{◌+◌}
use mathlib.Core.Path.{◌≡◌, refl, ap, ◌∙◌}
use lib.ListN.{get_or, length, set, take}
use Rattle.laws.proofs.ListLaws.{copied_more, copied_all, length-mapped}
use Rattle.terms.specs.Limits.{most_transactions}
use Rattle.rules.specs.Lent.{transactions_in}
use Rattle.rules.specs.States.{idle}
use Rattle.rules.proofs.LentLaws.{length-put, none-begun}
use Rattle.judge.proofs.ChangeLaws.{empty-whole}
use Rattle.desk.proofs.put_transactions.Goals as goal

pub loop-t-init : goal.loop-t-init
loop-t-init c = (ap length none-begun ∙ empty-whole.0, λ f. refl)

pub loop-t-preserved : goal.loop-t-preserved
loop-t-preserved c =
    let l = c.loop-t in
    let whole : length c.args.all ≡ most_transactions = search (rules, length-mapped) in
    let all = c.args.all in
    let ts = transactions_in l.transactions in
    let x = get_or all l.t idle in
    let e = c.put.ensures in (
      ap length e ∙ length-put ts l.t x ∙ l.invariant.0,
      λ f.
          let stored : transactions_in c.put.new.transactions ≡ set ts l.t x = e ∙ rw (f l.t) in
          ap (take (l.t + 1)) stored
          ∙ copied_more all idle l.t ts x (l.invariant.1 f) (omega arith) (omega (arith, whole)) refl,
    )

pub returns : goal.returns
returns c =
    let l = c.loop-t in
    let whole : length c.args.all ≡ most_transactions = search (rules, length-mapped) in
    λ f. copied_all _ idle most_transactions l.t (transactions_in l.transactions) (l.invariant.1 f) (omega arith) l.invariant.0 whole
