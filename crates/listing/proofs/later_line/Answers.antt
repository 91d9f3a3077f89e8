use native.Mathlib.Omega.{arith}
use mathlib.Core.Path.{◌∙◌, ap, sym}
use mathlib.Core.List.{[]}
use Rattle.listing.specs.Texts.{with_all}
use Rattle.listing.proofs.ListingLaws.{later-transaction, later-operation, later-saga}
use Rattle.listing.proofs.later_line.Goals as goal

pub returns-then-k-transactions : goal.returns-then-k-transactions
returns-then-k-transactions c =
    let a = c.args in
    let t = c.transaction_count-transactions in
    c.transaction_line.ensures ∙ ap (with_all []) (sym (later-transaction a.judgement a.k t.result t.ensures (omega arith)))

pub returns-then-q-operations : goal.returns-then-q-operations
returns-then-q-operations c =
    let a = c.args in
    let t = c.transaction_count-transactions in
    let o = c.size-operations in
    c.operation_line.ensures
    ∙ ap (with_all []) (sym (later-operation a.judgement a.k t.result t.ensures o.result o.ensures (omega arith) (omega arith)))

pub returns : goal.returns
returns c =
    let a = c.args in
    let t = c.transaction_count-transactions in
    let o = c.size-operations in
    c.saga_line.ensures
    ∙ ap (with_all []) (sym (later-saga a.judgement a.k t.result t.ensures o.result o.ensures (omega arith) (omega arith)))
