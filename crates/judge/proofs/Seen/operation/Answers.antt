use native.Mathlib.Omega.{arith}
use lib.Dec.{leb}
use borrow.Author.Tests.{le-leb, lt-leb}
use Rattle.laws.proofs.Bools.{off-or}
use Rattle.ties.specs.Operations.{most_operations}
use Rattle.ties.specs.Ties.{must_wait}
use Rattle.cells.proofs.CellLaws.{count-in}
use mathlib.Core.Path.{sym, ap, ap₂, ◌∙◌}
use mathlib.Core.Bool.{not, ◌&&◌, ◌||◌}
use lib.ListN.{drop}
use Rattle.tables.specs.declared.Sort.{Sort}
use Rattle.rules.specs.Lent.{transactions_in}
use Rattle.cells.specs.Cells.{ops_in}
use Rattle.tables.specs.Sorts.{is_known, is_saga, is_undo}
use Rattle.terms.specs.declared.Event.TheVariants.{Operation as Invoke}
use Rattle.judge.specs.Judge.{change_of, operation_lines}
use Rattle.judge.proofs.RuleLaws.{ruled-passed, ruled-stopped}
use Rattle.judge.proofs.LentLaws.{sorted, objected, known-low, object-low}
use Rattle.judge.proofs.Seen.operation.Goals as goal

pub returns-then-unknown-unknown_object : goal.returns-then-unknown-unknown_object
returns-then-unknown-unknown_object c tables h =
    let a = c.args in
    let lines = operation_lines tables (transactions_in a.self.transactions.now) (ops_in a.self.ops.now a.self.count) a.t a.object a.mark in
    let change = change_of tables (transactions_in a.self.transactions.now) (Invoke a.t a.object a.mark) in
    c.refused.ensures ∙ sym (ruled-stopped (drop 0 lines) change (sym (ap₂ ◌||◌ (sorted (λ (x : Sort). not (is_known x)) a.self.sheet.now tables h a.t c.unknown.ensures) (objected a.self.sheet.now tables h a.object c.unknown_object.ensures)) ∙ c.if-unknown-unknown_object.true))

pub returns-then-is_saga : goal.returns-then-is_saga
returns-then-is_saga c tables h =
    let a = c.args in
    let lines = operation_lines tables (transactions_in a.self.transactions.now) (ops_in a.self.ops.now a.self.count) a.t a.object a.mark in
    let change = change_of tables (transactions_in a.self.transactions.now) (Invoke a.t a.object a.mark) in
    c.refused-then-is_saga.ensures ∙ sym (ruled-passed (drop 0 lines) change (sym (ap₂ ◌||◌ (sorted (λ (x : Sort). not (is_known x)) a.self.sheet.now tables h a.t c.unknown.ensures) (objected a.self.sheet.now tables h a.object c.unknown_object.ensures)) ∙ c.if-unknown-unknown_object.false)
    ∙ ruled-stopped (drop 1 lines) change (sym (sorted is_saga a.self.sheet.now tables h a.t c.is_saga.ensures) ∙ c.if-is_saga.true))

pub returns-then-inactive : goal.returns-then-inactive
returns-then-inactive c tables h =
    let a = c.args in
    let lines = operation_lines tables (transactions_in a.self.transactions.now) (ops_in a.self.ops.now a.self.count) a.t a.object a.mark in
    let change = change_of tables (transactions_in a.self.transactions.now) (Invoke a.t a.object a.mark) in
    c.refused-then-inactive.ensures ∙ sym (ruled-passed (drop 0 lines) change (sym (ap₂ ◌||◌ (sorted (λ (x : Sort). not (is_known x)) a.self.sheet.now tables h a.t c.unknown.ensures) (objected a.self.sheet.now tables h a.object c.unknown_object.ensures)) ∙ c.if-unknown-unknown_object.false)
    ∙ ruled-passed (drop 1 lines) change (sym (sorted is_saga a.self.sheet.now tables h a.t c.is_saga.ensures) ∙ c.if-is_saga.false)
    ∙ ruled-stopped (drop 2 lines) change (sym c.inactive.ensures ∙ c.if-inactive.true))

pub returns-then-must_wait : goal.returns-then-must_wait
returns-then-must_wait c tables h =
    let a = c.args in
    let lines = operation_lines tables (transactions_in a.self.transactions.now) (ops_in a.self.ops.now a.self.count) a.t a.object a.mark in
    let change = change_of tables (transactions_in a.self.transactions.now) (Invoke a.t a.object a.mark) in
    c.refused-then-must_wait.ensures ∙ sym (ruled-passed (drop 0 lines) change (sym (ap₂ ◌||◌ (sorted (λ (x : Sort). not (is_known x)) a.self.sheet.now tables h a.t c.unknown.ensures) (objected a.self.sheet.now tables h a.object c.unknown_object.ensures)) ∙ c.if-unknown-unknown_object.false)
    ∙ ruled-passed (drop 1 lines) change (sym (sorted is_saga a.self.sheet.now tables h a.t c.is_saga.ensures) ∙ c.if-is_saga.false)
    ∙ ruled-passed (drop 2 lines) change (sym c.inactive.ensures ∙ c.if-inactive.false)
    ∙ ruled-stopped (drop 3 lines) change (sym (sorted (λ (x : Sort). is_undo x && must_wait (ops_in a.self.ops.now a.self.count) a.t a.object a.mark) a.self.sheet.now tables h a.t c.must_wait.ensures) ∙ c.if-must_wait.true))

pub overflow_cast-op : goal.overflow_cast-op
overflow_cast-op c = omega (arith, object-low c.args.self.sheet.now c.args.object (sym c.unknown_object.ensures ∙ (off-or c.unknown.result c.unknown_object.result c.if-unknown-unknown_object.false).1))

pub overflow_cast-op-2 : goal.overflow_cast-op-2
overflow_cast-op-2 c = omega (arith, known-low c.args.self.sheet.now c.args.t (sym c.unknown.ensures ∙ (off-or c.unknown.result c.unknown_object.result c.if-unknown-unknown_object.false).0))

pub returns-then-rings_an_undo : goal.returns-then-rings_an_undo
returns-then-rings_an_undo c tables h =
    let a = c.args in
    let lines = operation_lines tables (transactions_in a.self.transactions.now) (ops_in a.self.ops.now a.self.count) a.t a.object a.mark in
    let change = change_of tables (transactions_in a.self.transactions.now) (Invoke a.t a.object a.mark) in
    c.refused-then-rings_an_undo.ensures ∙ sym (ruled-passed (drop 0 lines) change (sym (ap₂ ◌||◌ (sorted (λ (x : Sort). not (is_known x)) a.self.sheet.now tables h a.t c.unknown.ensures) (objected a.self.sheet.now tables h a.object c.unknown_object.ensures)) ∙ c.if-unknown-unknown_object.false)
    ∙ ruled-passed (drop 1 lines) change (sym (sorted is_saga a.self.sheet.now tables h a.t c.is_saga.ensures) ∙ c.if-is_saga.false)
    ∙ ruled-passed (drop 2 lines) change (sym c.inactive.ensures ∙ c.if-inactive.false)
    ∙ ruled-passed (drop 3 lines) change (sym (sorted (λ (x : Sort). is_undo x && must_wait (ops_in a.self.ops.now a.self.count) a.t a.object a.mark) a.self.sheet.now tables h a.t c.must_wait.ensures) ∙ c.if-must_wait.false)
    ∙ ruled-stopped (drop 4 lines) change (sym (c.rings_an_undo.ensures tables h) ∙ c.if-rings_an_undo.true))

pub returns-then-self-ge-MOST : goal.returns-then-self-ge-MOST
returns-then-self-ge-MOST c tables h =
    let a = c.args in
    let lines = operation_lines tables (transactions_in a.self.transactions.now) (ops_in a.self.ops.now a.self.count) a.t a.object a.mark in
    let change = change_of tables (transactions_in a.self.transactions.now) (Invoke a.t a.object a.mark) in
    c.refused-then-self-ge-MOST.ensures ∙ sym (ruled-passed (drop 0 lines) change (sym (ap₂ ◌||◌ (sorted (λ (x : Sort). not (is_known x)) a.self.sheet.now tables h a.t c.unknown.ensures) (objected a.self.sheet.now tables h a.object c.unknown_object.ensures)) ∙ c.if-unknown-unknown_object.false)
    ∙ ruled-passed (drop 1 lines) change (sym (sorted is_saga a.self.sheet.now tables h a.t c.is_saga.ensures) ∙ c.if-is_saga.false)
    ∙ ruled-passed (drop 2 lines) change (sym c.inactive.ensures ∙ c.if-inactive.false)
    ∙ ruled-passed (drop 3 lines) change (sym (sorted (λ (x : Sort). is_undo x && must_wait (ops_in a.self.ops.now a.self.count) a.t a.object a.mark) a.self.sheet.now tables h a.t c.must_wait.ensures) ∙ c.if-must_wait.false)
    ∙ ruled-passed (drop 4 lines) change (sym (c.rings_an_undo.ensures tables h) ∙ c.if-rings_an_undo.false)
    ∙ ruled-stopped (drop 5 lines) change (ap (leb most_operations) (count-in a.self.ops.now a.self.count) ∙ le-leb most_operations a.self.count c.if-self-ge-MOST.true))

pub returns : goal.returns
returns c tables h =
    let a = c.args in
    let lines = operation_lines tables (transactions_in a.self.transactions.now) (ops_in a.self.ops.now a.self.count) a.t a.object a.mark in
    let change = change_of tables (transactions_in a.self.transactions.now) (Invoke a.t a.object a.mark) in
    c.accepted.ensures ∙ sym (ruled-passed (drop 0 lines) change (sym (ap₂ ◌||◌ (sorted (λ (x : Sort). not (is_known x)) a.self.sheet.now tables h a.t c.unknown.ensures) (objected a.self.sheet.now tables h a.object c.unknown_object.ensures)) ∙ c.if-unknown-unknown_object.false)
    ∙ ruled-passed (drop 1 lines) change (sym (sorted is_saga a.self.sheet.now tables h a.t c.is_saga.ensures) ∙ c.if-is_saga.false)
    ∙ ruled-passed (drop 2 lines) change (sym c.inactive.ensures ∙ c.if-inactive.false)
    ∙ ruled-passed (drop 3 lines) change (sym (sorted (λ (x : Sort). is_undo x && must_wait (ops_in a.self.ops.now a.self.count) a.t a.object a.mark) a.self.sheet.now tables h a.t c.must_wait.ensures) ∙ c.if-must_wait.false)
    ∙ ruled-passed (drop 4 lines) change (sym (c.rings_an_undo.ensures tables h) ∙ c.if-rings_an_undo.false)
    ∙ ruled-passed (drop 5 lines) change (ap (leb most_operations) (count-in a.self.ops.now a.self.count) ∙ lt-leb most_operations a.self.count c.if-self-ge-MOST.false))
