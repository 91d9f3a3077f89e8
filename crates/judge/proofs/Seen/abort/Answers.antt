use mathlib.Core.Path.{sym, ◌∙◌}
use mathlib.Core.Bool.{not}
use lib.ListN.{drop}
use Rattle.tables.specs.declared.Sort.{Sort}
use Rattle.rules.specs.Lent.{transactions_in}
use Rattle.tables.specs.Sorts.{is_known, is_undo}
use Rattle.rules.specs.Rules.{abort_barred}
use Rattle.terms.specs.declared.Event.TheVariants.{Abort}
use Rattle.judge.specs.Judge.{abort_lines, change_of}
use Rattle.judge.proofs.RuleLaws.{ruled-passed, ruled-stopped}
use Rattle.judge.proofs.LentLaws.{sorted}
use Rattle.judge.proofs.Seen.abort.Goals as goal

pub returns-then-unknown : goal.returns-then-unknown
returns-then-unknown c tables h =
    let a = c.args in
    let lines = abort_lines tables (transactions_in a.self.transactions.now) a.t in
    let change = change_of tables (transactions_in a.self.transactions.now) (Abort a.t) in
    c.refused.ensures ∙ sym (ruled-stopped (drop 0 lines) change (sym (sorted (λ (x : Sort). not (is_known x)) a.self.sheet.now tables h a.t c.unknown.ensures) ∙ c.if-unknown.true))

pub returns-then-is_undo : goal.returns-then-is_undo
returns-then-is_undo c tables h =
    let a = c.args in
    let lines = abort_lines tables (transactions_in a.self.transactions.now) a.t in
    let change = change_of tables (transactions_in a.self.transactions.now) (Abort a.t) in
    c.refused-then-is_undo.ensures ∙ sym (ruled-passed (drop 0 lines) change (sym (sorted (λ (x : Sort). not (is_known x)) a.self.sheet.now tables h a.t c.unknown.ensures) ∙ c.if-unknown.false)
    ∙ ruled-stopped (drop 1 lines) change (sym (sorted is_undo a.self.sheet.now tables h a.t c.is_undo.ensures) ∙ c.if-is_undo.true))

pub returns-then-inactive : goal.returns-then-inactive
returns-then-inactive c tables h =
    let a = c.args in
    let lines = abort_lines tables (transactions_in a.self.transactions.now) a.t in
    let change = change_of tables (transactions_in a.self.transactions.now) (Abort a.t) in
    c.refused-then-inactive.ensures ∙ sym (ruled-passed (drop 0 lines) change (sym (sorted (λ (x : Sort). not (is_known x)) a.self.sheet.now tables h a.t c.unknown.ensures) ∙ c.if-unknown.false)
    ∙ ruled-passed (drop 1 lines) change (sym (sorted is_undo a.self.sheet.now tables h a.t c.is_undo.ensures) ∙ c.if-is_undo.false)
    ∙ ruled-stopped (drop 2 lines) change (sym c.inactive.ensures ∙ c.if-inactive.true))

pub returns-then-abort_forbidden : goal.returns-then-abort_forbidden
returns-then-abort_forbidden c tables h =
    let a = c.args in
    let lines = abort_lines tables (transactions_in a.self.transactions.now) a.t in
    let change = change_of tables (transactions_in a.self.transactions.now) (Abort a.t) in
    c.refused-then-abort_forbidden.ensures ∙ sym (ruled-passed (drop 0 lines) change (sym (sorted (λ (x : Sort). not (is_known x)) a.self.sheet.now tables h a.t c.unknown.ensures) ∙ c.if-unknown.false)
    ∙ ruled-passed (drop 1 lines) change (sym (sorted is_undo a.self.sheet.now tables h a.t c.is_undo.ensures) ∙ c.if-is_undo.false)
    ∙ ruled-passed (drop 2 lines) change (sym c.inactive.ensures ∙ c.if-inactive.false)
    ∙ ruled-stopped (drop 3 lines) change (sym (sorted (abort_barred (transactions_in a.self.transactions.now)) a.self.sheet.now tables h a.t c.abort_forbidden.ensures) ∙ c.if-abort_forbidden.true))

pub returns : goal.returns
returns c tables h =
    let a = c.args in
    let lines = abort_lines tables (transactions_in a.self.transactions.now) a.t in
    let change = change_of tables (transactions_in a.self.transactions.now) (Abort a.t) in
    c.accepted.ensures ∙ sym (ruled-passed (drop 0 lines) change (sym (sorted (λ (x : Sort). not (is_known x)) a.self.sheet.now tables h a.t c.unknown.ensures) ∙ c.if-unknown.false)
    ∙ ruled-passed (drop 1 lines) change (sym (sorted is_undo a.self.sheet.now tables h a.t c.is_undo.ensures) ∙ c.if-is_undo.false)
    ∙ ruled-passed (drop 2 lines) change (sym c.inactive.ensures ∙ c.if-inactive.false)
    ∙ ruled-passed (drop 3 lines) change (sym (sorted (abort_barred (transactions_in a.self.transactions.now)) a.self.sheet.now tables h a.t c.abort_forbidden.ensures) ∙ c.if-abort_forbidden.false))
