use mathlib.Core.Path.{sym, ◌∙◌}
use mathlib.Core.Bool.{not}
use lib.ListN.{drop}
use Rattle.tables.specs.declared.Sort.{Sort}
use Rattle.rules.specs.Lent.{transactions_in}
use Rattle.tables.specs.Sorts.{is_known}
use Rattle.rules.specs.Rules.{begin_barred}
use Rattle.terms.specs.declared.Event.TheVariants.{Begin}
use Rattle.judge.specs.Judge.{begin_lines, change_of}
use Rattle.judge.proofs.RuleLaws.{ruled-passed, ruled-stopped}
use Rattle.judge.proofs.LentLaws.{sorted}
use Rattle.judge.proofs.Seen.begin.Goals as goal

pub returns-then-unknown : goal.returns-then-unknown
returns-then-unknown c tables h =
    let a = c.args in
    let lines = begin_lines tables (transactions_in a.self.transactions.now) a.t in
    let change = change_of tables (transactions_in a.self.transactions.now) (Begin a.t) in
    c.refused.ensures ∙ sym (ruled-stopped (drop 0 lines) change (sym (sorted (λ (x : Sort). not (is_known x)) a.self.sheet.now tables h a.t c.unknown.ensures) ∙ c.if-unknown.true))

pub returns-then-not_idle : goal.returns-then-not_idle
returns-then-not_idle c tables h =
    let a = c.args in
    let lines = begin_lines tables (transactions_in a.self.transactions.now) a.t in
    let change = change_of tables (transactions_in a.self.transactions.now) (Begin a.t) in
    c.refused-then-not_idle.ensures ∙ sym (ruled-passed (drop 0 lines) change (sym (sorted (λ (x : Sort). not (is_known x)) a.self.sheet.now tables h a.t c.unknown.ensures) ∙ c.if-unknown.false)
    ∙ ruled-stopped (drop 1 lines) change (sym c.not_idle.ensures ∙ c.if-not_idle.true))

pub returns-then-begin_forbidden : goal.returns-then-begin_forbidden
returns-then-begin_forbidden c tables h =
    let a = c.args in
    let lines = begin_lines tables (transactions_in a.self.transactions.now) a.t in
    let change = change_of tables (transactions_in a.self.transactions.now) (Begin a.t) in
    c.refused-then-begin_forbidden.ensures ∙ sym (ruled-passed (drop 0 lines) change (sym (sorted (λ (x : Sort). not (is_known x)) a.self.sheet.now tables h a.t c.unknown.ensures) ∙ c.if-unknown.false)
    ∙ ruled-passed (drop 1 lines) change (sym c.not_idle.ensures ∙ c.if-not_idle.false)
    ∙ ruled-stopped (drop 2 lines) change (sym (sorted (begin_barred (transactions_in a.self.transactions.now)) a.self.sheet.now tables h a.t c.begin_forbidden.ensures) ∙ c.if-begin_forbidden.true))

pub returns-then-declared_bars : goal.returns-then-declared_bars
returns-then-declared_bars c tables h =
    let a = c.args in
    let lines = begin_lines tables (transactions_in a.self.transactions.now) a.t in
    let change = change_of tables (transactions_in a.self.transactions.now) (Begin a.t) in
    c.refused-then-declared_bars.ensures ∙ sym (ruled-passed (drop 0 lines) change (sym (sorted (λ (x : Sort). not (is_known x)) a.self.sheet.now tables h a.t c.unknown.ensures) ∙ c.if-unknown.false)
    ∙ ruled-passed (drop 1 lines) change (sym c.not_idle.ensures ∙ c.if-not_idle.false)
    ∙ ruled-passed (drop 2 lines) change (sym (sorted (begin_barred (transactions_in a.self.transactions.now)) a.self.sheet.now tables h a.t c.begin_forbidden.ensures) ∙ c.if-begin_forbidden.false)
    ∙ ruled-stopped (drop 3 lines) change (sym (c.declared_bars.ensures tables h) ∙ c.if-declared_bars.true))

pub returns : goal.returns
returns c tables h =
    let a = c.args in
    let lines = begin_lines tables (transactions_in a.self.transactions.now) a.t in
    let change = change_of tables (transactions_in a.self.transactions.now) (Begin a.t) in
    c.accepted.ensures ∙ sym (ruled-passed (drop 0 lines) change (sym (sorted (λ (x : Sort). not (is_known x)) a.self.sheet.now tables h a.t c.unknown.ensures) ∙ c.if-unknown.false)
    ∙ ruled-passed (drop 1 lines) change (sym c.not_idle.ensures ∙ c.if-not_idle.false)
    ∙ ruled-passed (drop 2 lines) change (sym (sorted (begin_barred (transactions_in a.self.transactions.now)) a.self.sheet.now tables h a.t c.begin_forbidden.ensures) ∙ c.if-begin_forbidden.false)
    ∙ ruled-passed (drop 3 lines) change (sym (c.declared_bars.ensures tables h) ∙ c.if-declared_bars.false))
