use mathlib.Core.Path.{sym, ap₂, ◌∙◌}
use mathlib.Core.Bool.{not, ◌||◌}
use lib.ListN.{drop}
use Rattle.tables.specs.declared.Sort.{Sort}
use Rattle.rules.specs.Lent.{transactions_in}
use Rattle.cells.specs.Cells.{ops_in}
use Rattle.tables.specs.Sorts.{is_known}
use Rattle.rules.specs.Rules.{commit_barred}
use Rattle.std.specs.Prelude.{None}
use Rattle.judge.specs.Judge.{commit_lines, commit_under}
use Rattle.judge.proofs.RuleLaws.{ruled-passed, ruled-stopped}
use Rattle.judge.proofs.LentLaws.{sorted}
use Rattle.judge.proofs.Seen.commit_own.Goals as goal

pub returns-then-unknown : goal.returns-then-unknown
returns-then-unknown c tables h k =
    let a = c.args in
    let lines = commit_lines tables (transactions_in a.self.transactions.now) (ops_in a.self.ops.now a.self.count) a.t in
    let change = commit_under a.t None in
    c.refused.ensures ∙ sym (ruled-stopped (drop 0 lines) change (sym (sorted (λ (x : Sort). not (is_known x)) a.self.sheet.now tables h a.t c.unknown.ensures) ∙ c.if-unknown.true))

pub returns-then-inactive : goal.returns-then-inactive
returns-then-inactive c tables h k =
    let a = c.args in
    let lines = commit_lines tables (transactions_in a.self.transactions.now) (ops_in a.self.ops.now a.self.count) a.t in
    let change = commit_under a.t None in
    c.refused-then-inactive.ensures ∙ sym (ruled-passed (drop 0 lines) change (sym (sorted (λ (x : Sort). not (is_known x)) a.self.sheet.now tables h a.t c.unknown.ensures) ∙ c.if-unknown.false)
    ∙ ruled-stopped (drop 1 lines) change (sym c.inactive.ensures ∙ c.if-inactive.true))

pub returns-then-commit_forbidden : goal.returns-then-commit_forbidden
returns-then-commit_forbidden c tables h k =
    let a = c.args in
    let lines = commit_lines tables (transactions_in a.self.transactions.now) (ops_in a.self.ops.now a.self.count) a.t in
    let change = commit_under a.t None in
    c.refused-then-commit_forbidden.ensures ∙ sym (ruled-passed (drop 0 lines) change (sym (sorted (λ (x : Sort). not (is_known x)) a.self.sheet.now tables h a.t c.unknown.ensures) ∙ c.if-unknown.false)
    ∙ ruled-passed (drop 1 lines) change (sym c.inactive.ensures ∙ c.if-inactive.false)
    ∙ ruled-stopped (drop 2 lines) change (sym (sorted (commit_barred (transactions_in a.self.transactions.now)) a.self.sheet.now tables h a.t c.commit_forbidden.ensures) ∙ c.if-commit_forbidden.true))

pub returns-then-declared_bars-awaits_child : goal.returns-then-declared_bars-awaits_child
returns-then-declared_bars-awaits_child c tables h k =
    let a = c.args in
    let lines = commit_lines tables (transactions_in a.self.transactions.now) (ops_in a.self.ops.now a.self.count) a.t in
    let change = commit_under a.t None in
    c.refused-then-declared_bars-awaits_child.ensures ∙ sym (ruled-passed (drop 0 lines) change (sym (sorted (λ (x : Sort). not (is_known x)) a.self.sheet.now tables h a.t c.unknown.ensures) ∙ c.if-unknown.false)
    ∙ ruled-passed (drop 1 lines) change (sym c.inactive.ensures ∙ c.if-inactive.false)
    ∙ ruled-passed (drop 2 lines) change (sym (sorted (commit_barred (transactions_in a.self.transactions.now)) a.self.sheet.now tables h a.t c.commit_forbidden.ensures) ∙ c.if-commit_forbidden.false)
    ∙ ruled-stopped (drop 3 lines) change (sym (ap₂ ◌||◌ (c.declared_bars.ensures tables h) (c.awaits_child.ensures tables h)) ∙ c.if-declared_bars-awaits_child.true))

pub returns-then-dirty : goal.returns-then-dirty
returns-then-dirty c tables h k =
    let a = c.args in
    let lines = commit_lines tables (transactions_in a.self.transactions.now) (ops_in a.self.ops.now a.self.count) a.t in
    let change = commit_under a.t None in
    c.refused-then-dirty.ensures ∙ sym (ruled-passed (drop 0 lines) change (sym (sorted (λ (x : Sort). not (is_known x)) a.self.sheet.now tables h a.t c.unknown.ensures) ∙ c.if-unknown.false)
    ∙ ruled-passed (drop 1 lines) change (sym c.inactive.ensures ∙ c.if-inactive.false)
    ∙ ruled-passed (drop 2 lines) change (sym (sorted (commit_barred (transactions_in a.self.transactions.now)) a.self.sheet.now tables h a.t c.commit_forbidden.ensures) ∙ c.if-commit_forbidden.false)
    ∙ ruled-passed (drop 3 lines) change (sym (ap₂ ◌||◌ (c.declared_bars.ensures tables h) (c.awaits_child.ensures tables h)) ∙ c.if-declared_bars-awaits_child.false)
    ∙ ruled-stopped (drop 4 lines) change (sym c.dirty.ensures ∙ c.if-dirty.true))

pub returns-then-is_ringed : goal.returns-then-is_ringed
returns-then-is_ringed c tables h k =
    let a = c.args in
    let lines = commit_lines tables (transactions_in a.self.transactions.now) (ops_in a.self.ops.now a.self.count) a.t in
    let change = commit_under a.t None in
    c.refused-then-is_ringed.ensures ∙ sym (ruled-passed (drop 0 lines) change (sym (sorted (λ (x : Sort). not (is_known x)) a.self.sheet.now tables h a.t c.unknown.ensures) ∙ c.if-unknown.false)
    ∙ ruled-passed (drop 1 lines) change (sym c.inactive.ensures ∙ c.if-inactive.false)
    ∙ ruled-passed (drop 2 lines) change (sym (sorted (commit_barred (transactions_in a.self.transactions.now)) a.self.sheet.now tables h a.t c.commit_forbidden.ensures) ∙ c.if-commit_forbidden.false)
    ∙ ruled-passed (drop 3 lines) change (sym (ap₂ ◌||◌ (c.declared_bars.ensures tables h) (c.awaits_child.ensures tables h)) ∙ c.if-declared_bars-awaits_child.false)
    ∙ ruled-passed (drop 4 lines) change (sym c.dirty.ensures ∙ c.if-dirty.false)
    ∙ ruled-stopped (drop 5 lines) change (sym (c.is_ringed.ensures k) ∙ c.if-is_ringed.true))

pub returns : goal.returns
returns c tables h k =
    let a = c.args in
    let lines = commit_lines tables (transactions_in a.self.transactions.now) (ops_in a.self.ops.now a.self.count) a.t in
    let change = commit_under a.t None in
    c.accepted.ensures ∙ sym (ruled-passed (drop 0 lines) change (sym (sorted (λ (x : Sort). not (is_known x)) a.self.sheet.now tables h a.t c.unknown.ensures) ∙ c.if-unknown.false)
    ∙ ruled-passed (drop 1 lines) change (sym c.inactive.ensures ∙ c.if-inactive.false)
    ∙ ruled-passed (drop 2 lines) change (sym (sorted (commit_barred (transactions_in a.self.transactions.now)) a.self.sheet.now tables h a.t c.commit_forbidden.ensures) ∙ c.if-commit_forbidden.false)
    ∙ ruled-passed (drop 3 lines) change (sym (ap₂ ◌||◌ (c.declared_bars.ensures tables h) (c.awaits_child.ensures tables h)) ∙ c.if-declared_bars-awaits_child.false)
    ∙ ruled-passed (drop 4 lines) change (sym c.dirty.ensures ∙ c.if-dirty.false)
    ∙ ruled-passed (drop 5 lines) change (sym (c.is_ringed.ensures k) ∙ c.if-is_ringed.false))
