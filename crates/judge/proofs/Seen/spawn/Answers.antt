use mathlib.Core.Path.{sym, ap₂, ◌∙◌}
use mathlib.Core.Bool.{not, ◌||◌}
use lib.ListN.{drop}
use Rattle.tables.specs.declared.Sort.{Sort}
use Rattle.rules.specs.Lent.{transactions_in}
use Rattle.tables.specs.Sorts.{is_known, is_plain}
use Rattle.judge.specs.Judge.{spawn_lines, change_of}
use Rattle.judge.proofs.RuleLaws.{ruled-passed, ruled-stopped}
use Rattle.judge.proofs.LentLaws.{sorted}
use Rattle.terms.specs.declared.Event.TheVariants.{Spawn}
use Rattle.judge.proofs.Seen.spawn.Goals as goal

pub returns-then-unknown : goal.returns-then-unknown
returns-then-unknown c tables h =
    let a = c.args in
    let lines = spawn_lines tables (transactions_in a.self.transactions.now) a.m a.c in
    let change = change_of tables (transactions_in a.self.transactions.now) (Spawn a.m a.c) in
    c.refused.ensures ∙ sym (ruled-stopped (drop 0 lines) change (sym (ap₂ ◌||◌ (sorted (λ (x : Sort). not (is_known x)) a.self.sheet.now tables h a.m c.unknown.ensures) (sorted (λ (x : Sort). not (is_known x)) a.self.sheet.now tables h a.c c.unknown-2.ensures)) ∙ c.if-unknown.true))

pub returns-then-not_plain : goal.returns-then-not_plain
returns-then-not_plain c tables h =
    let a = c.args in
    let lines = spawn_lines tables (transactions_in a.self.transactions.now) a.m a.c in
    let change = change_of tables (transactions_in a.self.transactions.now) (Spawn a.m a.c) in
    c.refused-then-not_plain.ensures ∙ sym (ruled-passed (drop 0 lines) change (sym (ap₂ ◌||◌ (sorted (λ (x : Sort). not (is_known x)) a.self.sheet.now tables h a.m c.unknown.ensures) (sorted (λ (x : Sort). not (is_known x)) a.self.sheet.now tables h a.c c.unknown-2.ensures)) ∙ c.if-unknown.false)
    ∙ ruled-stopped (drop 1 lines) change (sym (ap₂ ◌||◌ (sorted (λ (x : Sort). not (is_plain x)) a.self.sheet.now tables h a.m c.not_plain.ensures) (sorted (λ (x : Sort). not (is_plain x)) a.self.sheet.now tables h a.c c.not_plain-2.ensures)) ∙ c.if-not_plain.true))

pub returns-then-not_idle : goal.returns-then-not_idle
returns-then-not_idle c tables h =
    let a = c.args in
    let lines = spawn_lines tables (transactions_in a.self.transactions.now) a.m a.c in
    let change = change_of tables (transactions_in a.self.transactions.now) (Spawn a.m a.c) in
    c.refused-then-not_idle.ensures ∙ sym (ruled-passed (drop 0 lines) change (sym (ap₂ ◌||◌ (sorted (λ (x : Sort). not (is_known x)) a.self.sheet.now tables h a.m c.unknown.ensures) (sorted (λ (x : Sort). not (is_known x)) a.self.sheet.now tables h a.c c.unknown-2.ensures)) ∙ c.if-unknown.false)
    ∙ ruled-passed (drop 1 lines) change (sym (ap₂ ◌||◌ (sorted (λ (x : Sort). not (is_plain x)) a.self.sheet.now tables h a.m c.not_plain.ensures) (sorted (λ (x : Sort). not (is_plain x)) a.self.sheet.now tables h a.c c.not_plain-2.ensures)) ∙ c.if-not_plain.false)
    ∙ ruled-stopped (drop 2 lines) change (sym c.not_idle.ensures ∙ c.if-not_idle.true))

pub returns-then-inactive : goal.returns-then-inactive
returns-then-inactive c tables h =
    let a = c.args in
    let lines = spawn_lines tables (transactions_in a.self.transactions.now) a.m a.c in
    let change = change_of tables (transactions_in a.self.transactions.now) (Spawn a.m a.c) in
    c.refused-then-inactive.ensures ∙ sym (ruled-passed (drop 0 lines) change (sym (ap₂ ◌||◌ (sorted (λ (x : Sort). not (is_known x)) a.self.sheet.now tables h a.m c.unknown.ensures) (sorted (λ (x : Sort). not (is_known x)) a.self.sheet.now tables h a.c c.unknown-2.ensures)) ∙ c.if-unknown.false)
    ∙ ruled-passed (drop 1 lines) change (sym (ap₂ ◌||◌ (sorted (λ (x : Sort). not (is_plain x)) a.self.sheet.now tables h a.m c.not_plain.ensures) (sorted (λ (x : Sort). not (is_plain x)) a.self.sheet.now tables h a.c c.not_plain-2.ensures)) ∙ c.if-not_plain.false)
    ∙ ruled-passed (drop 2 lines) change (sym c.not_idle.ensures ∙ c.if-not_idle.false)
    ∙ ruled-stopped (drop 3 lines) change (sym c.inactive.ensures ∙ c.if-inactive.true))

pub returns-then-declared_bars : goal.returns-then-declared_bars
returns-then-declared_bars c tables h =
    let a = c.args in
    let lines = spawn_lines tables (transactions_in a.self.transactions.now) a.m a.c in
    let change = change_of tables (transactions_in a.self.transactions.now) (Spawn a.m a.c) in
    c.refused-then-declared_bars.ensures ∙ sym (ruled-passed (drop 0 lines) change (sym (ap₂ ◌||◌ (sorted (λ (x : Sort). not (is_known x)) a.self.sheet.now tables h a.m c.unknown.ensures) (sorted (λ (x : Sort). not (is_known x)) a.self.sheet.now tables h a.c c.unknown-2.ensures)) ∙ c.if-unknown.false)
    ∙ ruled-passed (drop 1 lines) change (sym (ap₂ ◌||◌ (sorted (λ (x : Sort). not (is_plain x)) a.self.sheet.now tables h a.m c.not_plain.ensures) (sorted (λ (x : Sort). not (is_plain x)) a.self.sheet.now tables h a.c c.not_plain-2.ensures)) ∙ c.if-not_plain.false)
    ∙ ruled-passed (drop 2 lines) change (sym c.not_idle.ensures ∙ c.if-not_idle.false)
    ∙ ruled-passed (drop 3 lines) change (sym c.inactive.ensures ∙ c.if-inactive.false)
    ∙ ruled-stopped (drop 4 lines) change (sym (c.declared_bars.ensures tables h) ∙ c.if-declared_bars.true))

pub returns : goal.returns
returns c tables h =
    let a = c.args in
    let lines = spawn_lines tables (transactions_in a.self.transactions.now) a.m a.c in
    let change = change_of tables (transactions_in a.self.transactions.now) (Spawn a.m a.c) in
    c.accepted.ensures ∙ sym (ruled-passed (drop 0 lines) change (sym (ap₂ ◌||◌ (sorted (λ (x : Sort). not (is_known x)) a.self.sheet.now tables h a.m c.unknown.ensures) (sorted (λ (x : Sort). not (is_known x)) a.self.sheet.now tables h a.c c.unknown-2.ensures)) ∙ c.if-unknown.false)
    ∙ ruled-passed (drop 1 lines) change (sym (ap₂ ◌||◌ (sorted (λ (x : Sort). not (is_plain x)) a.self.sheet.now tables h a.m c.not_plain.ensures) (sorted (λ (x : Sort). not (is_plain x)) a.self.sheet.now tables h a.c c.not_plain-2.ensures)) ∙ c.if-not_plain.false)
    ∙ ruled-passed (drop 2 lines) change (sym c.not_idle.ensures ∙ c.if-not_idle.false)
    ∙ ruled-passed (drop 3 lines) change (sym c.inactive.ensures ∙ c.if-inactive.false)
    ∙ ruled-passed (drop 4 lines) change (sym (c.declared_bars.ensures tables h) ∙ c.if-declared_bars.false))
