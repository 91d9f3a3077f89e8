use mathlib.Core.Path.{sym, ap₂, ◌∙◌}
use mathlib.Core.Bool.{not, ◌||◌}
use lib.ListN.{drop}
use Rattle.tables.specs.declared.Sort.{Sort}
use Rattle.rules.specs.Lent.{transactions_in}
use Rattle.cells.specs.Cells.{ops_in}
use Rattle.tables.specs.Sorts.{is_known}
use Rattle.std.specs.Prelude.{Some}
use Rattle.judge.specs.Judge.{hand_lines, commit_under}
use Rattle.judge.proofs.RuleLaws.{ruled-passed, ruled-stopped}
use Rattle.judge.proofs.LentLaws.{sorted}
use Rattle.judge.proofs.Seen.hand_over.Goals as goal

pub returns-then-unknown : goal.returns-then-unknown
returns-then-unknown c tables h =
    let a = c.args in
    let lines = hand_lines tables (transactions_in a.self.transactions.now) (ops_in a.self.ops.now a.self.count) a.t a.m in
    let change = commit_under a.t (Some a.m) in
    c.refused.ensures ∙ sym (ruled-stopped (drop 0 lines) change (sym (sorted (λ (x : Sort). not (is_known x)) a.self.sheet.now tables h a.t c.unknown.ensures) ∙ c.if-unknown.true))

pub returns-then-inactive : goal.returns-then-inactive
returns-then-inactive c tables h =
    let a = c.args in
    let lines = hand_lines tables (transactions_in a.self.transactions.now) (ops_in a.self.ops.now a.self.count) a.t a.m in
    let change = commit_under a.t (Some a.m) in
    c.refused-then-inactive.ensures ∙ sym (ruled-passed (drop 0 lines) change (sym (sorted (λ (x : Sort). not (is_known x)) a.self.sheet.now tables h a.t c.unknown.ensures) ∙ c.if-unknown.false)
    ∙ ruled-stopped (drop 1 lines) change (sym c.inactive.ensures ∙ c.if-inactive.true))

pub returns-then-declared_bars-awaits_child : goal.returns-then-declared_bars-awaits_child
returns-then-declared_bars-awaits_child c tables h =
    let a = c.args in
    let lines = hand_lines tables (transactions_in a.self.transactions.now) (ops_in a.self.ops.now a.self.count) a.t a.m in
    let change = commit_under a.t (Some a.m) in
    c.refused-then-declared_bars-awaits_child.ensures ∙ sym (ruled-passed (drop 0 lines) change (sym (sorted (λ (x : Sort). not (is_known x)) a.self.sheet.now tables h a.t c.unknown.ensures) ∙ c.if-unknown.false)
    ∙ ruled-passed (drop 1 lines) change (sym c.inactive.ensures ∙ c.if-inactive.false)
    ∙ ruled-stopped (drop 2 lines) change (sym (ap₂ ◌||◌ (c.declared_bars.ensures tables h) (ap₂ ◌||◌ (c.awaits_child.ensures tables h) c.inactive-2.ensures)) ∙ c.if-declared_bars-awaits_child.true))

pub returns-then-hands_a_ring : goal.returns-then-hands_a_ring
returns-then-hands_a_ring c tables h =
    let a = c.args in
    let lines = hand_lines tables (transactions_in a.self.transactions.now) (ops_in a.self.ops.now a.self.count) a.t a.m in
    let change = commit_under a.t (Some a.m) in
    c.refused-then-hands_a_ring.ensures ∙ sym (ruled-passed (drop 0 lines) change (sym (sorted (λ (x : Sort). not (is_known x)) a.self.sheet.now tables h a.t c.unknown.ensures) ∙ c.if-unknown.false)
    ∙ ruled-passed (drop 1 lines) change (sym c.inactive.ensures ∙ c.if-inactive.false)
    ∙ ruled-passed (drop 2 lines) change (sym (ap₂ ◌||◌ (c.declared_bars.ensures tables h) (ap₂ ◌||◌ (c.awaits_child.ensures tables h) c.inactive-2.ensures)) ∙ c.if-declared_bars-awaits_child.false)
    ∙ ruled-stopped (drop 3 lines) change (sym (c.hands_a_ring.ensures tables h) ∙ c.if-hands_a_ring.true))

pub returns : goal.returns
returns c tables h =
    let a = c.args in
    let lines = hand_lines tables (transactions_in a.self.transactions.now) (ops_in a.self.ops.now a.self.count) a.t a.m in
    let change = commit_under a.t (Some a.m) in
    c.accepted.ensures ∙ sym (ruled-passed (drop 0 lines) change (sym (sorted (λ (x : Sort). not (is_known x)) a.self.sheet.now tables h a.t c.unknown.ensures) ∙ c.if-unknown.false)
    ∙ ruled-passed (drop 1 lines) change (sym c.inactive.ensures ∙ c.if-inactive.false)
    ∙ ruled-passed (drop 2 lines) change (sym (ap₂ ◌||◌ (c.declared_bars.ensures tables h) (ap₂ ◌||◌ (c.awaits_child.ensures tables h) c.inactive-2.ensures)) ∙ c.if-declared_bars-awaits_child.false)
    ∙ ruled-passed (drop 3 lines) change (sym (c.hands_a_ring.ensures tables h) ∙ c.if-hands_a_ring.false))
