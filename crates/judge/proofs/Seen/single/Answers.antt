use Rattle.laws.proofs.Bools.{off-or}
use Rattle.terms.specs.declared.Verdict.TheVariants.{Accepted, Refused}
use mathlib.Core.Path.{sym, ap, ap₂, ◌∙◌}
use mathlib.Core.Bool.{Bool, not, ◌||◌}
use lib.ListN.{drop}
use Rattle.tables.specs.declared.Sort.{Sort}
use Rattle.rules.specs.Lent.{transactions_in}
use Rattle.cells.specs.Cells.{ops_in}
use Rattle.tables.specs.Sorts.{is_known, is_plain}
use Rattle.judge.specs.Judge.{single_lines}
use Rattle.judge.proofs.LentLaws.{sorted, accepted-in, accepted-low}
use Rattle.laws.proofs.LineLaws.{passed, stopped}
use Rattle.judge.proofs.Seen.single.Goals as goal

pub returns-then-unknown-not_accepted : goal.returns-then-unknown-not_accepted
returns-then-unknown-not_accepted c tables h =
    let a = c.args in
    let lines = single_lines tables (transactions_in a.self.transactions.now) (ops_in a.self.ops.now a.self.count) a.t a.q a.never in
    sym (stopped Refused Accepted (drop 0 lines) (sym (ap₂ ◌||◌ (sorted (λ (x : Sort). not (is_known x)) a.self.sheet.now tables h a.t c.unknown.ensures) (accepted-in a.self.ops.now a.self.count a.q c.not_accepted.ensures)) ∙ c.if-unknown-not_accepted.true))

pub returns-then-not_plain-never : goal.returns-then-not_plain-never
returns-then-not_plain-never c tables h =
    let a = c.args in
    let lines = single_lines tables (transactions_in a.self.transactions.now) (ops_in a.self.ops.now a.self.count) a.t a.q a.never in
    sym (passed Refused Accepted (drop 0 lines) (sym (ap₂ ◌||◌ (sorted (λ (x : Sort). not (is_known x)) a.self.sheet.now tables h a.t c.unknown.ensures) (accepted-in a.self.ops.now a.self.count a.q c.not_accepted.ensures)) ∙ c.if-unknown-not_accepted.false)
    ∙ stopped Refused Accepted (drop 1 lines) (sym (ap (λ (b : Bool). b || a.never) (sorted (λ (x : Sort). not (is_plain x)) a.self.sheet.now tables h a.t c.not_plain.ensures)) ∙ c.if-not_plain-never.true))

pub returns-then-inactive : goal.returns-then-inactive
returns-then-inactive c tables h =
    let a = c.args in
    let lines = single_lines tables (transactions_in a.self.transactions.now) (ops_in a.self.ops.now a.self.count) a.t a.q a.never in
    sym (passed Refused Accepted (drop 0 lines) (sym (ap₂ ◌||◌ (sorted (λ (x : Sort). not (is_known x)) a.self.sheet.now tables h a.t c.unknown.ensures) (accepted-in a.self.ops.now a.self.count a.q c.not_accepted.ensures)) ∙ c.if-unknown-not_accepted.false)
    ∙ passed Refused Accepted (drop 1 lines) (sym (ap (λ (b : Bool). b || a.never) (sorted (λ (x : Sort). not (is_plain x)) a.self.sheet.now tables h a.t c.not_plain.ensures)) ∙ c.if-not_plain-never.false)
    ∙ stopped Refused Accepted (drop 2 lines) (sym c.inactive.ensures ∙ c.if-inactive.true))

pub not_responsible-requires : goal.not_responsible-requires
not_responsible-requires c = accepted-low c.args.self.count c.args.q (sym c.not_accepted.ensures ∙ (off-or c.unknown.result c.not_accepted.result c.if-unknown-not_accepted.false).1)

pub returns-then-not_responsible : goal.returns-then-not_responsible
returns-then-not_responsible c tables h =
    let a = c.args in
    let lines = single_lines tables (transactions_in a.self.transactions.now) (ops_in a.self.ops.now a.self.count) a.t a.q a.never in
    sym (passed Refused Accepted (drop 0 lines) (sym (ap₂ ◌||◌ (sorted (λ (x : Sort). not (is_known x)) a.self.sheet.now tables h a.t c.unknown.ensures) (accepted-in a.self.ops.now a.self.count a.q c.not_accepted.ensures)) ∙ c.if-unknown-not_accepted.false)
    ∙ passed Refused Accepted (drop 1 lines) (sym (ap (λ (b : Bool). b || a.never) (sorted (λ (x : Sort). not (is_plain x)) a.self.sheet.now tables h a.t c.not_plain.ensures)) ∙ c.if-not_plain-never.false)
    ∙ passed Refused Accepted (drop 2 lines) (sym c.inactive.ensures ∙ c.if-inactive.false)
    ∙ stopped Refused Accepted (drop 3 lines) (sym (c.not_responsible.ensures) ∙ c.if-not_responsible.true))

pub already_ended-requires : goal.already_ended-requires
already_ended-requires c = accepted-low c.args.self.count c.args.q (sym c.not_accepted.ensures ∙ (off-or c.unknown.result c.not_accepted.result c.if-unknown-not_accepted.false).1)

pub returns-then-already_ended : goal.returns-then-already_ended
returns-then-already_ended c tables h =
    let a = c.args in
    let lines = single_lines tables (transactions_in a.self.transactions.now) (ops_in a.self.ops.now a.self.count) a.t a.q a.never in
    sym (passed Refused Accepted (drop 0 lines) (sym (ap₂ ◌||◌ (sorted (λ (x : Sort). not (is_known x)) a.self.sheet.now tables h a.t c.unknown.ensures) (accepted-in a.self.ops.now a.self.count a.q c.not_accepted.ensures)) ∙ c.if-unknown-not_accepted.false)
    ∙ passed Refused Accepted (drop 1 lines) (sym (ap (λ (b : Bool). b || a.never) (sorted (λ (x : Sort). not (is_plain x)) a.self.sheet.now tables h a.t c.not_plain.ensures)) ∙ c.if-not_plain-never.false)
    ∙ passed Refused Accepted (drop 2 lines) (sym c.inactive.ensures ∙ c.if-inactive.false)
    ∙ passed Refused Accepted (drop 3 lines) (sym (c.not_responsible.ensures) ∙ c.if-not_responsible.false)
    ∙ stopped Refused Accepted (drop 4 lines) (sym (c.already_ended.ensures) ∙ c.if-already_ended.true))

pub returns : goal.returns
returns c tables h =
    let a = c.args in
    let lines = single_lines tables (transactions_in a.self.transactions.now) (ops_in a.self.ops.now a.self.count) a.t a.q a.never in
    sym (passed Refused Accepted (drop 0 lines) (sym (ap₂ ◌||◌ (sorted (λ (x : Sort). not (is_known x)) a.self.sheet.now tables h a.t c.unknown.ensures) (accepted-in a.self.ops.now a.self.count a.q c.not_accepted.ensures)) ∙ c.if-unknown-not_accepted.false)
    ∙ passed Refused Accepted (drop 1 lines) (sym (ap (λ (b : Bool). b || a.never) (sorted (λ (x : Sort). not (is_plain x)) a.self.sheet.now tables h a.t c.not_plain.ensures)) ∙ c.if-not_plain-never.false)
    ∙ passed Refused Accepted (drop 2 lines) (sym c.inactive.ensures ∙ c.if-inactive.false)
    ∙ passed Refused Accepted (drop 3 lines) (sym (c.not_responsible.ensures) ∙ c.if-not_responsible.false)
    ∙ passed Refused Accepted (drop 4 lines) (sym (c.already_ended.ensures) ∙ c.if-already_ended.false))
