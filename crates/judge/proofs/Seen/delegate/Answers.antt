use native.Mathlib.Omega.{arith}
use lib.Dec.{eqb}
use Rattle.laws.proofs.Bools.{off-or}
use mathlib.Core.Path.{sym, ap, ap₂, ◌∙◌}
use mathlib.Core.Bool.{Bool, not, ◌||◌}
use lib.ListN.{drop}
use Rattle.tables.specs.declared.Sort.{Sort}
use Rattle.rules.specs.Lent.{transactions_in}
use Rattle.cells.specs.Cells.{ops_in}
use Rattle.tables.specs.Sorts.{is_known}
use Rattle.terms.specs.declared.Event.TheVariants.{Delegate}
use Rattle.judge.specs.Judge.{change_of, delegate_lines, no_party}
use Rattle.judge.proofs.RuleLaws.{ruled-passed, ruled-stopped}
use Rattle.judge.proofs.LentLaws.{sorted, accepted-in, known-low, accepted-low}
use Rattle.judge.proofs.Seen.delegate.Goals as goal

pub returns-then-unknown-not_accepted : goal.returns-then-unknown-not_accepted
returns-then-unknown-not_accepted c tables h =
    let a = c.args in
    let lines = delegate_lines tables (transactions_in a.self.transactions.now) (ops_in a.self.ops.now a.self.count) a.t a.receiver a.q in
    let change = change_of tables (transactions_in a.self.transactions.now) (Delegate a.t a.receiver a.q) in
    c.refused.ensures ∙ sym (ruled-stopped (drop 0 lines) change (sym (ap₂ ◌||◌ (sorted (λ (x : Sort). not (is_known x)) a.self.sheet.now tables h a.t c.unknown.ensures) (ap₂ ◌||◌ (sorted (λ (x : Sort). not (is_known x)) a.self.sheet.now tables h a.receiver c.unknown-2.ensures) (accepted-in a.self.ops.now a.self.count a.q c.not_accepted.ensures))) ∙ c.if-unknown-not_accepted.true))

pub returns-then-no_party-t : goal.returns-then-no_party-t
returns-then-no_party-t c tables h =
    let a = c.args in
    let lines = delegate_lines tables (transactions_in a.self.transactions.now) (ops_in a.self.ops.now a.self.count) a.t a.receiver a.q in
    let change = change_of tables (transactions_in a.self.transactions.now) (Delegate a.t a.receiver a.q) in
    c.refused-then-no_party-t.ensures ∙ sym (ruled-passed (drop 0 lines) change (sym (ap₂ ◌||◌ (sorted (λ (x : Sort). not (is_known x)) a.self.sheet.now tables h a.t c.unknown.ensures) (ap₂ ◌||◌ (sorted (λ (x : Sort). not (is_known x)) a.self.sheet.now tables h a.receiver c.unknown-2.ensures) (accepted-in a.self.ops.now a.self.count a.q c.not_accepted.ensures))) ∙ c.if-unknown-not_accepted.false)
    ∙ ruled-stopped (drop 1 lines) change (sym (ap₂ ◌||◌ (sorted no_party a.self.sheet.now tables h a.t c.no_party.ensures) (ap (λ (b : Bool). b || eqb a.t a.receiver) (sorted no_party a.self.sheet.now tables h a.receiver c.no_party-2.ensures))) ∙ c.if-no_party-t.true))

pub returns-then-inactive : goal.returns-then-inactive
returns-then-inactive c tables h =
    let a = c.args in
    let lines = delegate_lines tables (transactions_in a.self.transactions.now) (ops_in a.self.ops.now a.self.count) a.t a.receiver a.q in
    let change = change_of tables (transactions_in a.self.transactions.now) (Delegate a.t a.receiver a.q) in
    c.refused-then-inactive.ensures ∙ sym (ruled-passed (drop 0 lines) change (sym (ap₂ ◌||◌ (sorted (λ (x : Sort). not (is_known x)) a.self.sheet.now tables h a.t c.unknown.ensures) (ap₂ ◌||◌ (sorted (λ (x : Sort). not (is_known x)) a.self.sheet.now tables h a.receiver c.unknown-2.ensures) (accepted-in a.self.ops.now a.self.count a.q c.not_accepted.ensures))) ∙ c.if-unknown-not_accepted.false)
    ∙ ruled-passed (drop 1 lines) change (sym (ap₂ ◌||◌ (sorted no_party a.self.sheet.now tables h a.t c.no_party.ensures) (ap (λ (b : Bool). b || eqb a.t a.receiver) (sorted no_party a.self.sheet.now tables h a.receiver c.no_party-2.ensures))) ∙ c.if-no_party-t.false)
    ∙ ruled-stopped (drop 2 lines) change (sym (ap₂ ◌||◌ c.inactive.ensures c.inactive-2.ensures) ∙ c.if-inactive.true))

pub not_responsible-requires : goal.not_responsible-requires
not_responsible-requires c = accepted-low c.args.self.count c.args.q (sym c.not_accepted.ensures ∙ (off-or c.unknown-2.result c.not_accepted.result (off-or c.unknown.result (c.unknown-2.result || c.not_accepted.result) c.if-unknown-not_accepted.false).1).1)

pub returns-then-not_responsible : goal.returns-then-not_responsible
returns-then-not_responsible c tables h =
    let a = c.args in
    let lines = delegate_lines tables (transactions_in a.self.transactions.now) (ops_in a.self.ops.now a.self.count) a.t a.receiver a.q in
    let change = change_of tables (transactions_in a.self.transactions.now) (Delegate a.t a.receiver a.q) in
    c.refused-then-not_responsible.ensures ∙ sym (ruled-passed (drop 0 lines) change (sym (ap₂ ◌||◌ (sorted (λ (x : Sort). not (is_known x)) a.self.sheet.now tables h a.t c.unknown.ensures) (ap₂ ◌||◌ (sorted (λ (x : Sort). not (is_known x)) a.self.sheet.now tables h a.receiver c.unknown-2.ensures) (accepted-in a.self.ops.now a.self.count a.q c.not_accepted.ensures))) ∙ c.if-unknown-not_accepted.false)
    ∙ ruled-passed (drop 1 lines) change (sym (ap₂ ◌||◌ (sorted no_party a.self.sheet.now tables h a.t c.no_party.ensures) (ap (λ (b : Bool). b || eqb a.t a.receiver) (sorted no_party a.self.sheet.now tables h a.receiver c.no_party-2.ensures))) ∙ c.if-no_party-t.false)
    ∙ ruled-passed (drop 2 lines) change (sym (ap₂ ◌||◌ c.inactive.ensures c.inactive-2.ensures) ∙ c.if-inactive.false)
    ∙ ruled-stopped (drop 3 lines) change (sym (c.not_responsible.ensures) ∙ c.if-not_responsible.true))

pub overflow_cast-to : goal.overflow_cast-to
overflow_cast-to c = omega (arith, known-low c.args.self.sheet.now c.args.receiver (sym c.unknown-2.ensures ∙ (off-or c.unknown-2.result c.not_accepted.result (off-or c.unknown.result (c.unknown-2.result || c.not_accepted.result) c.if-unknown-not_accepted.false).1).0))

pub gives_a_ring-requires : goal.gives_a_ring-requires
gives_a_ring-requires c = accepted-low c.args.self.count c.args.q (sym c.not_accepted.ensures ∙ (off-or c.unknown-2.result c.not_accepted.result (off-or c.unknown.result (c.unknown-2.result || c.not_accepted.result) c.if-unknown-not_accepted.false).1).1)

pub returns-then-gives_a_ring : goal.returns-then-gives_a_ring
returns-then-gives_a_ring c tables h =
    let a = c.args in
    let lines = delegate_lines tables (transactions_in a.self.transactions.now) (ops_in a.self.ops.now a.self.count) a.t a.receiver a.q in
    let change = change_of tables (transactions_in a.self.transactions.now) (Delegate a.t a.receiver a.q) in
    c.refused-then-gives_a_ring.ensures ∙ sym (ruled-passed (drop 0 lines) change (sym (ap₂ ◌||◌ (sorted (λ (x : Sort). not (is_known x)) a.self.sheet.now tables h a.t c.unknown.ensures) (ap₂ ◌||◌ (sorted (λ (x : Sort). not (is_known x)) a.self.sheet.now tables h a.receiver c.unknown-2.ensures) (accepted-in a.self.ops.now a.self.count a.q c.not_accepted.ensures))) ∙ c.if-unknown-not_accepted.false)
    ∙ ruled-passed (drop 1 lines) change (sym (ap₂ ◌||◌ (sorted no_party a.self.sheet.now tables h a.t c.no_party.ensures) (ap (λ (b : Bool). b || eqb a.t a.receiver) (sorted no_party a.self.sheet.now tables h a.receiver c.no_party-2.ensures))) ∙ c.if-no_party-t.false)
    ∙ ruled-passed (drop 2 lines) change (sym (ap₂ ◌||◌ c.inactive.ensures c.inactive-2.ensures) ∙ c.if-inactive.false)
    ∙ ruled-passed (drop 3 lines) change (sym (c.not_responsible.ensures) ∙ c.if-not_responsible.false)
    ∙ ruled-stopped (drop 4 lines) change (sym (c.gives_a_ring.ensures tables h) ∙ c.if-gives_a_ring.true))

pub returns : goal.returns
returns c tables h =
    let a = c.args in
    let lines = delegate_lines tables (transactions_in a.self.transactions.now) (ops_in a.self.ops.now a.self.count) a.t a.receiver a.q in
    let change = change_of tables (transactions_in a.self.transactions.now) (Delegate a.t a.receiver a.q) in
    c.accepted.ensures ∙ sym (ruled-passed (drop 0 lines) change (sym (ap₂ ◌||◌ (sorted (λ (x : Sort). not (is_known x)) a.self.sheet.now tables h a.t c.unknown.ensures) (ap₂ ◌||◌ (sorted (λ (x : Sort). not (is_known x)) a.self.sheet.now tables h a.receiver c.unknown-2.ensures) (accepted-in a.self.ops.now a.self.count a.q c.not_accepted.ensures))) ∙ c.if-unknown-not_accepted.false)
    ∙ ruled-passed (drop 1 lines) change (sym (ap₂ ◌||◌ (sorted no_party a.self.sheet.now tables h a.t c.no_party.ensures) (ap (λ (b : Bool). b || eqb a.t a.receiver) (sorted no_party a.self.sheet.now tables h a.receiver c.no_party-2.ensures))) ∙ c.if-no_party-t.false)
    ∙ ruled-passed (drop 2 lines) change (sym (ap₂ ◌||◌ c.inactive.ensures c.inactive-2.ensures) ∙ c.if-inactive.false)
    ∙ ruled-passed (drop 3 lines) change (sym (c.not_responsible.ensures) ∙ c.if-not_responsible.false)
    ∙ ruled-passed (drop 4 lines) change (sym (c.gives_a_ring.ensures tables h) ∙ c.if-gives_a_ring.false))
