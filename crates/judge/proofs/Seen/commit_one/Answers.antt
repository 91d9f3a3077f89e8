use mathlib.Core.Path.{◌≡◌, sym, ap, ◌∙◌}
use mathlib.Core.Bool.{Bool}
use Prim.Native.Nat.{ℕ}
use mathlib.Core.List.{List, [], ◌∷◌}
use Rattle.ties.specs.declared.Ops.{Ops}
use Rattle.laws.specs.Lines.{Line, line}
use Rattle.terms.specs.declared.Refusal.{Refusal}
use Rattle.terms.specs.declared.Refusal.TheVariants.{DirtyRead, OnRing}
use Rattle.terms.specs.declared.Event.TheVariants.{CommitOne}
use Rattle.ties.specs.Ties.{dirty_at, on_ring}
use Rattle.cells.specs.Cells.{ops_in}
use Rattle.rules.specs.Lent.{transactions_in}
use Rattle.rules.specs.States.{is_child}
use Rattle.judge.specs.Judge.{change_of, clerk_of, single_lines, verdict_by}
use Rattle.judge.proofs.RuleLaws.{shared-refused, shared-passed, ruled-passed, ruled-stopped}
use Rattle.judge.proofs.LentLaws.{dirty-told}
use Rattle.judge.proofs.Seen.commit_one.Goals as goal

-- the two lines that are the commit's own, behind those that the abort of one operation has too
abbrev last : Ops → ℕ → List (Line Refusal)
last ops t = line OnRing (on_ring ops t) ∷ []

abbrev own : Ops → ℕ → ℕ → List (Line Refusal)
own ops t q = line DirtyRead (dirty_at ops t q) ∷ last ops t

pub returns-in-Refused : goal.returns-in-Refused
returns-in-Refused c tables h k =
    let a = c.args in
    let ts = transactions_in a.self.transactions.now in
    let ops = ops_in a.self.ops.now a.self.count in
    let child = is_child (clerk_of tables ts a.t) in
    let told : c.single.result ≡ verdict_by (single_lines tables ts ops a.t a.q child) = c.single.ensures tables h
    ∙ ap (λ (b : Bool). verdict_by (single_lines tables ts ops a.t a.q b)) (c.is_child-child.ensures ∙ ap is_child (c.clerk_of.ensures tables h)) in
    let change = change_of tables ts (CommitOne a.t a.q) in
    c.refused.ensures ∙ shared-refused (single_lines tables ts ops a.t a.q child) (own ops a.t a.q) change told c.in-Refused.refusal c.in-Refused.is

-- past the shared lines the commit's own decide; the operation was accepted then, so that the test for dirty reads is of it
pub returns-then-dirty_one : goal.returns-then-dirty_one
returns-then-dirty_one c tables h k =
    let a = c.args in
    let ts = transactions_in a.self.transactions.now in
    let ops = ops_in a.self.ops.now a.self.count in
    let child = is_child (clerk_of tables ts a.t) in
    let told : c.single.result ≡ verdict_by (single_lines tables ts ops a.t a.q child) = c.single.ensures tables h
    ∙ ap (λ (b : Bool). verdict_by (single_lines tables ts ops a.t a.q b)) (c.is_child-child.ensures ∙ ap is_child (c.clerk_of.ensures tables h)) in
    let change = change_of tables ts (CommitOne a.t a.q) in
    c.refused-then-dirty_one.ensures ∙ sym (shared-passed (single_lines tables ts ops a.t a.q child) (own ops a.t a.q) change told c.in_default.is
    ∙ ruled-stopped (own ops a.t a.q) change (sym (c.dirty_one.ensures ∙ dirty-told tables ts a.self.ops.now a.self.count a.t a.q child (sym told ∙ c.in_default.is)) ∙ c.if-dirty_one.true))

pub returns-then-is_ringed : goal.returns-then-is_ringed
returns-then-is_ringed c tables h k =
    let a = c.args in
    let ts = transactions_in a.self.transactions.now in
    let ops = ops_in a.self.ops.now a.self.count in
    let child = is_child (clerk_of tables ts a.t) in
    let told : c.single.result ≡ verdict_by (single_lines tables ts ops a.t a.q child) = c.single.ensures tables h
    ∙ ap (λ (b : Bool). verdict_by (single_lines tables ts ops a.t a.q b)) (c.is_child-child.ensures ∙ ap is_child (c.clerk_of.ensures tables h)) in
    let change = change_of tables ts (CommitOne a.t a.q) in
    c.refused-then-is_ringed.ensures ∙ sym (shared-passed (single_lines tables ts ops a.t a.q child) (own ops a.t a.q) change told c.in_default.is
    ∙ ruled-passed (own ops a.t a.q) change (sym (c.dirty_one.ensures ∙ dirty-told tables ts a.self.ops.now a.self.count a.t a.q child (sym told ∙ c.in_default.is)) ∙ c.if-dirty_one.false)
    ∙ ruled-stopped (last ops a.t) change (sym (c.is_ringed.ensures k) ∙ c.if-is_ringed.true))

pub returns : goal.returns
returns c tables h k =
    let a = c.args in
    let ts = transactions_in a.self.transactions.now in
    let ops = ops_in a.self.ops.now a.self.count in
    let child = is_child (clerk_of tables ts a.t) in
    let told : c.single.result ≡ verdict_by (single_lines tables ts ops a.t a.q child) = c.single.ensures tables h
    ∙ ap (λ (b : Bool). verdict_by (single_lines tables ts ops a.t a.q b)) (c.is_child-child.ensures ∙ ap is_child (c.clerk_of.ensures tables h)) in
    let change = change_of tables ts (CommitOne a.t a.q) in
    c.accepted.ensures ∙ sym (shared-passed (single_lines tables ts ops a.t a.q child) (own ops a.t a.q) change told c.in_default.is
    ∙ ruled-passed (own ops a.t a.q) change (sym (c.dirty_one.ensures ∙ dirty-told tables ts a.self.ops.now a.self.count a.t a.q child (sym told ∙ c.in_default.is)) ∙ c.if-dirty_one.false)
    ∙ ruled-passed (last ops a.t) change (sym (c.is_ringed.ensures k) ∙ c.if-is_ringed.false))
