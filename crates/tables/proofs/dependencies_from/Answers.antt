use native.Mathlib.Omega.{arith}
use mathlib.Core.Path.{refl, sym, ◌∙◌}
use Prim.Native.Nat.{◌-◌, ◌+◌}
use Rattle.tables.proofs.DependencyLaws.{on-allowed, on-holds}
use Rattle.tables.proofs.ReadingLaws.{entries-end, entries-stop, entries-bad, entries-more}
use Rattle.tables.proofs.dependencies_from.Goals as goal

pub returns-in-Err : goal.returns-in-Err
returns-in-Err c =
    let l = c.loop-i in
    let a = c.args in
    c.refused.ensures
    ∙ sym (l.invariant.1 ∙ entries-stop a.most a.book.now a.n l.at l.tables (a.count - l.i) (a.count - (l.i + 1)) (omega arith) _ _ (sym c.entry_at.ensures ∙ c.in-Err.is))

pub returns-then-not-holds : goal.returns-then-not-holds
returns-then-not-holds c =
    let l = c.loop-i in
    let a = c.args in
    let e = c.in-Ok.read.0 in
    c.refused-then-not-holds.ensures
    ∙ sym
    (l.invariant.1
    ∙ entries-bad a.most a.book.now a.n l.at l.tables (a.count - l.i) (a.count - (l.i + 1)) (omega arith) e.dependent e.base e.kind c.in-Ok.read.1 (sym c.entry_at.ensures ∙ c.in-Ok.is) _
    (sym c.entry_holds-holds.ensures ∙ c.if-not-holds.true) (omega arith))

pub overflow_cast-tables : goal.overflow_cast-tables
overflow_cast-tables c =
    let t = c.loop-i.tables in
    let n = c.args.n in
    let e = c.in-Ok.read.0 in
    let held = sym c.entry_holds-holds.ensures ∙ c.if-not-holds.false in
    omega (arith, (on-allowed t n e.dependent e.base e.kind (on-holds t n e.dependent e.base e.kind held).0).dependent-known, c.requires)

pub overflow_cast-tables-in-loop-i : goal.overflow_cast-tables-in-loop-i
overflow_cast-tables-in-loop-i c =
    let t = c.loop-i.tables in
    let n = c.args.n in
    let e = c.in-Ok.read.0 in
    let held = sym c.entry_holds-holds.ensures ∙ c.if-not-holds.false in
    omega (arith, (on-allowed t n e.dependent e.base e.kind (on-holds t n e.dependent e.base e.kind held).0).base-known, c.requires)

pub loop-i-preserved : goal.loop-i-preserved
loop-i-preserved c =
    let l = c.loop-i in
    let a = c.args in
    let e = c.in-Ok.read.0 in
    let held = sym c.entry_holds-holds.ensures ∙ c.if-not-holds.false in (
      refl,
      l.invariant.1
          ∙ entries-more a.most a.book.now a.n l.at l.tables (a.count - l.i) (a.count - (l.i + 1)) (omega arith) e.dependent e.base e.kind c.in-Ok.read.1 (sym c.entry_at.ensures ∙ c.in-Ok.is)
          l.i c.of.result l.invariant.0 c.of.ensures held,
    )

pub returns : goal.returns
returns c =
    let l = c.loop-i in
    let a = c.args in
    sym (l.invariant.1 ∙ entries-end a.most a.book.now a.n l.at l.tables (a.count - l.i) (omega arith))
