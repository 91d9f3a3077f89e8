use native.Mathlib.Omega.{arith}
use mathlib.Core.Path.{refl, sym, ap, ◌∙◌}
use Rattle.laws.proofs.IndexLaws.{any_none, search-hit, search-miss, search-end}
use Rattle.rules.specs.Lent.{transactions_in}
use Rattle.rules.specs.Rules.{barred_by}
use Rattle.rules.proofs.RuleLaws.{bars_on, bars-held, other-dependent, own-dependent}
use Rattle.rules.proofs.declared_bars.Goals.{then-dependent-t+else-kind_bars, else-dependent-t}
use Rattle.rules.proofs.declared_bars.Goals as goal

pub loop-i-init : goal.loop-i-init
loop-i-init c = (c.count_in-n.ensures, any_none _)

pub returns-then-kind_bars : goal.returns-then-kind_bars
returns-then-kind_bars c tables holds =
    let a = c.args in
    let l = c.loop-i in
    let d = c.dependency_in-d in
    let bars = bars_on a.begins a.sheet.now (transactions_in a.transactions.now) a.t in
    let here = own-dependent a.begins (transactions_in a.transactions.now) a.t d.result c.if-dependent-t.true c.phase_at-phase.ensures c.kind_bars.ensures in
    search-hit bars c.count_in-n.result l.i (here ∙ ap (barred_by a.begins (transactions_in a.transactions.now) a.t) d.ensures) c.if-kind_bars.true (omega arith)
    ∙ bars-held a.begins a.sheet.now (transactions_in a.transactions.now) a.t c.count_in-n.result tables holds l.invariant.0

pub loop-i-preserved : goal.loop-i-preserved
loop-i-preserved c =
    let a = c.args in
    let l = c.loop-i in
    let d = c.dependency_in-d in
    let ts = transactions_in a.transactions.now in
    let same = ap (barred_by a.begins ts a.t) d.ensures in (
      l.invariant.0,
      search-miss (bars_on a.begins a.sheet.now ts a.t) l.i l.invariant.1
          (elim c.if-dependent-t.branch [
            | then-dependent-t+else-kind_bars w ↦ sym w.if-kind_bars.false ∙ own-dependent a.begins ts a.t d.result w.if-dependent-t.true w.phase_at-phase.ensures w.kind_bars.ensures ∙ same
            | else-dependent-t w ↦ other-dependent a.begins ts a.t d.result w.if-dependent-t.false ∙ same
          ]) refl,
    )

pub returns : goal.returns
returns c tables holds =
    let a = c.args in
    let l = c.loop-i in
    search-end (bars_on a.begins a.sheet.now (transactions_in a.transactions.now) a.t) c.count_in-n.result l.i l.invariant.1 (omega arith)
    ∙ bars-held a.begins a.sheet.now (transactions_in a.transactions.now) a.t c.count_in-n.result tables holds l.invariant.0
