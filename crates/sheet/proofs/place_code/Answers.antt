use native.Mathlib.Omega.{arith}
use mathlib.Core.Path.{◌∙◌, subst⁻¹}
use Rattle.tables.proofs.SortLaws.{place-saga, place-step, place-undo}
use Rattle.sheet.specs.Sheet.{SmallSort}
use Rattle.sheet.proofs.place_code.Goals as goal

pub returns-then-k-eq0 : goal.returns-then-k-eq0
returns-then-k-eq0 c small =
    let a = c.args in
    let e = place-saga a.first a.n a.k (omega arith) in
    let s = subst⁻¹ SmallSort e small in
    c.packed.ensures (omega arith) s.0 s.1 (omega arith) ∙ e

pub returns-then-k-n : goal.returns-then-k-n
returns-then-k-n c small =
    let a = c.args in
    let e = place-step a.first a.n a.k (omega arith) (omega arith) in
    let s = subst⁻¹ SmallSort e small in
    c.packed-then-k-n.ensures (omega arith) s.0 s.1.0 s.1.1 ∙ e

pub returns : goal.returns
returns c small =
    let a = c.args in
    let e = place-undo a.first a.n a.k (omega arith) in
    let s = subst⁻¹ SmallSort e small in
    c.packed-2.ensures (omega arith) s.0 s.1.0 s.1.1 ∙ e
