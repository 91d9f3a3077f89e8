use borrow.Author.Rules.{rules}
use native.Mathlib.Omega.{arith}
use mir.Val.{Fits}
use mir.Syntax.{w8}
use mathlib.Core.Path.{◌≡◌}
use lib.ListN.{length, length-take, get_or, take}
use Rattle.std.proofs.lemmas.List.{get_or-take}
use Rattle.terms.specs.Limits.{most_sagas}
use Rattle.tables.proofs.SortLaws.{first-none, first_more}
use Rattle.tables.proofs.saga_at.Goals as goal

pub loop-i-init : goal.loop-i-init
loop-i-init c = (c.saga_count-g.ensures, omega arith, omega arith, first-none c.args.tables)

pub loop-i-preserved : goal.loop-i-preserved
loop-i-preserved c =
    let a = c.args in
    let l = c.loop-i in
    let g = c.saga_count-g.result in
    let full : length a.tables.steps ≡ most_sagas = search rules in
    let b : Fits w8 (get_or (take g a.tables.steps) l.i 0) = search rules in
    let is : get_or (take g a.tables.steps) l.i 0 ≡ get_or a.tables.steps l.i 0 = get_or-take g a.tables.steps l.i 0 (omega (arith, length-take g a.tables.steps)) in
    (omega arith, omega arith, omega arith, rw is (first_more a.tables full l.i l.first l.invariant.3 (omega (arith, length-take g a.tables.steps))))
