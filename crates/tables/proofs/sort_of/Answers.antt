use borrow.Author.Rules.{rules}
use native.Mathlib.Omega.{arith}
use mir.Val.{Fits}
use mir.Syntax.{w8}
use mathlib.Core.Path.{◌≡◌, ap, ◌∙◌}
use Prim.Native.Nat.{ℕ, ◌-◌}
use lib.ListN.{length, length-take, get_or, take}
use Rattle.std.proofs.lemmas.List.{get_or-take}
use Rattle.tables.specs.Sorts.{place_of}
use Rattle.terms.specs.Limits.{most_sagas}
use Rattle.tables.proofs.SortLaws.{passed_none, passed_here, passed-more, passed-plain, passed-all}
use Rattle.tables.proofs.sort_of.Goals as goal

pub loop-steps-init : goal.loop-steps-init
loop-steps-init c = (c.saga_count-g.ensures, omega arith, omega arith, passed_none c.args.tables c.args.t)

pub returns-then-t-next : goal.returns-then-t-next
returns-then-t-next c =
    let a = c.args in
    let l = c.loop-steps in
    let i = l.steps-index in
    let g = c.saga_count-g.result in
    let full : length a.tables.steps ≡ most_sagas = search rules in
    let is : get_or (take g a.tables.steps) i 0 ≡ get_or a.tables.steps i 0 = get_or-take g a.tables.steps i 0 (omega (arith, length-take g a.tables.steps)) in
    c.within.ensures
    ∙ ap (λ (n : ℕ). place_of l.first n (a.t - l.first)) is
    ∙ passed_here a.tables full i a.t l.first l.invariant.3 (omega (arith, length-take g a.tables.steps)) (omega (arith, is))

pub loop-steps-preserved : goal.loop-steps-preserved
loop-steps-preserved c =
    let a = c.args in
    let l = c.loop-steps in
    let i = l.steps-index in
    let g = c.saga_count-g.result in
    let full : length a.tables.steps ≡ most_sagas = search rules in
    let b : Fits w8 (get_or (take g a.tables.steps) i 0) = search rules in
    let is : get_or (take g a.tables.steps) i 0 ≡ get_or a.tables.steps i 0 = get_or-take g a.tables.steps i 0 (omega (arith, length-take g a.tables.steps)) in (
      omega arith,
      omega arith,
      omega arith,
      rw is (passed-more a.tables full i a.t l.first l.invariant.3 (omega (arith, length-take g a.tables.steps)) (omega (arith, is))),
    )

pub returns-then-past-plain : goal.returns-then-past-plain
returns-then-past-plain c =
    let a = c.args in
    let l = c.loop-steps in
    let full : length a.tables.steps ≡ most_sagas = search rules in
    passed-plain a.tables full l.steps-index a.t l.first l.invariant.3 (omega arith) (omega arith)

pub returns : goal.returns
returns c =
    let a = c.args in
    let l = c.loop-steps in
    let full : length a.tables.steps ≡ most_sagas = search rules in
    passed-all a.tables full l.steps-index a.t l.first l.invariant.3 (omega arith) (omega arith)
