use borrow.Author.Rules.{rules}
use native.Mathlib.Omega.{arith}
use mir.Val.{Fits}
use mir.Syntax.{w8}
use mathlib.Core.Path.{◌≡◌, ◌∙◌, subst⁻¹}
use lib.ListN.{length, get_or, length-set}
use Rattle.terms.specs.Limits.{most_sagas}
use Rattle.tables.proofs.SortLaws.{passed_none, passed_here, passed-more}
use Rattle.sheet.specs.Sheet.{SmallSort}
use Rattle.sheet.proofs.CodeLaws.{sort-small}
use Rattle.sheet.proofs.HeldLaws.{passed-rest, sorts-more}
use Rattle.sheet.proofs.put_sorts.Goals as goal

pub loop-t-init : goal.loop-t-init
loop-t-init c =
    let a = c.args in
    (omega arith, omega arith, c.saga_count-sagas.ensures, omega arith, c.requires, λ u l. passed_none a.tables u, λ few k l. absurd (omega arith))

pub overflow_mul-own : goal.overflow_mul-own
overflow_mul-own c =
    let b : Fits w8 (get_or c.args.tables.steps c.loop-t.i 0) = search rules in
    omega arith

pub loop-t-preserved-then-k-own : goal.loop-t-preserved-then-k-own
loop-t-preserved-then-k-own c =
    let a = c.args in
    let l = c.loop-t in
    let x = c.place_code.result in
    let full : length a.tables.steps ≡ most_sagas = search rules in
    let here = passed_here a.tables full l.i l.t l.first (l.invariant.5 l.t (omega arith)) (omega arith) (omega arith) in (
      omega arith,
      omega arith,
      l.invariant.2,
      omega arith,
      length-set l.sheet l.t x ∙ l.invariant.4,
      λ u h. l.invariant.5 u (omega arith),
      λ few.
          sorts-more a.tables l.t l.sheet x (l.invariant.6 few) (omega arith)
          (c.place_code.ensures (subst⁻¹ SmallSort here (sort-small a.tables few l.t)) ∙ here),
    )

pub loop-t-preserved-else-k-own : goal.loop-t-preserved-else-k-own
loop-t-preserved-else-k-own c =
    let a = c.args in
    let l = c.loop-t in
    let full : length a.tables.steps ≡ most_sagas = search rules in (
      omega arith,
      omega arith,
      l.invariant.2,
      omega arith,
      l.invariant.4,
      λ u h. passed-more a.tables full l.i u l.first (l.invariant.5 u h) (omega arith) (omega arith),
      l.invariant.6,
    )

pub loop-t-preserved : goal.loop-t-preserved
loop-t-preserved c =
    let a = c.args in
    let l = c.loop-t in
    let x = c.rest_code.result in
    let full : length a.tables.steps ≡ most_sagas = search rules in (
      omega arith,
      omega arith,
      l.invariant.2,
      omega arith,
      length-set l.sheet l.t x ∙ l.invariant.4,
      λ u h. l.invariant.5 u (omega arith),
      λ few.
          sorts-more a.tables l.t l.sheet x (l.invariant.6 few) (omega arith)
          (c.rest_code.ensures ∙ passed-rest a.tables full l.i l.t l.first (l.invariant.5 l.t (omega arith)) (omega arith) (omega arith)),
    )

pub returns : goal.returns
returns c =
    let l = c.loop-t in
    (l.invariant.4, λ few t h. l.invariant.6 few t (omega arith))
