use native.Mathlib.Omega.{arith}
use mathlib.Core.Path.{refl, sym, ap, ◌∙◌}
use Prim.Native.Nat.{◌-◌, ◌+◌}
use native.Mathlib.Nat.{sub-zero}
use Rattle.terms.specs.Limits.{most_steps}
use Rattle.terms.specs.declared.Refusal.TheVariants.{BadCount}
use Rattle.number.proofs.FieldLaws.{within-range}
use Rattle.tables.specs.declared.Tables.{Tables}
use Rattle.tables.specs.Reading.{sagas_from}
use Rattle.tables.proofs.ReadingLaws.{sagas-none, sagas-end, sagas-stop, sagas-large, sagas-more}
use Rattle.tables.proofs.sagas_from.Goals as goal

pub loop-i-init : goal.loop-i-init
loop-i-init c =
    let a = c.args in (
      omega arith,
      ap (λ (t : Tables). t.sagas) c.empty-tables.ensures ∙ sagas-none,
      rw (sub-zero) (ap (sagas_from a.most a.book.now a.count a.start 0) (sym c.empty-tables.ensures)),
    )

pub returns-in-Err : goal.returns-in-Err
returns-in-Err c =
    let l = c.loop-i in
    let a = c.args in
    c.sagas_stopped.ensures
    ∙ sym (l.invariant.2 ∙ sagas-stop a.most a.book.now l.at l.sum l.tables (a.count - l.i) (a.count - (l.i + 1)) (omega arith) _ _ (sym c.within.ensures ∙ c.in-Err.is))

pub overflow_mul-more : goal.overflow_mul-more
overflow_mul-more c = omega (arith, (within-range _ _ _ 1 most_steps BadCount _ _ (sym c.within.ensures ∙ c.in-Ok.is)).1)

pub overflow_add-more : goal.overflow_add-more
overflow_add-more c = omega (arith, (within-range _ _ _ 1 most_steps BadCount _ _ (sym c.within.ensures ∙ c.in-Ok.is)).1)

pub returns-then-more-gt-TRANSACTIONS : goal.returns-then-more-gt-TRANSACTIONS
returns-then-more-gt-TRANSACTIONS c =
    let l = c.loop-i in
    let a = c.args in
    c.sagas_stopped-then-more-gt-TRANSACTIONS.ensures
    ∙ sym (l.invariant.2 ∙ sagas-large a.most a.book.now l.at l.sum l.tables (a.count - l.i) (a.count - (l.i + 1)) (omega arith) _ _ (sym c.within.ensures ∙ c.in-Ok.is) (omega arith))

pub loop-i-preserved : goal.loop-i-preserved
loop-i-preserved c =
    let l = c.loop-i in
    let a = c.args in (
      omega arith,
      refl,
      l.invariant.2 ∙ sagas-more a.most a.book.now l.at l.sum l.tables (a.count - l.i) (a.count - (l.i + 1)) (omega arith) _ _ (sym c.within.ensures ∙ c.in-Ok.is) l.i l.invariant.1 (omega arith),
    )

pub returns : goal.returns
returns c =
    let l = c.loop-i in
    let a = c.args in
    sym (l.invariant.2 ∙ sagas-end a.most a.book.now l.at l.sum l.tables (a.count - l.i) (omega arith))
