use native.Mathlib.Omega.{arith}
use mathlib.Core.Path.{sym, ◌∙◌}
use Prim.Native.Nat.{◌-◌, ◌≤◌}
use Rattle.terms.specs.Limits.{most_transactions, most_dependencies}
use Rattle.terms.specs.declared.Refusal.TheVariants.{BadCount}
use Rattle.number.proofs.FieldLaws.{within-range}
use Rattle.tables.proofs.rest_from.Goals as goal

pub overflow_add-n : goal.overflow_add-n
overflow_add-n c =
    let a = c.args in
    let plain = c.in-Ok.field in
    let r = within-range a.most a.book.now a.at 0 (most_transactions - a.sum) BadCount plain.0 plain.1 (sym c.within.ensures ∙ c.in-Ok.is) in
    let l : a.sum ≤ most_transactions = c.requires.0 in
    omega (arith, r.1)

pub dependencies_from-read-requires : goal.dependencies_from-read-requires
dependencies_from-read-requires c =
    let a = c.args in
    let plain = c.in-Ok.field in
    let objects = c.in-Ok-within.field in
    let count = c.in-Ok-within-2.field in
    let r = within-range a.most a.book.now a.at 0 (most_transactions - a.sum) BadCount plain.0 plain.1 (sym c.within.ensures ∙ c.in-Ok.is) in
    let q = within-range a.most a.book.now objects.1 0 most_dependencies BadCount count.0 count.1 (sym c.within-3.ensures ∙ c.in-Ok-within-2.is) in
    let l : a.sum ≤ most_transactions = c.requires.0 in (
      omega (arith, q.1),
      (omega (arith, r.1), c.requires.1),
    )
