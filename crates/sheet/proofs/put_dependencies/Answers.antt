use native.Mathlib.Omega.{arith}
use Prim.Native.Nat.{◌+◌}
use mathlib.Core.Path.{refl, ◌∙◌}
use lib.ListN.{length-set}
use Rattle.terms.specs.Limits.{most_transactions}
use Rattle.sheet.proofs.HeldLaws.{dependencies-more, kept_more}
use Rattle.sheet.proofs.put_dependencies.Goals as goal

pub loop-i-init : goal.loop-i-init
loop-i-init c = (c.dependency_count-declared.ensures, c.requires, λ k l. absurd (omega arith), λ t l. refl)

pub loop-i-preserved : goal.loop-i-preserved
loop-i-preserved c =
    let a = c.args in
    let l = c.loop-i in
    let x = c.dependency_code.result in (
      l.invariant.0,
      length-set l.sheet (most_transactions + l.i) x ∙ l.invariant.1,
      dependencies-more a.tables l.i l.sheet x l.invariant.2 (omega arith) c.dependency_code.ensures,
      kept_more a.sheet.now l.sheet l.i x l.invariant.3,
    )

pub returns : goal.returns
returns c =
    let l = c.loop-i in
    (l.invariant.1, (λ i h. l.invariant.2 i (omega arith), l.invariant.3))
