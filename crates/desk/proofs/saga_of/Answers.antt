use native.Mathlib.Omega.{arith}
use mathlib.Core.Path.{◌≡◌, refl, ◌∙◌}
use mathlib.Core.Bool.{Bool, true, false}
use Rattle.std.specs.Int.{from_bool}
use Rattle.laws.specs.Index.{one}
use Rattle.desk.proofs.QuestionLaws.{saga-none, saga-there}
use Rattle.desk.proofs.saga_of.Goals as goal

one-is : (so : Bool) → from_bool so ≡ one so
one-is true = refl
one-is false = refl

pub returns-then-i-saga_count : goal.returns-then-i-saga_count
returns-then-i-saga_count c =
    let a = c.args in
    saga-there a.tables a.state a.index (omega (arith, c.saga_count.ensures)) _
    c.closing-step.ensures _ c.outstanding-owed.ensures _ c.settled-settled.ensures _
    (c.from-done.ensures ∙ one-is c.settled-settled.result) _
    c.saga_numbers.ensures

pub returns : goal.returns
returns c =
    let a = c.args in
    saga-none a.tables a.state a.index (omega (arith, c.saga_count.ensures))
