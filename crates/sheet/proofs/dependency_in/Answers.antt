use Prim.Native.Nat.{◌/◌, ◌%◌}
use Rattle.sheet.specs.Sheet.{dependency_in}
use Rattle.sheet.proofs.dependency_in.Goals as goal

pub returns : goal.returns
unfolding dependency_in
returns c =
    let a = c.args in
    λ i. record { dependent = a.c % 256; base = a.c / 256 % 256; kind = c.of-kind.ensures i }
