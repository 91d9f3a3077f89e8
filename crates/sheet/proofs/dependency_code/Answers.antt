use native.Mathlib.Omega.{arith}
use Prim.Native.Nat.{ℕ, ◌+◌, ◌*◌}
use mathlib.Core.Path.{ap, ◌∙◌}
use Rattle.sheet.specs.Sheet.{dependency_in}
use Rattle.sheet.proofs.CodeLaws.{dependency-back}
use Rattle.sheet.proofs.dependency_code.Goals as goal

pub returns : goal.returns
returns c =
    let d = c.args.d in
    ap (λ (k : ℕ). dependency_in (d.dependent + 256 * d.base + 65536 * k)) c.number-k.ensures
    ∙ dependency-back d (omega arith) (omega arith)
