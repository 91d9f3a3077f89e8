use Rattle.sheet.proofs.CodeLaws.{packed-back}
use Rattle.sheet.proofs.packed.Goals as goal

pub returns : goal.returns
returns c = let a = c.args in packed-back a.k a.f a.n a.i
