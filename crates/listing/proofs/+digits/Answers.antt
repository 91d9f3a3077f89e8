use native.Mathlib.Omega.{arith}
use Prim.Native.Nat.{◌/◌}
use Rattle.listing.proofs.DigitLaws.{decimal-le}
use Rattle.listing.proofs.LayLaws.{digit-more, one-digit, two-more}
use Rattle.listing.proofs.+digits.Goals as goal

pub returns-then-n-lt10 : goal.returns-then-n-lt10
returns-then-n-lt10 t c = one-digit c.args.n (omega arith)

pub returns-then-n-lt100 : goal.returns-then-n-lt100
returns-then-n-lt100 t c =
    let n = c.args.n in
    omega (arith, digit-more n (omega arith) (omega arith), one-digit (n / 10) (omega arith))

pub overflow_add-result : goal.overflow_add-result
overflow_add-result t c = omega (arith, c.digits-front.ensures, decimal-le (c.args.n / 100))

pub returns : goal.returns
returns t c =
    let n = c.args.n in
    omega (arith, c.digits-front.ensures, two-more n (omega arith) (omega arith))
