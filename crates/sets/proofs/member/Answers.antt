use mathlib.Core.Path.{sym, ap}
use Prim.Native.Nat.{ℕ, ◌/◌, ◌^◌}
use lib.Dec.{eqb}
use lib.Bits.{and_mask}
use Rattle.sets.specs.Sets.{mem}
use Rattle.sets.proofs.SetLaws.{mem-past}
use Rattle.sets.proofs.member.Goals as goal

pub returns-then-t-ge-TRANSACTIONS : goal.returns-then-t-ge-TRANSACTIONS
returns-then-t-ge-TRANSACTIONS c = sym (mem-past c.args.set c.args.t c.ranges.set.fits c.if-t-ge-TRANSACTIONS.true)

pub returns : goal.returns
unfolding mem
returns c = ap (λ (n : ℕ). eqb n 1) (and_mask (c.args.set / 2 ^ c.args.t) 1)
