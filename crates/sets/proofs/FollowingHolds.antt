-- What is promised of following a relation, proved.
use mathlib.Core.Bool.{◌&&◌}
use lib.Dec.{ltb}
use Rattle.laws.proofs.Bools.{and_on, on_and}
use Rattle.sets.specs.Reach.{Following}
use Rattle.sets.proofs.ReachLaws.{computed-leads, leads-computed, leads-more}

pub following : Following
following =
    record {
      exact = λ n R a b. (computed-leads n R a b, leads-computed n R a b);
      monotone = λ n R Q f a b h. leads-computed n Q a b
          (leads-more
          (λ x y e.
          let p = on_and (ltb x n) (ltb y n && R x y) e in
          let q = on_and (ltb y n) (R x y) p.1 in
          and_on (ltb x n) (ltb y n && Q x y) p.0 (and_on (ltb y n) (Q x y) q.0 (f x y q.1)))
          (computed-leads n R a b h));
    }
