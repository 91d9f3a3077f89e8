-- What is promised of rings, kept.
use Rattle.ties.specs.Promises.{RingsExact}
use Rattle.ties.proofs.RingLaws.{ring-leads, leads-ring, ring-free}

pub rings-exact : RingsExact
rings-exact ops = record { exact = λ t. (ring-leads ops t, leads-ring ops t); first_is_free = λ t f. ring-free ops t f }
