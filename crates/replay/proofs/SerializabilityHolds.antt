-- Serializability, proved.
use native.Mathlib.Omega.{arith}
use mathlib.Core.Path.{ap}
use mathlib.Core.List.{List}
use Rattle.terms.specs.declared.Event.{Event}
use Rattle.ties.specs.Operations.{is_aborted}
use Rattle.tables.specs.declared.Tables.{Tables}
use Rattle.histories.specs.Histories.{reached}
use Rattle.histories.proofs.Lasts.{size-count}
use Rattle.histories.proofs.Orders.{bounded, stays-in}
use Rattle.replay.specs.Promises.{Serializability}
use Rattle.replay.specs.Replay.{order_of}
use Rattle.replay.proofs.Courses.{only-course}
use Rattle.replay.proofs.KeptTies.{Limited, is-tie, tie-is}
use Rattle.replay.proofs.OrderLaws.{order-course, order-short}
use Rattle.replay.proofs.Ranks.{leads-up, ranked}
use Rattle.replay.proofs.ReplayOrders.{course-replays, replays-course}

-- the numbers of accepted operations are within the limits
limited : (tables : Tables) (es : List Event) → Limited (reached tables es).ops
limited tables es p l c =
    let h = bounded tables es in
    stays-in (reached tables es) h p (omega (arith, size-count (reached tables es) h.lasts)) (ap is_aborted c)

pub serializability-holds : Serializability
serializability-holds tables es =
    let ops = (reached tables es).ops in
    let small = limited tables es in
    let course = order-course ops small (ranked tables es) in
    record {
      ties = λ a b. (tie-is ops a b, is-tie ops a b small);
      no_ring = λ t w. omega (arith, leads-up (ranked tables es) w);
      order = course-replays ops small (order_of ops) course;
      only = λ order o. only-course ops (replays-course ops small order o) course;
      short = order-short ops;
    }
