use borrow.Author.Rules.{rules}
use native.Mathlib.Omega.{arith}
use Prim.Native.Nat.{ℕ}
use mathlib.Core.Path.{◌≡◌, ap, ◌∙◌}
use mathlib.Core.List.{List, ◌++◌}
use lib.ListN.{length, drop}
use Rattle.replay.specs.Replay.{order_of}
use Rattle.replay.proofs.CodeLaws.{order-long, copy-small, copy_done}
use Rattle.replay.proofs.put_order.Goals as goal

pub returns-then-room-n : goal.returns-then-room-n
returns-then-room-n c =
    let a = c.args in
    let o = c.order_of-order in
    let whole : length o.result.numbers ≡ 64 = search rules in
    let long : o.result.count ≡ length (order_of a.ops) = order-long _ o.result.numbers o.result.count o.ensures.0 (omega (arith, o.ensures.1)) in
    copy-small (order_of a.ops) a.room.now (omega (arith, long, c.if-room-n.true))

pub returns : goal.returns
returns c =
    let a = c.args in
    let o = c.order_of-order in
    let whole : length o.result.numbers ≡ 64 = search rules in
    let long : o.result.count ≡ length (order_of a.ops) = order-long _ o.result.numbers o.result.count o.ensures.0 (omega (arith, o.ensures.1)) in
    let done = copy_done (order_of a.ops) a.room.now o.result.count long (omega arith) in
    (done.0, ap (λ (l : List ℕ). l ++ drop o.result.count a.room.now) (c.copy_from_slice.ensures.after ∙ o.ensures.0) ∙ done.1)
