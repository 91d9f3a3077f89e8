use mathlib.Core.Path.{sym, ap, ◌∙◌}
use mathlib.Core.Bool.{Bool, not}
use Prim.Native.Nat.{ℕ}
use Rattle.terms.specs.Limits.{most_transactions}
use Rattle.sets.specs.Reach.{leads_to}
use Rattle.ties.specs.Ties.{ties_of, on_ring}
use Rattle.ties.proofs.TieLaws.{ties-small}
use Rattle.rings.specs.Passes.{read_at}
use Rattle.rings.proofs.SpreadLaws.{spread-back}
use Rattle.rings.proofs.LentLaws.{order-read, free-of-rings}
use Rattle.rings.proofs.on_ring.Goals as goal

pub returns-then-not-preceded : goal.returns-then-not-preceded
returns-then-not-preceded c =
    let a = c.args in
    let all = c.size-all in
    sym (free-of-rings a.ops.now a.n all.result all.ensures a.t c.preceded.result c.preceded.ensures (ap not c.if-not-preceded.true))

pub returns : goal.returns
unfolding on_ring
returns c =
    let a = c.args in
    let all = c.size-all in
    let s = c.spread in
    c.member.ensures
    ∙ spread-back (ties_of all.result (read_at a.ops.now)) (ties-small all.result (read_at a.ops.now)) a.t s.result s.ensures
    ∙ ap (λ (R : ℕ → ℕ → Bool). leads_to most_transactions R a.t a.t) (order-read a.ops.now a.n all.result all.ensures)
