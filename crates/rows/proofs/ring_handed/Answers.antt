use Prim.Native.Nat.{ℕ}
use mathlib.Core.Path.{ap, ◌∙◌}
use mathlib.Core.Bool.{Bool}
use Rattle.sets.specs.Sets.{mem}
use Rattle.ties.specs.Ties.{ring_with}
use Rattle.rows.proofs.LentLaws.{order-handed}
use Rattle.rows.proofs.ring_handed.Goals as goal

pub returns : goal.returns
returns c =
    let a = c.args in
    let all = c.size-all in
    c.ring_with.ensures
    ∙ ap (λ (R : ℕ → ℕ → Bool). ring_with R (mem a.some) a.receiver) (order-handed a.ops.now a.n all.result all.ensures a.t a.receiver _)
