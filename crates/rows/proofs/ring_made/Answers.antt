use mathlib.Core.Path.{ap, ◌∙◌}
use mathlib.Core.Bool.{Bool}
use Prim.Native.Nat.{ℕ}
use Rattle.sets.specs.Sets.{mem}
use Rattle.ties.specs.Ties.{ring_with}
use Rattle.rows.proofs.LentLaws.{order_made}
use Rattle.rows.proofs.ring_made.Goals as goal

pub returns : goal.returns
returns c =
    let a = c.args in
    let all = c.size-all in
    c.ring_with.ensures
    ∙ ap (λ (R : ℕ → ℕ → Bool). ring_with R (mem a.some) a.x.responsible) (order_made a.ops.now a.n all.result all.ensures a.x)
