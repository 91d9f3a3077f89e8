use mathlib.Core.Path.{◌≡◌}
use Rattle.laws.specs.Index.{highest}
use Rattle.rules.specs.States.{is_active, own}
use Rattle.closing.proofs.active_step.Given as goal

abbrev pub invariant-loop-i : goal.invariant-loop-i
invariant-loop-i g l = highest l.n (λ k. is_active (own (g.S.Standing.transactions l.stand) l.first k)) ≡ highest l.i (λ k. is_active (own (g.S.Standing.transactions l.stand) l.first k))
