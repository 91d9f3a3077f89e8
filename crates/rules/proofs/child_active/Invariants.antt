use mathlib.Core.Path.{◌≡◌}
use Rattle.laws.specs.Index.{any_below}
use Rattle.rules.specs.Lent.{transactions_in}
use Rattle.rules.specs.Rules.{active_child}
use Rattle.rules.proofs.child_active.Given as goal

abbrev pub invariant-loop-c : goal.invariant-loop-c
invariant-loop-c l = l.found ≡ any_below l.c-index (active_child (transactions_in l.transactions) l.m)
