use Prim.Native.Nat.{ℕ}
use mathlib.Core.Path.{sym, ap, ◌∙◌}
use Rattle.sagalib.specs.Numbers.{four, mend_numbers}
use Rattle.sagalib.proofs.mend_numbers.Goals as goal

pub returns-in-Own : goal.returns-in-Own
returns-in-Own c = ap mend_numbers (sym c.in-Own.is)

pub returns-in-Wrote : goal.returns-in-Wrote
returns-in-Wrote c = ap mend_numbers (sym c.in-Wrote.is)

pub returns-in-Refuses : goal.returns-in-Refuses
returns-in-Refuses c =
    ap (λ (n : ℕ). four n c.in-Refuses.kept c.in-Refuses.place 0) c.number-number.ensures ∙ ap mend_numbers (sym c.in-Refuses.is)
