use Prim.Native.Nat.{ℕ}
use mathlib.Core.Path.{sym, ap, ◌∙◌}
use Rattle.sagalib.specs.Numbers.{four, outcome_numbers}
use Rattle.sagalib.proofs.outcome_numbers.Goals as goal

pub returns-in-Err : goal.returns-in-Err
returns-in-Err c =
    let f = c.in-Err.refused in
    ap (λ (n : ℕ). four n f.events f.place 0) c.number-number.ensures ∙ ap (outcome_numbers c.args.events) (sym c.in-Err.is)
