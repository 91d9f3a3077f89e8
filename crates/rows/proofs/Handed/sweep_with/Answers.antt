use native.Mathlib.Omega.{arith}
use mathlib.Core.Path.{refl, ◌∙◌}
use borrow.Author.Tests.{eq-eqb, ne_eqb}
use Rattle.rows.proofs.Handed.sweep_with.Goals as goal

pub returns-then-total-at : goal.returns-then-total-at
returns-then-total-at c n op h e s =
    let a = c.args in
    c.sweep.ensures n op h (λ i f l. e i f l ∙ rw (ne_eqb i a.at (λ g. omega arith))) s

pub sweep-requires-3 : goal.sweep-requires-3
sweep-requires-3 c = (omega arith, λ i h l. c.requires i (omega arith) (λ e. omega arith))

pub returns : goal.returns
returns c n op h e s =
    let a = c.args in
    c.sweep-3.ensures n op (omega arith) (λ i f l. e i f (omega arith) ∙ rw (ne_eqb i a.at (λ g. omega arith)))
    (c.sweep_one.ensures n op a.at (omega arith) (e a.at (omega arith) (omega arith) ∙ rw (eq-eqb a.at a.at refl))
    (c.sweep-2.ensures n op h (λ i f l. e i (omega arith) l ∙ rw (ne_eqb i a.at (λ g. omega arith))) s))
