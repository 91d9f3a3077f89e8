use native.Mathlib.Omega.{arith}
use mathlib.Core.Path.{sym, ◌∙◌}
use Rattle.cells.proofs.CellLaws.{made-stored, made_none, made-unfit}
use Rattle.cells.proofs.made.Goals as goal

pub returns-then-not-fits : goal.returns-then-not-fits
returns-then-not-fits c =
    let a = c.args in
    made-unfit a.ops.now a.n a.op (sym c.fits.ensures ∙ c.if-not-fits.true)

pub returns-then-n-ge-MOST : goal.returns-then-n-ge-MOST
returns-then-n-ge-MOST c =
    let a = c.args in
    made_none a.ops.now a.n a.op (sym c.fits.ensures ∙ c.if-not-fits.false) (omega arith)

pub returns : goal.returns
returns c =
    let a = c.args in
    made-stored a.ops.now a.n c.cell_of.result a.op (sym c.fits.ensures ∙ c.if-not-fits.false) c.cell_of.ensures (omega arith)
