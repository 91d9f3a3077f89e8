use native.Mathlib.Omega.{arith}
use mathlib.Core.Path.{refl, sym, ◌∙◌}
use lib.ListN.{get_or}
use Rattle.script.proofs.FormLaws.{fits-none, fits_not, fits_more, takes-le}
use Rattle.script.proofs.fits.Goals as goal

pub loop-b-init : goal.loop-b-init
loop-b-init c = (omega arith, refl)

pub returns-then-not-is_own : goal.returns-then-not-is_own
returns-then-not-is_own c = sym (c.loop-b.invariant.1 ∙ fits_not c.args.form.now c.args.fields.now c.loop-b.b-index c.loop-b.n (omega arith) (sym c.is_own.ensures ∙ c.if-not-is_own.true))

pub overflow_add-n : goal.overflow_add-n
overflow_add-n c = let t = takes-le (get_or c.args.form.now c.loop-b.b-index 0) in omega (arith, c.takes-n.ensures)

pub loop-b-preserved : goal.loop-b-preserved
loop-b-preserved c = let t = takes-le (get_or c.args.form.now c.loop-b.b-index 0) in (omega (arith, c.takes-n.ensures), c.loop-b.invariant.1 ∙ fits_more c.args.form.now c.args.fields.now c.loop-b.b-index c.loop-b.n (omega arith) c.takes-n.result c.takes-n.ensures (sym c.is_own.ensures ∙ c.if-not-is_own.false))

pub returns : goal.returns
returns c = sym (c.loop-b.invariant.1 ∙ fits-none c.args.form.now c.args.fields.now c.loop-b.b-index c.loop-b.n (omega arith))
