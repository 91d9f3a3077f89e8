use Rattle.std.proofs.Common.{arith, length-take-le, sym}
use Rattle.std.proofs.lemmas.Result.{err_from_is_err_and}
use Rattle.telling.proofs.TellLaws.{read_fits, read-unread, read-understood}
use Rattle.telling.proofs.tell_in.Goals as goal

pub returns-in_err-counts : goal.returns-in_err-counts
returns-in_err-counts g c =
    let p = err_from_is_err_and c.from_residual.result c.from_residual.ensures.1 in
    rw (p.1, p.2) (read-unread _ _ _ _ c.args.text.now _ c.in_err-counts.ensures.value)

pub slice_bounds-plan-end : goal.slice_bounds-plan-end
slice_bounds-plan-end g c =
    let fits = read_fits _ _ _ _ c.args.text.now c.in_ok-counts.counts c.in_ok-counts.ensures.value in
    omega (arith, fits.names-fit)

pub slice_bounds-plan-end-2 : goal.slice_bounds-plan-end-2
slice_bounds-plan-end-2 g c =
    let fits = read_fits _ _ _ _ c.args.text.now c.in_ok-counts.counts c.in_ok-counts.ensures.value in
    sym (length-take-le _ _ (omega (arith, fits.names-fit)))

pub slice_bounds-plan-end-3 : goal.slice_bounds-plan-end-3
slice_bounds-plan-end-3 g c =
    let fits = read_fits _ _ _ _ c.args.text.now c.in_ok-counts.counts c.in_ok-counts.ensures.value in
    omega (arith, fits.ends-fit)

pub slice_bounds-plan-end-4 : goal.slice_bounds-plan-end-4
slice_bounds-plan-end-4 g c =
    let fits = read_fits _ _ _ _ c.args.text.now c.in_ok-counts.counts c.in_ok-counts.ensures.value in
    sym (length-take-le _ _ (omega (arith, fits.ends-fit)))

pub slice_bounds-plan-end-5 : goal.slice_bounds-plan-end-5
slice_bounds-plan-end-5 g c =
    let fits = read_fits _ _ _ _ c.args.text.now c.in_ok-counts.counts c.in_ok-counts.ensures.value in
    omega (arith, fits.steps-fit)

pub slice_bounds-plan-end-6 : goal.slice_bounds-plan-end-6
slice_bounds-plan-end-6 g c =
    let fits = read_fits _ _ _ _ c.args.text.now c.in_ok-counts.counts c.in_ok-counts.ensures.value in
    sym (length-take-le _ _ (omega (arith, fits.steps-fit)))

pub slice_bounds-plan-end-7 : goal.slice_bounds-plan-end-7
slice_bounds-plan-end-7 g c =
    let fits = read_fits _ _ _ _ c.args.text.now c.in_ok-counts.counts c.in_ok-counts.ensures.value in
    omega (arith, fits.lists-fit)

pub slice_bounds-plan-end-8 : goal.slice_bounds-plan-end-8
slice_bounds-plan-end-8 g c =
    let fits = read_fits _ _ _ _ c.args.text.now c.in_ok-counts.counts c.in_ok-counts.ensures.value in
    sym (length-take-le _ _ (omega (arith, fits.lists-fit)))

pub returns-in_err-print_lines : goal.returns-in_err-print_lines
returns-in_err-print_lines g c =
    let p = err_from_is_err_and c.from_residual-in_err-print_lines.result c.from_residual-in_err-print_lines.ensures.1 in
    rw (p.1, p.2) (read-understood _ _ _ _ c.args.text.now c.in_ok-counts.counts c.in_ok-counts.ensures.value)

pub returns : goal.returns
returns g c = read-understood _ _ _ _ c.args.text.now c.in_ok-counts.counts c.in_ok-counts.ensures.value
