use Rattle.std.proofs.Common.{arith, length, length-take-le, sym, ap, ◌∙◌}
use Rattle.listing.proofs.TextLaws.{put-fits, put-kept}
use Rattle.telling.proofs.print_line.Goals as goal

pub slice_bounds-room-end : goal.slice_bounds-room-end
slice_bounds-room-end g c = omega (arith, put-fits _ _ c.in-Some.n c.in-Some.ensures.0, ap length c.put.ensures.1 ∙ put-kept _ _)

pub slice_bounds-write_all-end : goal.slice_bounds-write_all-end
slice_bounds-write_all-end g c =
    sym (length-take-le _ _ (omega (arith, put-fits _ _ c.in-Some.n c.in-Some.ensures.0, ap length c.put.ensures.1 ∙ put-kept _ _)))
