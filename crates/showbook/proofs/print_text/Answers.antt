use Rattle.std.proofs.Common.{ℕ, sym}
use Rattle.std.proofs.lemmas.List.{length-replicate}
use Rattle.showbook.proofs.print_text.Goals as goal

pub slice_bounds-print_in-end-2 : goal.slice_bounds-print_in-end-2
slice_bounds-print_in-end-2 g c = sym (length-replicate {0} {A = ℕ} 720896 0)
