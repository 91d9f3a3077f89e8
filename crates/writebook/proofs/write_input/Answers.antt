use Rattle.std.proofs.Common.{ℕ, sym}
use Rattle.std.proofs.lemmas.List.{length-replicate}
use Rattle.writebook.proofs.write_input.Goals as goal

pub slice_bounds-write_by-end : goal.slice_bounds-write_by-end
slice_bounds-write_by-end g c = sym (length-replicate {0} {A = ℕ} 1048577 0)
