use Rattle.script.specs.Forms.{table}
use mathlib.Core.Path.{refl}
use Rattle.script.proofs.first_line.Goals as goal

pub line_for-requires : goal.line_for-requires
unfolding table
line_for-requires c = refl
