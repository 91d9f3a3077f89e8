use mathlib.Core.Path.{ap, ◌∙◌}
use Rattle.sagalib.specs.Numbers.{mend_numbers, mended_numbers}
use Rattle.sagalib.proofs.saga_mend.Goals as goal

pub returns : goal.returns
returns c =
    let told = c.mend-mending.ensures in (
      c.mend_numbers-numbers.ensures ∙ ap mend_numbers told.0,
      (c.mended_numbers-which.ensures ∙ ap mended_numbers told.0, told.1),
    )
