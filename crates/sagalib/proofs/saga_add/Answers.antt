use mathlib.Core.Path.{ap, ◌∙◌}
use Rattle.totals.specs.Figures.{add_answer, added_to, answer_number}
use Rattle.totals.specs.declared.Totals.{Totals}
use Rattle.sagalib.specs.Numbers.{totals_numbers}
use Rattle.sagalib.proofs.saga_add.Goals as goal

pub returns : goal.returns
returns c =
    let book = c.args.book.now in
    let before = c.totals_in-before.ensures in
    let added = c.add-added.ensures in (
      c.answer_number-number.ensures ∙ ap answer_number (added.0 ∙ ap (λ (t : Totals). add_answer t book) before),
      ap totals_numbers (added.1 ∙ ap (λ (t : Totals). added_to t book) before),
    )
