use Rattle.listing.proofs.TextLaws.{first, then}
use Rattle.listing.proofs.operation_line.Goals as goal

pub returns : goal.returns
returns c =
    first _ c.empty.ensures
    (then _ _ _ c.word.ensures
    (then _ _ _ c.number.ensures
    (then _ _ _ c.blank.ensures
    (then _ _ _ c.number-2.ensures
    (then _ _ _ c.blank-2.ensures
    (then _ _ _ c.mark.ensures
    (then _ _ _ c.blank-3.ensures
    (then _ _ _ c.number-3.ensures
    (then _ _ _ c.blank-4.ensures
    (then _ _ _ c.fate.ensures
    (then _ _ _ c.beside.ensures
    c.end.ensures)))))))))))
