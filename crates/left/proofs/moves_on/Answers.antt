use mathlib.Core.Logic.{⊎_elim}
use mathlib.Core.Path.{sym, ap, ◌∙◌}
use Rattle.sheet.specs.Sheet.{sort_at}
use Rattle.left.specs.Left.{moves_by}
use Rattle.left.proofs.moves_on.Goals as goal

pub returns-in-Begin : goal.returns-in-Begin
returns-in-Begin c =
    let by = moves_by (sort_at c.args.sheet.now) in
    c.sort_at.ensures
    ∙ ⊎_elim (λ e. ap by (sym e)) (⊎_elim (λ e. ap by (sym e)) (⊎_elim (λ e. ap by (sym e)) (λ (m, e). ap by (sym e)))) c.in-Begin.is
