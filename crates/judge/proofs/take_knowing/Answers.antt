use mathlib.Core.Path.{ap, ◌∙◌, subst⁻¹}
use Rattle.judge.specs.Judge.{judged, state_after}
use Rattle.judge.specs.Lent.{Fitting, state_in}
use Rattle.judge.specs.declared.Ruling.{Ruling}
use Rattle.judge.proofs.ChangeLaws.{ruling-fits}
use Rattle.judge.proofs.take_knowing.Goals as goal

pub returns : goal.returns
unfolding judged
returns c tables h k =
    let a = c.args in
    let r = c.rule_knowing-ruled in
    let s = state_in a.transactions.now a.ops.now a.n in
    let e = r.ensures tables h k in (
      ap (λ (x : Ruling). x.verdict) e,
      c.changed.ensures (subst⁻¹ (λ (x : Ruling). Fitting x.change) e (ruling-fits tables a.sheet.now h s a.event))
          ∙ ap (λ (x : Ruling). state_after x.change s) e,
    )
