use mathlib.Core.Path.{ap, ◌∙◌}
use Rattle.terms.specs.Refusals.{verdict_number}
use Rattle.terms.specs.declared.Event.{Event}
use Rattle.judge.specs.Judge.{judged}
use Rattle.judge.specs.Lent.{state_in}
use Rattle.probe.proofs.probe_take.Goals as goal

pub returns : goal.returns
returns c tables h =
    let a = c.args in
    c.number.ensures
    ∙ ap verdict_number ((c.take-taken.ensures tables h).0
    ∙ ap (λ (e : Event). (judged tables (state_in a.transactions.now a.ops.now a.n) e).verdict) c.event_by-event.ensures)
