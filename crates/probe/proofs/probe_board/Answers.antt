use mathlib.Core.Path.{ap, ◌∙◌}
use lib.ListN.{get_or}
use Rattle.terms.specs.Refusals.{verdict_number}
use Rattle.terms.specs.declared.Event.{Event}
use Rattle.judge.specs.Judge.{judged}
use Rattle.judge.specs.Lent.{state_in}
use Rattle.left.specs.Left.{left_then}
use Rattle.probe.proofs.probe_board.Goals as goal

pub returns : goal.returns
returns c tables h =
    let a = c.args in
    let t = c.take-shown.ensures tables h in
    let e = c.event_by-event.ensures in
    let s = state_in a.transactions.now a.ops.now (get_or a.board.now 0 0) in (
      c.number.ensures ∙ ap verdict_number (t.0 ∙ ap (λ (x : Event). (judged tables s x).verdict) e),
      (t.1.0 ∙ ap (λ (x : Event). (judged tables s x).state) e, t.1.1 ∙ ap (left_then tables s (get_or a.board.now 1 0)) e),
    )
