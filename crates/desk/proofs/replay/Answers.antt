use mathlib.Core.Path.{ap, ◌∙◌}
use Rattle.ties.specs.declared.Ops.{Ops}
use Rattle.replay.specs.Replay.{copy_answer, copy_room, order_of}
use Rattle.desk.proofs.QuestionLaws.{ops-are}
use Rattle.desk.proofs.StandLaws.{is_whole}
use Rattle.desk.proofs.replay.Goals as goal

pub returns : goal.returns
returns c =
    λ j sheet transactions ws steps st.
    let a = c.args in
    let whole = is_whole j sheet transactions a.ops.now ws steps a.counts.now st in
    let put = c.put_order in
    let there = c.ops_of-made.ensures whole.1 ∙ ops-are j sheet transactions a.ops.now ws steps a.counts.now st in (
      put.ensures.0 ∙ ap (λ (x : Ops). copy_answer (order_of x) a.list.now) there,
      put.ensures.1 ∙ ap (λ (x : Ops). copy_room (order_of x) a.list.now) there,
    )
