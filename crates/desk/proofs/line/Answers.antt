use mathlib.Core.Path.{refl, ◌∙◌}
use Rattle.desk.proofs.StandLaws.{is_whole}
use Rattle.desk.proofs.QuestionLaws.{line-there}
use Rattle.desk.proofs.line.Goals as goal

pub returns : goal.returns
returns c =
    λ j sheet st.
    let a = c.args in
    let put = c.put_line.ensures in
    let whole = is_whole j sheet a.transactions.now a.ops.now a.records.now a.steps.now a.counts.now st in
    let told = c.verdict_in-answer.ensures in
    let tables = c.outline-tables.ensures in
    let state = c.state_of-state.ensures whole in
    let edition = c.edition_in-edition.ensures in
    let there = line-there j sheet a.transactions.now a.ops.now a.records.now a.steps.now a.counts.now st _ tables _ told _ state _
    edition _ refl a.k a.room.now in
    (put.0 ∙ there.0, put.1 ∙ there.1)
