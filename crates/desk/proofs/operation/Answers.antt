use native.Mathlib.Omega.{arith}
use Rattle.desk.proofs.QuestionLaws.{operation-none, operation-there}
use Rattle.desk.proofs.operation.Goals as goal

pub returns-then-i-all : goal.returns-then-i-all
returns-then-i-all c =
    λ j sheet transactions ws steps st.
    let a = c.args in
    operation-there j sheet transactions a.ops.now ws steps a.counts.now st a.q _ c.size-all.ensures
    (omega arith) _ c.op_in-op.ensures _ c.operation_numbers.ensures

pub returns : goal.returns
returns c =
    λ j sheet transactions ws steps st.
    let a = c.args in
    operation-none j sheet transactions a.ops.now ws steps a.counts.now st a.q _ c.size-all.ensures (omega arith)
