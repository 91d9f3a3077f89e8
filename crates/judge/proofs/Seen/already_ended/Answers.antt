use mathlib.Core.Path.{sym, ap, ◌∙◌}
use mathlib.Core.Bool.{not}
use Rattle.ties.specs.Operations.{is_active}
use Rattle.ties.specs.declared.Operation.{Operation}
use Rattle.cells.proofs.CellLaws.{op-at}
use Rattle.judge.proofs.Seen.already_ended.Goals as goal

pub returns : goal.returns
returns c =
    let a = c.args in
    ap not (c.is_active.ensures ∙ ap (λ (op : Operation). is_active op.fate) (c.op_in-op.ensures ∙ sym (op-at a.self.ops.now a.self.count a.q)))
