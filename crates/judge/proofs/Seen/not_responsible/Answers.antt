use mathlib.Core.Path.{sym, ap, ◌∙◌}
use mathlib.Core.Bool.{not}
use lib.Dec.{eqb}
use Rattle.ties.specs.declared.Operation.{Operation}
use Rattle.cells.proofs.CellLaws.{op-at}
use Rattle.judge.proofs.Seen.not_responsible.Goals as goal

pub returns : goal.returns
returns c =
    let a = c.args in
    ap (λ (op : Operation). not (eqb op.responsible a.t)) (c.op_in-op.ensures ∙ sym (op-at a.self.ops.now a.self.count a.q))
