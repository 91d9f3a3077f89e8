use borrow.Author.Rules.{rules}
use Rattle.ties.specs.Operations.{held_by}
use Rattle.cells.proofs.next_held.Goals as goal

pub returns : goal.returns
returns c = c.next.ensures (held_by c.args.t) (λ op b f p. search rules)
