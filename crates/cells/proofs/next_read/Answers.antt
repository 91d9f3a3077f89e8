use borrow.Author.Rules.{rules}
use Rattle.ties.specs.Ties.{read_by}
use Rattle.cells.proofs.next_read.Goals as goal

pub returns : goal.returns
returns c = c.next.ensures (read_by c.args.t) (λ op b f p. search rules)
