use native.Mathlib.Omega.{arith}
use mathlib.Core.Path.{◌≡◌, ap, ◌∙◌}
use borrow.Author.Rules.{rules}
use borrow.Author.Tests.{lt-ltb}
use Rattle.terms.specs.Limits.{most_transactions}
use Rattle.ties.specs.Operations.{passed_to}
use Rattle.cells.specs.Cells.{fits}
use Rattle.cells.proofs.CellLaws.{passed-fits}
use Rattle.cells.proofs.handed.Goals as goal

pub rewritten-requires-clause-kept : goal.rewritten-requires-clause-kept
rewritten-requires-clause-kept c op made f p =
    let to = c.args.receiver in
    let is : made ≡ passed_to to op = search rules in
    ap fits is ∙ passed-fits to op (omega arith) f

pub returns-then-to-lt-TRANSACTIONS : goal.returns-then-to-lt-TRANSACTIONS
returns-then-to-lt-TRANSACTIONS c =
    rw (lt-ltb c.args.receiver most_transactions (omega arith)) (c.rewritten.ensures (passed_to c.args.receiver) (λ op made f p. search rules))
