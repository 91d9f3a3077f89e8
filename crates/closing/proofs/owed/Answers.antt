use mathlib.Core.Path.{ap, ◌∙◌}
use Rattle.laws.proofs.Bools.{told}
use Rattle.rules.specs.States.{is_committed}
use Rattle.closing.specs.Closing.{owed_by}
use Rattle.closing.proofs.owed.Goals as goal

pub returns-then-is_committed : goal.returns-then-is_committed
returns-then-is_committed g c =
    rw (told is_committed c.is_committed.ensures c.own-step.ensures c.if-is_committed.true)
    (c.owed_by.ensures ∙ ap owed_by c.own-undo.ensures)

pub returns : goal.returns
returns g c = rw (told is_committed c.is_committed.ensures c.own-step.ensures c.if-is_committed.false)
