use Rattle.ties.specs.declared.Operation.{Operation}
use mathlib.Core.Path.{◌≡◌}
use mathlib.Core.Bool.{Bool, true}
use Rattle.cells.specs.Cells.{fits, found_in}
use Rattle.cells.proofs.NextLaws.{Passed}
use Rattle.cells.proofs.next.Given as goal

-- whatever the test says of an operation, none before place i passes it
abbrev pub invariant-loop-i : goal.invariant-loop-i
invariant-loop-i g l =
    (is : Operation → Bool) → ((op : Operation) (b : Bool) → fits op ≡ true → goal.F-post g l.passes op b → b ≡ is op) → Passed (found_in l.ops is) l.from l.i
