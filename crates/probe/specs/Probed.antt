-- The event that is measured.
use Rattle.std.specs.Prelude.{ℕ, cond, eqb}
use Rattle.terms.specs.declared.Event.{Event}
use Rattle.terms.specs.declared.Event.TheVariants.{Begin, Commit, Abort, Operation as Invoke, Delegate, CommitOne, AbortOne, Spawn}
use Rattle.terms.specs.declared.Mark.TheVariants.{Write}

-- the event of a code as a book has it, with its fields; an operation is a write
abbrev pub event_by : ℕ → ℕ → ℕ → ℕ → Event
event_by code a b c =
    cond (eqb code 1) (Begin a)
    (cond (eqb code 2) (Commit a)
    (cond (eqb code 3) (Abort a)
    (cond (eqb code 4) (Invoke a b Write)
    (cond (eqb code 5) (Delegate a b c) (cond (eqb code 6) (CommitOne a b) (cond (eqb code 7) (AbortOne a b) (Spawn a b)))))))
