use mathlib.Core.Path.{◌≡◌}
use lib.ListN.{length}
use Rattle.tables.specs.Counts.{dependency_count}
use Rattle.sheet.proofs.HeldLaws.{DependenciesTo, SortsKept}
use Rattle.sheet.proofs.put_dependencies.Given as goal

abbrev pub invariant-loop-i : goal.invariant-loop-i
invariant-loop-i l =
    (l.declared ≡ dependency_count l.tables) × (length l.sheet ≡ 195) × DependenciesTo l.tables l.i l.sheet × SortsKept l.initial.sheet l.sheet
