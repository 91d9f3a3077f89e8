-- All axioms together.
use Rattle.tables.proofs.AcceptedWellHolds.{accepted-well}
use Rattle.tables.specs.Reading.{tables_by}
use Rattle.acta.specs.Acta.{Acta, ActaRead}
use Rattle.acta.proofs.AcceptingHolds.{accepting}
use Rattle.acta.proofs.AsIfHolds.{as_if, unlocked}
use Rattle.acta.proofs.ByTheLetterHolds.{by_the_letter}
use Rattle.acta.proofs.CompletedHolds.{completed}
use Rattle.acta.proofs.DelegatingHolds.{delegation}
use Rattle.acta.proofs.DependingHolds.{depending}
use Rattle.acta.proofs.EndingsHold.{endings}
use Rattle.acta.proofs.FrameHolds.{frame}
use Rattle.acta.proofs.FundamentalHolds.{fundamental}
use Rattle.acta.proofs.InTurnHolds.{in_turn}
use Rattle.acta.proofs.NestingHolds.{nesting}
use Rattle.acta.proofs.ObjectsHold.{conflict-serializable, off_rings, recoverable}
use Rattle.acta.proofs.Runs.{is_history}
use Rattle.acta.proofs.SagaLemmasHold.{saga_lemmas}
use Rattle.acta.proofs.SagaRunsHold.{saga-run}
use Rattle.acta.proofs.SortsHold.{sorts}
use Rattle.acta.proofs.StuckNever.{never_stuck}
use Rattle.acta.proofs.StructureHolds.{structure}
use Rattle.acta.proofs.ToldHolds.{is_told}
use Rattle.acta.proofs.TransitiveHolds.{transitive}
use Rattle.acta.proofs.UndosHold.{undos_pass}
use Rattle.acta.proofs.WordsAttainedHolds.{words_attained}

pub acta : Acta
acta tables well es =
    record {
      is_history = is_history tables es;
      is_told = is_told tables es well;
      fundamental = fundamental tables well es;
      sorts = sorts tables well es;
      depending = depending tables well es;
      saga_runs = saga-run tables well es;
      saga_lemmas = saga_lemmas tables well es;
      words_attained = words_attained tables well;
      structure = structure tables well es;
      endings = endings tables well es;
      delegation = delegation tables well es;
      off_rings = off_rings tables well es;
      recoverable = recoverable tables well es;
      serializable = conflict-serializable tables well es;
      nesting = nesting tables well es;
      never_stuck = never_stuck tables well es;
      completed = completed tables well es;
      by_the_letter = by_the_letter tables well es;
      accepting = accepting tables well es;
      undos_pass = undos_pass tables well es;
      frame = frame tables well es;
      transitive = transitive tables well es;
      in_turn = in_turn tables well es;
      unlocked = unlocked tables well es;
      as_if = as_if tables well es;
    }

pub acta-read : ActaRead
acta-read circles ed s at r es = acta (tables_by circles ed s).tables (accepted-well circles ed s at r) es
