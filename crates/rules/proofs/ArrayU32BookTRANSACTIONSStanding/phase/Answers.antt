use native.Mathlib.Omega.{arith}
use mathlib.Core.Path.{sym, ◌∙◌}
use Rattle.rules.proofs.LentLaws.{phase-low, phase-past}
use Rattle.rules.proofs.ArrayU32BookTRANSACTIONSStanding.phase.Goals as goal

pub returns-then-t-ge-TRANSACTIONS : goal.returns-then-t-ge-TRANSACTIONS
returns-then-t-ge-TRANSACTIONS c = sym (phase-past c.args.self.now c.args.t (omega arith))

pub returns : goal.returns
returns c = let a = c.args in c.phase_in.ensures ∙ sym (phase-low a.self.now a.t (omega arith))
