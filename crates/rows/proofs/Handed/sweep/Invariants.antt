use Prim.Native.Nat.{ℕ, ◌≤◌, ◌<◌}
use mathlib.Core.Path.{◌≡◌}
use Rattle.ties.specs.declared.Operation.{Operation}
use Rattle.rows.specs.Rows.{read_handed, Swept}
use Rattle.rows.proofs.Handed.sweep.Given as goal

abbrev pub invariant-loop-i : goal.invariant-loop-i
invariant-loop-i l =
    (l.from ≤ l.i)
    × ((n : ℕ) (op : ℕ → Operation) → l.to ≤ n → ((k : ℕ) → l.from ≤ k → k < l.to → op k ≡ read_handed l.self.ops.now l.self.giver l.self.receiver k) → Swept n op l.to l.initial.met → Swept n op l.i l.met)
