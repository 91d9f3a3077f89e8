-- What every state keeps that events lead to, whatever the tables say.
use Prim.Native.Nat.{ℕ, ◌≤◌}
use native.Mathlib.Omega.{arith}
use mathlib.Core.Path.{◌≡◌}
use mathlib.Core.Bool.{true, false}
use lib.ListN.{length}
use Rattle.terms.specs.Limits.{most_transactions}
use Rattle.ties.specs.Operations.{is_active as is_active_op, most_operations, op_at, size}
use Rattle.rules.specs.States.{phase_of}
use Rattle.rules.specs.declared.State.{State}
use Rattle.rules.proofs.PhaseLaws.{code}

pub record Lasting (s : State) : Type 0 where
  pub full : length s.transactions ≡ most_transactions
  pub room : length s.ops.all ≡ most_operations
  pub few : s.ops.count ≤ most_operations
  -- an operation that has ended ended by now
  pub past : (p : ℕ) → is_active_op (op_at s.ops p).fate ≡ false → (op_at s.ops p).ended ≤ s.ops.count
  -- past the accepted ones nothing is active
  pub blanks : (p : ℕ) → s.ops.count ≤ p → is_active_op (op_at s.ops p).fate ≡ false
  -- an active operation's responsible transaction is active
  pub active : (p : ℕ) → is_active_op (op_at s.ops p).fate ≡ true → code (phase_of s.transactions (op_at s.ops p).responsible) ≡ 1

-- so there are as many operations as were counted
pub size-count : (s : State) → Lasting s → size s.ops ≡ s.ops.count
size-count s h = omega (arith, h.few)
