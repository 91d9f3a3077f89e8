-- What a number stands for as an operation. From the low end: its object, its mark, its fate, its responsible transaction, and how many operations were
-- accepted when it ended. Every number stands for one whose numbers are within the limits; 0 stands for none.
use Rattle.std.specs.Prelude.{ℕ, ◌/◌, ◌%◌, ◌≤◌, ◌<◌, ◌≡◌, Bool, true, false, cond, ◌&&◌, List, map, eqb, ltb, get_or, length}
use Rattle.terms.specs.Limits.{most_transactions, most_objects}
use Rattle.terms.specs.declared.Mark.{Mark}
use Rattle.terms.specs.declared.Mark.TheVariants.{Read, Write}
use Rattle.ties.specs.declared.Fate.{Fate}
use Rattle.ties.specs.declared.Fate.TheVariants.{Aborted, Active, Committed}
use Rattle.ties.specs.declared.Operation.{Operation}
use Rattle.ties.specs.declared.Ops.{Ops}
use Rattle.ties.specs.Operations.{made, given, handed, held_by, most_operations, no_operation, op_at}
use Rattle.ties.specs.Ties.{read_by}

abbrev pub mark_in : ℕ → Mark
mark_in k = cond (eqb k 0) Read Write

abbrev pub mark_code : Mark → ℕ
mark_code Read = 0
mark_code Write = 1

abbrev pub fate_in : ℕ → Fate
fate_in k = cond (eqb k 1) Active (cond (eqb k 2) Committed Aborted)

abbrev pub fate_code : Fate → ℕ
fate_code Aborted = 0
fate_code Active = 1
fate_code Committed = 2

unfoldable pub op_in : ℕ → Operation
op_in c = record { object = c % 32; mark = mark_in (c / 32 % 2); responsible = c / 256 % 64; fate = fate_in (c / 64 % 4); ended = c / 16384 % 512 }

-- the operations that numbers stand for, of which so many are accepted
unfoldable pub ops_in : List ℕ → ℕ → Ops
ops_in cells n = record { all = map op_in cells; count = n }

-- a place for each of the 256 operations, and nothing past those that are accepted: so it is in every state that a book leads to
abbrev pub WholeOps : Ops → Type 0
WholeOps ops = (length ops.all ≡ most_operations) × ((q : ℕ) → ops.count ≤ q → op_at ops q ≡ no_operation)

-- a number can stand for the operation
abbrev pub fits : Operation → Bool
fits op = ltb op.object most_objects && (ltb op.responsible most_transactions && ltb op.ended 512)

-- one operation more, one given, and all of t's handed over; what no number can stand for is neither made nor given
abbrev pub made_in : Operation → Ops → Ops
made_in op ops = cond (fits op) (made op ops) ops

abbrev pub given_in : ℕ → ℕ → Ops → Ops
given_in q receiver ops = cond (ltb receiver most_transactions) (given q receiver ops) ops

abbrev pub handed_in : ℕ → ℕ → Ops → Ops
handed_in t receiver ops = cond (ltb receiver most_transactions) (handed t receiver ops) ops

-- ---- going through numbers

-- number i stands for an operation of which a test says yes
abbrev pub found_in : List ℕ → (Operation → Bool) → ℕ → Bool
found_in cells is i = is (op_in (get_or cells i 0))

-- for an active operation t is responsible for, or for a read t answers for
abbrev pub held_in : List ℕ → ℕ → ℕ → Bool
held_in cells t = found_in cells (held_by t)

abbrev pub read_in : List ℕ → ℕ → ℕ → Bool
read_in cells t = found_in cells (read_by t)

-- r is the first place from `from` up at which f holds, or `to`, below which there is none
pub record Next (f : ℕ → Bool) (from to r : ℕ) : Type 0 where
  pub low : from ≤ r
  pub high : r ≤ to
  pub none : (k : ℕ) → from ≤ k → k < r → f k ≡ false
  pub here : r < to → f r ≡ true
