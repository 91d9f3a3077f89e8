-- Ties between operations (docs/RULES.md, 3 Ties).
use Rattle.std.specs.Prelude.{ℕ, ◌+◌, Bool, cond, not, ◌&&◌, ◌||◌, List, ltb, leb, eqb}
use Rattle.laws.specs.Index.{any_below, grid}
use Rattle.terms.specs.Limits.{most_transactions, most_objects}
use Rattle.sets.specs.Reach.{leads_to}
use Rattle.terms.specs.declared.Mark.{Mark}
use Rattle.terms.specs.Events.{is_write}
use Rattle.ties.specs.declared.Operation.{Operation}
use Rattle.ties.specs.declared.Ops.{Ops}
use Rattle.ties.specs.Operations.{is_aborted, is_active, is_committed, op_at, size, given, handed}

-- ---- "q is tied to every earlier conflicting operation not aborted when q is accepted"

-- the same object, at least one a write
abbrev pub conflict : Operation → ℕ → Mark → Bool
conflict p object mark = eqb p.object object && (is_write p.mark || is_write mark)

-- p was not aborted when the operation numbered j was accepted: it is not aborted now, or was aborted later
abbrev pub stood : Operation → ℕ → Bool
stood p j = not (is_aborted p.fate) || ltb j p.ended

-- p, which is earlier, is tied to q, which is numbered j
unfoldable pub tied_to : Operation → Operation → ℕ → Bool
tied_to p q j = conflict p q.object q.mark && stood p j

-- operation p is tied to the later operation q, by their numbers
unfoldable pub tied : Ops → ℕ → ℕ → Bool
tied ops p q = ltb q (size ops) && (ltb p q && tied_to (op_at ops p) (op_at ops q) q)

-- ---- "Order: while neither is aborted and their responsible transactions differ, p's stands before q's." Abort is final, so of two
-- conflicting operations that are not aborted the earlier is always tied to the later.

-- it does not count for the order: it is aborted, or its numbers are past the limits, which in no book they are
abbrev pub is_gone : Operation → Bool
is_gone op = is_aborted op.fate || (leb most_transactions op.responsible || leb most_objects op.object)

abbrev pub neither_gone : Operation → Operation → Bool
neither_gone p q = not (is_gone p || is_gone q)

abbrev pub apart : Operation → Operation → Bool
apart p q = not (eqb p.responsible q.responsible)

-- the tie of p to the later q counts for the order of transactions
unfoldable pub counts : Operation → Operation → Bool
counts p q = conflict p q.object q.mark && (neither_gone p q && apart p q)

-- by this tie a stands before b
unfoldable pub edge : Operation → Operation → ℕ → ℕ → Bool
edge p q a b = counts p q && (eqb a p.responsible && eqb b q.responsible)

-- of the first n of these operations, one of a is tied to a later one of b
unfoldable pub ties_of : ℕ → (ℕ → Operation) → ℕ → ℕ → Bool
ties_of n op a b = any_below n (λ q. any_below q (λ p. edge (op p) (op q) a b))

-- transaction a stands before transaction b by one tie
abbrev pub before : Ops → ℕ → ℕ → Bool
before ops = ties_of (size ops) (op_at ops)

-- "for every ordered pair of transactions, whether the first stands before the second by one tie"
unfoldable pub pairs_of : Ops → List (List Bool)
pairs_of ops = grid most_transactions (before ops)

-- ---- "A transaction is on a ring if following such ties leads from it back to it."

unfoldable pub on_ring : Ops → ℕ → Bool
on_ring ops t = leads_to most_transactions (before ops) t t

-- ---- "an operation or delegation that would put an active undo on a ring is refused", and "A child's commit that would put an active undo on a ring is
-- refused, as such a delegation is"

-- the operations, with x read at the place `at`
abbrev pub op_with : Ops → ℕ → Operation → ℕ → Operation
op_with ops at x i = cond (eqb i at) x (op_at ops i)

-- who stands before whom, with x behind the last operation
abbrev pub before_made : Ops → Operation → ℕ → ℕ → Bool
before_made ops x = ties_of (size ops + 1) (op_with ops (size ops) x)

-- the same with operation q given to a receiver
abbrev pub before_given : Ops → ℕ → ℕ → ℕ → ℕ → Bool
before_given ops q receiver = before (given q receiver ops)

-- the same with all that t is at work on handed to a receiver
abbrev pub before_handed : Ops → ℕ → ℕ → ℕ → ℕ → Bool
before_handed ops t receiver = before (handed t receiver ops)

-- one of some and v lead to each other; every pair that the event adds is one of v's
unfoldable pub ring_with : (ℕ → ℕ → Bool) → (ℕ → Bool) → ℕ → Bool
ring_with R some v = any_below most_transactions (λ u. some u && (leads_to most_transactions R v u && leads_to most_transactions R u v))

-- ---- "Dirty read: t commits only if, for each read q it is responsible for and each write p tied before q": "p is committed, or is active and
-- t is responsible for it; a read that was itself aborted bars nothing". "An aborted p bars it for good."

abbrev pub read_by : ℕ → Operation → Bool
read_by t q = eqb q.responsible t && (not (is_write q.mark) && not (is_aborted q.fate))

-- p is committed, or is active and t is responsible for it
abbrev pub clean_for : ℕ → Operation → Bool
clean_for t p = is_committed p.fate || (is_active p.fate && eqb p.responsible t)

-- p is a write tied before q, which is numbered j, and not clean for t
abbrev pub dirties : ℕ → Operation → ℕ → Operation → Bool
dirties t q j p = is_write p.mark && (tied_to p q j && not (clean_for t p))

-- operation j is a read t answers for, and one before it dirties it
unfoldable pub dirty_at : Ops → ℕ → ℕ → Bool
dirty_at ops t j = read_by t (op_at ops j) && any_below j (λ i. dirties t (op_at ops j) j (op_at ops i))

unfoldable pub dirty : Ops → ℕ → Bool
dirty ops t = any_below (size ops) (dirty_at ops t)

-- ---- "An undo may not invoke an operation that conflicts with an active operation of another responsible transaction."

abbrev pub waits_for : ℕ → ℕ → Mark → Operation → Bool
waits_for t object mark p = is_active p.fate && (not (eqb p.responsible t) && conflict p object mark)

unfoldable pub must_wait : Ops → ℕ → ℕ → Mark → Bool
must_wait ops t object mark = any_below (size ops) (λ i. waits_for t object mark (op_at ops i))
