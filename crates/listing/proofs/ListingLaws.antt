-- Laws of the listing: which line is which, that every line fits a text, and what putting a line into a room does.
use Prim.Native.Nat.{ℕ, ◌-◌, ◌≤◌, ◌<◌}
use mathlib.Core.Path.{◌≡◌, ◌∙◌}
use mathlib.Core.Bool.{Bool, true, false, cond}
use mathlib.Core.List.{List, []}
use native.Mathlib.Omega.{arith}
use borrow.Author.Tests.{lt-ltb, le-ltb, le-leb, lt-leb, eq-eqb, ne_eqb}
use lib.Dec.{ltb, eqb}
use lib.ListN.{length, length-append, get_or}
use Rattle.std.specs.Prelude.{Err}
use Rattle.terms.specs.Refusals.{number_of}
use Rattle.terms.specs.declared.Verdict.{Verdict}
use Rattle.terms.specs.declared.Verdict.TheVariants.{Accepted, Refused}
use Rattle.number.specs.declared.Edition.TheVariants.{Second, First}
use Rattle.number.specs.declared.Edition.{Edition}
use Rattle.ties.specs.Operations.{op_at, size}
use Rattle.terms.specs.declared.Mark.{Mark}
use Rattle.terms.specs.declared.Mark.TheVariants.{Read, Write}
use Rattle.ties.specs.declared.Fate.{Fate}
use Rattle.ties.specs.declared.Fate.TheVariants.{Aborted as FateAborted, Active as FateActive, Committed as FateCommitted}
use Rattle.ties.specs.declared.Operation.{Operation}
use Rattle.rules.specs.States.{phase_of}
use Rattle.rules.specs.declared.Phase.{Phase}
use Rattle.rules.specs.declared.Phase.TheVariants.{Idle, Active, Committed, Aborted}
use Rattle.closing.specs.Closing.{outstanding, closing}
use Rattle.closing.specs.declared.NextStep.{NextStep}
use Rattle.closing.specs.declared.NextStep.TheVariants.{NoStep, ToBegin, ToCommit, ToAbort}
use Rattle.onward.specs.declared.Judgement.{Judgement}
use Rattle.tables.specs.Counts.{transaction_count}
use Rattle.listing.specs.declared.NotPlaced.TheVariants.{NoLine}
use Rattle.listing.specs.Texts.{most_text, put_answer, put_room, with_all}
use Rattle.listing.specs.Lines.{phase_word, fate_word, mark_word, step_words, first_line_by, transaction_line, operation_line_of, operation_line, saga_line, line_count, later_line, line_of, placed, place_answer, place_room}
use Rattle.listing.proofs.TextLaws.{all-fits}
use Rattle.listing.proofs.DigitLaws.{decimal-le}

-- ---- which line is which

module _ (r : Judgement) (k n : ℕ) (e : n ≡ transaction_count r.tables) where
  pub later-transaction : k < n → later_line r k ≡ transaction_line r k
  unfolding later_line
  later-transaction h = rw (lt-ltb k (transaction_count r.tables) (omega arith))

  module _ (m : ℕ) (d : m ≡ size r.state.ops) (l : n ≤ k) where
    pub later-operation : k - n < m → later_line r k ≡ operation_line r (k - n)
    unfolding later_line
    later-operation h =
        rw (le-ltb k (transaction_count r.tables) (omega arith), ← e, ← d, lt-ltb (k - n) m h)

    pub later-saga : m ≤ k - n → later_line r k ≡ saga_line r (k - n - m)
    unfolding later_line
    later-saga h =
        rw (le-ltb k (transaction_count r.tables) (omega arith), ← e, ← d, le-ltb (k - n) m h)

pub line_first : (r : Judgement) (k : ℕ) → k ≡ 0 → line_of r k ≡ first_line_by r.answer r.events r.place
unfolding line_of
line_first r k e = rw (eq-eqb k 0 e)

pub line-later : (r : Judgement) (k : ℕ) → (k ≡ 0 → ⊥) → line_of r k ≡ later_line r (k - 1)
unfolding line_of
line-later r k e = rw (ne_eqb k 0 e)

-- ---- every line fits

phase-le : (p : Phase) → length (phase_word p) ≤ 9
phase-le Idle = omega arith
phase-le Active = omega arith
phase-le Committed = omega arith
phase-le Aborted = omega arith

fate-le : (f : Fate) → length (fate_word f) ≤ 9
fate-le FateAborted = omega arith
fate-le FateActive = omega arith
fate-le FateCommitted = omega arith

mark-le : (m : Mark) → length (mark_word m) ≤ 5
mark-le Read = omega arith
mark-le Write = omega arith

step-le : (s : NextStep) → length (step_words s) ≤ 27
step-le NoStep = omega arith
step-le (ToBegin t) = omega (arith, decimal-le t)
step-le (ToCommit t) = omega (arith, decimal-le t)
step-le (ToAbort t) = omega (arith, decimal-le t)

first_fits : (answer : Verdict) (events place : ℕ) → length (first_line_by answer events place) < most_text
first_fits Accepted events place = simp length-append (omega (arith, decimal-le events))
first_fits (Refused r) events place =
    simp length-append (omega (arith, decimal-le (number_of r), decimal-le events, decimal-le place))

transaction-fits : (r : Judgement) (t : ℕ) → length (transaction_line r t) < most_text
transaction-fits r t = simp length-append (omega (arith, decimal-le t, phase-le (phase_of r.state.transactions t)))

operation-fits : (ed : Edition) (q : ℕ) (op : Operation) (pu : ℕ) → length (operation_line_of ed q op pu) < most_text
operation-fits First q op pu =
    simp length-append
    (omega (arith, decimal-le q, decimal-le op.object, mark-le op.mark, decimal-le op.responsible, fate-le op.fate))
operation-fits Second q op pu =
    simp length-append
    (omega (arith, decimal-le q, decimal-le op.object, mark-le op.mark, decimal-le op.responsible, fate-le op.fate, decimal-le pu))

saga-fits : (r : Judgement) (i : ℕ) → length (saga_line r i) < most_text
saga-fits r i =
    simp length-append
    (omega (arith, decimal-le i, decimal-le (outstanding r.tables r.state i), step-le (closing r.tables r.state i)))

either-fits : (b : Bool) (x y : List ℕ) → length x < most_text → length y < most_text → length (cond b x y) < most_text
either-fits true x y l m = l
either-fits false x y l m = m

pub line-fits : (r : Judgement) (k : ℕ) → length (line_of r k) < most_text
unfolding line_of later_line
line-fits r k =
    either-fits (eqb k 0) _ _ (first_fits r.answer r.events r.place)
    (either-fits (ltb (k - 1) (transaction_count r.tables)) _ _ (transaction-fits r (k - 1))
    (either-fits (ltb (k - 1 - transaction_count r.tables) (size r.state.ops)) _ _
    (operation-fits r.edition (k - 1 - transaction_count r.tables) (op_at r.state.ops (k - 1 - transaction_count r.tables)) (get_or r.records (k - 1 - transaction_count r.tables) 0))
    (saga-fits r (k - 1 - transaction_count r.tables - size r.state.ops))))

-- so a text that was made for a line is the line
pub line-whole : (r : Judgement) (k : ℕ) {l : List ℕ} → l ≡ with_all [] (line_of r k) → l ≡ line_of r k
line-whole r k e = let h = line-fits r k in e ∙ all-fits [] (line_of r k) (omega arith)

-- ---- into a room

module _ (r : Judgement) (k : ℕ) (room : List ℕ) where
  pub place_none : line_count r ≤ k → (Err NoLine ≡ place_answer r k room) × (room ≡ place_room r k room)
  unfolding place_answer place_room
  place_none h = let t = le-leb (line_count r) k h in (rw t, rw t)

  pub place-there : k < line_count r → (placed (put_answer (line_of r k) room) ≡ place_answer r k room) × (put_room (line_of r k) room ≡ place_room r k room)
  unfolding place_answer place_room
  place-there h = let t = lt-leb (line_count r) k h in (rw t, rw t)
