-- Lines in the terms in which the code finds them: what those that were passed say of an event's numbers, and lines that several events share.
use Prim.Native.Nat.{ℕ, ◌<◌, min}
use native.Mathlib.Omega.{arith}
use mathlib.Core.Path.{◌≡◌, sym, ap, ◌∙◌}
use mathlib.Core.Bool.{true, false, not, ◌||◌}
use mathlib.Core.List.{List, ◌++◌}
use lib.Dec.{ltb}
use borrow.Author.Tests.{ltb-true}
use Rattle.laws.specs.Lines.{Line}
use Rattle.laws.proofs.LineLaws.{first_off, first-stays, given_first, holds_first, off-past, others, passed, stopped}
use Rattle.laws.proofs.Bools.{off-not, off-or}
use Rattle.terms.specs.Limits.{most_objects}
use Rattle.ties.specs.Operations.{size}
use Rattle.ties.specs.declared.Ops.{Ops}
use Rattle.tables.specs.declared.Tables.{Tables}
use Rattle.terms.specs.declared.Refusal.{Refusal}
use Rattle.terms.specs.declared.Verdict.{Verdict}
use Rattle.terms.specs.declared.Verdict.TheVariants.{Accepted, Refused}
use Rattle.judge.specs.Judge.{unknown, unknown_object, verdict_by, change_by, ruled_by}
use Rattle.judge.specs.declared.Ruling.{Ruling}
use Rattle.judge.specs.declared.Change.{Change}
use Rattle.judge.specs.declared.Change.TheVariants.{Nothing}

-- ---- lines that were passed: what they say of the numbers of an event

-- an object is one of the 32
pub object-small : (tables : Tables) (t o : ℕ) → (unknown tables t || unknown_object tables o) ≡ false → o < most_objects
object-small tables t o off =
    let n = min tables.objects most_objects in
    let l = ltb-true o n (off-not (ltb o n) (off-or (unknown tables t) (unknown_object tables o) off).1) in
    omega arith

-- an operation to commit or abort alone was accepted
pub single-known : (tables : Tables) (ops : Ops) (t q : ℕ) → (unknown tables t || not (ltb q (size ops))) ≡ false → q < size ops
single-known tables ops t q off = ltb-true q (size ops) (off-not (ltb q (size ops)) (off-or (unknown tables t) (not (ltb q (size ops))) off).1)

-- an operation to delegate was accepted
pub operation-known : (tables : Tables) (ops : Ops) (t r q : ℕ)
    → (unknown tables t || (unknown tables r || not (ltb q (size ops)))) ≡ false → q < size ops
operation-known tables ops t r q off =
    single-known tables ops r q (off-or (unknown tables t) (unknown tables r || not (ltb q (size ops))) off).1

pub not-accepted : (r : Refusal) → Refused r ≡ Accepted → ⊥
not-accepted r e = let z : ◌≡◌ {A = ℕ} 0 1 = cc in omega arith

-- ---- along the lines

abbrev ruled_as : Change → Verdict → Ruling
ruled_as change v = record { verdict = v; change = change_by v change }

pub ruled-passed : (ls : List (Line Refusal)) (change : Change) → holds_first ls ≡ false → ruled_by ls change ≡ ruled_by (others ls) change
ruled-passed ls change e = ap (ruled_as change) (passed Refused Accepted ls e)

pub ruled-stopped : (ls : List (Line Refusal)) (change : Change) → holds_first ls ≡ true → ruled_by ls change ≡ ruled_as change (given_first Refused Accepted ls)
ruled-stopped ls change e = ap (ruled_as change) (stopped Refused Accepted ls e)

-- ---- lines that several events share, and an event's own after them; v is the answer of those that are shared

module _ (shared own : List (Line Refusal)) (change : Change) {v : Verdict} (told : v ≡ verdict_by shared) where
  pub shared-refused : (r : Refusal) → v ≡ Refused r → record { verdict = Refused r; change = Nothing } ≡ ruled_by (shared ++ own) change
  shared-refused r e =
      let stays : verdict_by (shared ++ own) ≡ Refused r = first-stays Refused Accepted not-accepted r shared own (sym told ∙ e) in
      sym (ap (λ (x : Verdict). record { verdict = x; change = change_by x change }) stays)

  pub shared-passed : v ≡ Accepted → ruled_by (shared ++ own) change ≡ ruled_by own change
  shared-passed e =
      ap (λ (x : Verdict). record { verdict = x; change = change_by x change })
      (off-past Refused Accepted shared own (first_off Refused Accepted not-accepted shared (sym told ∙ e)))
