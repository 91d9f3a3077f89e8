-- Judging by lent numbers: what tests of a sheet say of its tables, and changes that lent numbers can take.
use Prim.Native.Nat.{ℕ, ◌<◌, min}
use native.Mathlib.Omega.{arith}
use mathlib.Core.Path.{◌≡◌, sym, ap, ◌∙◌}
use mathlib.Core.Bool.{Bool, false, cond, not, ◌&&◌}
use mathlib.Core.List.{List}
use lib.Dec.{ltb}
use lib.ListN.{get_or}
use borrow.Author.Tests.{le-ltb, lt-ltb, ltb-true}
use Rattle.laws.proofs.Bools.{clash, off-not}
use Rattle.laws.proofs.Decisions.{lt-or}
use Rattle.laws.proofs.LineLaws.{first_off}
use Rattle.terms.specs.declared.Verdict.TheVariants.{Accepted, Refused}
use Rattle.terms.specs.Limits.{most_transactions, most_objects}
use Rattle.ties.specs.Operations.{most_operations, size}
use Rattle.ties.specs.Ties.{dirty_at}
use Rattle.cells.specs.Cells.{ops_in}
use Rattle.cells.proofs.CellLaws.{size_in}
use Rattle.tables.specs.Sorts.{is_known, sort_of}
use Rattle.tables.specs.declared.Sort.{Sort}
use Rattle.tables.specs.declared.Sort.TheVariants.{Unknown}
use Rattle.tables.specs.declared.Tables.{Tables}
use Rattle.sheet.specs.Sheet.{Holds, sort_in, sort_at, objects_on}
use Rattle.rules.specs.declared.Transaction.{Transaction}
use Rattle.judge.specs.Judge.{single_lines, unknown_object, verdict_by}
use Rattle.judge.proofs.RuleLaws.{not-accepted, single-known}

-- a number whose sort is known is one of the 64
pub known-low : (sheet : List ℕ) (t : ℕ) → not (is_known (sort_at sheet t)) ≡ false → t < most_transactions
unfolding sort_at
known-low sheet t h =
    lt-or t most_transactions (λ l. l)
    (λ l. clash (ap (λ (b : Bool). not (is_known (cond b (sort_in (get_or sheet t 0)) Unknown))) (le-ltb t most_transactions l)) h)

-- what is asked of a sort is asked of the tables'
pub sorted : {A : Type 0} (f : Sort → A) (sheet : List ℕ) (tables : Tables) → Holds tables sheet → (t : ℕ) {x : A} → x ≡ f (sort_at sheet t) → x ≡ f (sort_of tables t)
sorted f sheet tables h t e = e ∙ ap f (h.sorts t)

-- and of an object
pub objected : (sheet : List ℕ) (tables : Tables) → Holds tables sheet → (o : ℕ) {b : Bool} → b ≡ not (ltb o (min (objects_on sheet) most_objects)) → b ≡ unknown_object tables o
objected sheet tables h o e = e ∙ ap (λ (n : ℕ). not (ltb o n)) (omega (arith, h.objects))

pub object-low : (sheet : List ℕ) (o : ℕ) → not (ltb o (min (objects_on sheet) most_objects)) ≡ false → o < most_objects
object-low sheet o h =
    let n = min (objects_on sheet) most_objects in
    let l = ltb-true o n (off-not (ltb o n) h) in
    omega arith

-- an operation that is numbered so was accepted
pub accepted-in : (l : List ℕ) (n q : ℕ) {b : Bool} → b ≡ not (ltb q (min n most_operations)) → b ≡ not (ltb q (size (ops_in l n)))
accepted-in l n q e = e ∙ ap (λ (k : ℕ). not (ltb q k)) (sym (size_in l n))

pub accepted-low : (n q : ℕ) → not (ltb q (min n most_operations)) ≡ false → q < most_operations
accepted-low n q h =
    let m = min n most_operations in
    let l = ltb-true q m (off-not (ltb q m) h) in
    omega arith

-- where the lines of a single commit or abort are passed, its operation was accepted
pub dirty-told : (tables : Tables) (ts : List Transaction) (l : List ℕ) (n t q : ℕ) (never : Bool) → verdict_by (single_lines tables ts (ops_in l n) t q never) ≡ Accepted
    → (ltb q (min n most_operations) && dirty_at (ops_in l n) t q) ≡ dirty_at (ops_in l n) t q
dirty-told tables ts l n t q never e =
    let off = first_off Refused Accepted not-accepted (single_lines tables ts (ops_in l n) t q never) e in
    let low = single-known tables (ops_in l n) t q off.0 in
    rw (lt-ltb q (min n most_operations) (omega (arith, low, size_in l n)))
