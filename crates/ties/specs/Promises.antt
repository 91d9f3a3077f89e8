-- What is promised of rings, and of dirty reads now that committed changes count for the order too.
use Rattle.std.specs.Prelude.{◌≡◌, Bool, true, false, not, ◌&&◌, ◌||◌, ltb, ◌↔◌, ◌⊎◌, ℕ}
use Rattle.laws.specs.Index.{any_below}
use Rattle.terms.specs.Events.{is_write}
use Rattle.terms.specs.declared.Mark.{Mark}
use Rattle.terms.specs.declared.Mark.TheVariants.{Write}
use Rattle.sets.specs.Reach.{Leads}
use Rattle.ties.specs.declared.Fate.TheVariants.{Active, Committed}
use Rattle.ties.specs.declared.Operation.{Operation}
use Rattle.ties.specs.declared.Ops.{Ops}
use Rattle.ties.specs.Ties.{before, on_ring, conflict, read_by, clean_for, dirty_at}
use Rattle.ties.specs.Operations.{is_active, most_operations, op_at}

pub record Rings (ops : Ops) : Type 0 where
  -- t is on a ring exactly when following ties leads from it back to it
  pub exact : (t : ℕ) → (on_ring ops t ≡ true) ↔ Leads (before ops) t t
  -- if nothing stands before t, t is on no ring
  pub first_is_free : (t : ℕ) → ((a : ℕ) → before ops a t ≡ false) → on_ring ops t ≡ false

abbrev pub RingsExact : Type 0
RingsExact = (ops : Ops) → Rings ops

-- ---- what the words of the rules mean, in the operations' own marks and fates

pub record Meant : Type 0 where
  -- "at most 256 in a book"
  pub most : most_operations ≡ 256
  -- two operations conflict exactly when they are on the same object and one of them is a write
  pub conflicts : (p : Operation) (o : ℕ) (m : Mark) → (conflict p o m ≡ true) ↔ ((p.object ≡ o) × ((p.mark ≡ Write) ⊎ (m ≡ Write)))
  -- a write bars no commit of t exactly when it "is committed, or is active and t is responsible for it"
  pub clean : (t : ℕ) (p : Operation) → (clean_for t p ≡ true) ↔ ((p.fate ≡ Committed) ⊎ ((p.fate ≡ Active) × (p.responsible ≡ t)))

-- ---- the dirty-read rule by ties to operations that were active, as it stood before committed changes counted for the order

-- p was active when the operation numbered j was accepted: it is active still, or ended later
abbrev pub was_active : Operation → ℕ → Bool
was_active p j = is_active p.fate || ltb j p.ended

abbrev pub dirties_active : ℕ → Operation → ℕ → Operation → Bool
dirties_active t q j p = is_write p.mark && ((conflict p q.object q.mark && was_active p j) && not (clean_for t p))

abbrev pub dirty_active : Ops → ℕ → ℕ → Bool
dirty_active ops t j = read_by t (op_at ops j) && any_below j (λ i. dirties_active t (op_at ops j) j (op_at ops i))

-- every read is dirty exactly when it was
abbrev pub DirtyStays : Type 0
DirtyStays = (ops : Ops) (t j : ℕ) → dirty_at ops t j ≡ dirty_active ops t j
