-- One pass over the operations, from the first up, and what passes one after the other find.
use Rattle.std.specs.Prelude.{ℕ, zero, suc, ◌≡◌, Bool, true, false, cond, not, ◌&&◌, ◌||◌, List, eqb, get_or}
use Rattle.laws.specs.Index.{any_below}
use Rattle.terms.specs.Limits.{most_transactions}
use Rattle.terms.specs.Events.{is_write}
use Rattle.terms.specs.declared.Mark.{Mark}
use Rattle.sets.specs.Sets.{mem, inserted}
use Rattle.ties.specs.Ties.{is_gone}
use Rattle.ties.specs.declared.Operation.{Operation}
use Rattle.cells.specs.Cells.{op_in}
use Rattle.rings.specs.declared.Pass.{Pass}
use Rattle.rings.specs.declared.Touched.{Touched}

abbrev pub with_some : Bool → ℕ → ℕ → ℕ
with_some so set o = cond so (inserted set o) set

-- a write comes after whatever used the object, a read after whatever wrote it
abbrev pub crosses : ℕ → ℕ → Mark → ℕ → Bool
crosses used written mark o = cond (is_write mark) (mem used o) (mem written o)

abbrev pub untouched : Touched
untouched = record { used = 0; written = 0 }

-- with q's object too
abbrev pub touched_by : Operation → Touched → Touched
touched_by q s = record { used = inserted s.used q.object; written = with_some (is_write q.mark) s.written q.object }

abbrev pub first_pass : ℕ → Pass
first_pass from = record { mine = untouched; theirs = untouched; reached = from; missed = 0 }

-- the pass with q behind it: one of the start's own; one whose transaction is reached; one whose transaction is not
abbrev pub begun_by : Operation → Pass → Pass
begun_by q p = record { mine = touched_by q p.mine; theirs = p.theirs; reached = p.reached; missed = p.missed }

abbrev pub joined_by : Operation → Pass → Pass
joined_by q p = record { mine = p.mine; theirs = touched_by q p.theirs; reached = inserted p.reached q.responsible; missed = p.missed }

abbrev pub left_by : Operation → Pass → Pass
left_by q p = record { mine = p.mine; theirs = p.theirs; reached = p.reached; missed = inserted p.missed q.responsible }

-- the operation comes after one of those reached, and after one of the start's
abbrev pub behind : Operation → Pass → Bool
behind q p = crosses p.theirs.used p.theirs.written q.mark q.object

abbrev pub after_start : Operation → Pass → Bool
after_start q p = crosses p.mine.used p.mine.written q.mark q.object

-- its transaction is reached already
abbrev pub known : Operation → Pass → Bool
known q p = mem p.reached q.responsible

-- the operation comes after one of those reached, its transaction is reached already, or it is another's and comes after one of the start's
abbrev pub hits : ℕ → Operation → Pass → Bool
hits start q p = behind q p || (known q p || (after_start q p && not (eqb q.responsible start)))

-- the same if so
abbrev pub touched_if : Bool → Operation → Touched → Touched
touched_if so q s = record { used = with_some so s.used q.object; written = with_some (so && is_write q.mark) s.written q.object }

unfoldable pub passed : ℕ → Operation → Pass → Pass
passed start q p =
    cond (is_gone q) p
    (record {
      mine = touched_if (eqb q.responsible start) q p.mine;
      theirs = touched_if (hits start q p) q p.theirs;
      reached = with_some (hits start q p) p.reached q.responsible;
      missed = with_some (not (hits start q p)) p.missed q.responsible;
    })

-- the pass over the first n operations
unfoldable pub pass_to : ℕ → (ℕ → Operation) → ℕ → ℕ → Pass
pass_to zero op start from = first_pass from
pass_to (suc n) op start from = passed start (op n) (pass_to n op start from)

-- the operations that lent numbers stand for
abbrev pub read_at : List ℕ → ℕ → Operation
read_at cells i = op_in (get_or cells i 0)

-- one stands before t
unfoldable pub preceded_by : (ℕ → ℕ → Bool) → ℕ → Bool
preceded_by R t = any_below most_transactions (λ a. R a t)

-- k is in the set, or is led to from the start or from one of the set
pub data Led (R : ℕ → ℕ → Bool) (start from : ℕ) : ℕ → Type 0 where
  held : {k : ℕ} → mem from k ≡ true → Led R start from k
  begun : {k : ℕ} → R start k ≡ true → Led R start from k
  onward : {a k : ℕ} → Led R start from a → R a k ≡ true → Led R start from k

-- r is all that is led to, unless it holds the target
pub record Spread (R : ℕ → ℕ → Bool) (start from target r : ℕ) : Type 0 where
  pub only : (k : ℕ) → mem r k ≡ true → Led R start from k
  pub all : mem r target ≡ false → (k : ℕ) → Led R start from k → mem r k ≡ true
