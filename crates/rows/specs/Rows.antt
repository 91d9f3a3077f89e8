-- What a sweep over the operations, from the last down, holds for each object and each transaction, and what a set of transactions leads to.
use Rattle.std.specs.Prelude.{ℕ, ◌+◌, ◌≤◌, ◌<◌, ◌≡◌, Bool, true, cond, not, ◌&&◌, List, ◌≢◌, eqb, leb, length, get_or}
use Rattle.laws.specs.Index.{any_below}
use Rattle.terms.specs.Limits.{most_transactions, most_objects}
use Rattle.terms.specs.Events.{is_write}
use Rattle.sets.specs.Sets.{mem}
use Rattle.ties.specs.Operations.{held_by, most_operations, passed_to}
use Rattle.ties.specs.Ties.{is_gone, edge}
use Rattle.ties.specs.declared.Operation.{Operation}
use Rattle.cells.specs.Cells.{op_in}
use Rattle.rows.specs.declared.Sweep.{Sweep}

-- the operations that lent numbers stand for, and the same with some handed over and x read at one place
abbrev pub read_at : List ℕ → ℕ → Operation
read_at cells i = op_in (get_or cells i 0)

-- an operation once a giver has handed all that it is at work on to a receiver; nobody has the number 64
abbrev pub handed_by : ℕ → ℕ → Operation → Operation
handed_by giver receiver op = cond (held_by giver op) (passed_to receiver op) op

abbrev pub read_handed : List ℕ → ℕ → ℕ → ℕ → Operation
read_handed cells giver receiver i = handed_by giver receiver (read_at cells i)

abbrev pub read_with : List ℕ → ℕ → ℕ → ℕ → Operation → ℕ → Operation
read_with cells giver receiver at x i = cond (eqb i at) x (read_handed cells giver receiver i)

-- there is room for so many operations, but for the one that is read at this place
abbrev pub Lent : ℕ → ℕ → Type 0
Lent total at = (i : ℕ) → i < total → i ≢ at → i < most_operations

-- k is in the set at place y of a list: of the rows, y stands before k
abbrev pub mem_at : List ℕ → ℕ → ℕ → Bool
mem_at sets y k = mem (get_or sets y 0) k

-- ---- what is found when the first n operations are met from the last down to i

-- one of them, from i on, is so
abbrev pub since : ℕ → ℕ → (ℕ → Bool) → Bool
since n i f = any_below n (λ q. leb i q && f q)

-- q counts for the order, is on object o, and k answers for it
abbrev pub uses : ℕ → ℕ → Operation → Bool
uses o k q = not (is_gone q) && (eqb o q.object && eqb k q.responsible)

-- who uses an object, who writes it, and who stands before whom
abbrev pub used_from : ℕ → (ℕ → Operation) → ℕ → ℕ → ℕ → Bool
used_from n op i o k = since n i (λ q. uses o k (op q))

abbrev pub written_from : ℕ → (ℕ → Operation) → ℕ → ℕ → ℕ → Bool
written_from n op i o k = since n i (λ q. is_write (op q).mark && uses o k (op q))

abbrev pub stands_from : ℕ → (ℕ → Operation) → ℕ → ℕ → ℕ → Bool
stands_from n op i a k = since n i (λ p. since n (p + 1) (λ q. edge (op p) (op q) a k))

-- the sets of the objects and the rows of the transactions hold just that
pub record Swept (n : ℕ) (op : ℕ → Operation) (i : ℕ) (met : Sweep) : Type 0 where
  pub users_long : length met.users ≡ most_objects
  pub writers_long : length met.writers ≡ most_objects
  pub rows_long : length met.rows ≡ most_transactions
  pub used : (o k : ℕ) → mem_at met.users o k ≡ used_from n op i o k
  pub written : (o k : ℕ) → mem_at met.writers o k ≡ written_from n op i o k
  pub stands : (a k : ℕ) → mem_at met.rows a k ≡ stands_from n op i a k

-- whatever the operations are: none of them is met yet
abbrev pub NothingMet : Sweep → Type 0
NothingMet met = (n : ℕ) (op : ℕ → Operation) → Swept n op n met

-- whatever the operations are: one more of them is met, which is p, and all of a stretch, which are those read
abbrev pub SweepsOne : Operation → Sweep → Sweep → Type 0
SweepsOne p before after = (n : ℕ) (op : ℕ → Operation) (i : ℕ) → i < n → op i ≡ p → Swept n op (i + 1) before → Swept n op i after

abbrev pub SweepsOver : (ℕ → Operation) → ℕ → ℕ → Sweep → Sweep → Type 0
SweepsOver read from to before after =
    (n : ℕ) (op : ℕ → Operation) → to ≤ n → ((i : ℕ) → from ≤ i → i < to → op i ≡ read i) → Swept n op to before → Swept n op from after

-- ---- what a set leads to

-- k is in the set, or one that is led to stands before it
pub data Led (R : ℕ → ℕ → Bool) (from : ℕ) : ℕ → Type 0 where
  held : {k : ℕ} → mem from k ≡ true → Led R from k
  onward : {a k : ℕ} → Led R from a → R a k ≡ true → Led R from k
