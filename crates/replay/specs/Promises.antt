-- Serializability: after every history the transactions that hold a committed operation can be put into one order that every tie between committed operations follows, and
-- `order_of` is the one that document 02 describes.
use Rattle.std.specs.Prelude.{ℕ, ◌≤◌, ◌<◌, ◌≡◌, true, false, ◌↔◌, ◌≢◌, List, ◌∷◌, ◌++◌, length}
use Rattle.terms.specs.Limits.{most_transactions}
use Rattle.terms.specs.declared.Event.{Event}
use Rattle.sets.specs.Reach.{Leads}
use Rattle.ties.specs.Operations.{op_at, size}
use Rattle.ties.specs.Ties.{tied}
use Rattle.ties.specs.declared.Fate.TheVariants.{Committed}
use Rattle.ties.specs.declared.Ops.{Ops}
use Rattle.tables.specs.declared.Tables.{Tables}
use Rattle.histories.specs.Histories.{reached}
use Rattle.replay.specs.Replay.{comes_before, listed, order_of}

-- t is responsible for a committed operation
pub record HoldsCommitted (ops : Ops) (t : ℕ) : Type 0 where
  pub q : ℕ
  pub accepted : q < size ops
  pub committed : (op_at ops q).fate ≡ Committed
  pub whose : (op_at ops q).responsible ≡ t

-- a committed operation of a is tied to a committed operation of b, another transaction
pub record Tie (ops : Ops) (a b : ℕ) : Type 0 where
  pub p : ℕ
  pub q : ℕ
  pub tie : tied ops p q ≡ true
  pub here : (op_at ops p).fate ≡ Committed
  pub there : (op_at ops q).fate ≡ Committed
  pub first : (op_at ops p).responsible ≡ a
  pub second : (op_at ops q).responsible ≡ b
  pub differ : a ≢ b

-- c has to wait: one that is not in the list has a tie to it
abbrev pub Waits : Ops → List ℕ → ℕ → Type 0
Waits ops xs c = (a : ℕ) × Tie ops a c × (listed xs a ≡ false)

-- the list is an order to replay in
pub record ReplayOrder (ops : Ops) (order : List ℕ) : Type 0 where
  -- "all transactions that hold a committed operation"
  pub all : (t : ℕ) → (listed order t ≡ true) ↔ HoldsCommitted ops t
  -- "each transaction stands in it exactly once"
  pub once : (xs ys : List ℕ) (t : ℕ) → order ≡ xs ++ (t ∷ ys) → (listed xs t ≡ false) × (listed ys t ≡ false)
  -- "every tie between committed operations of two of them points forward"
  pub forward : (xs ys : List ℕ) (b : ℕ) → order ≡ xs ++ (b ∷ ys) → (a : ℕ) → Tie ops a b → listed xs a ≡ true
  -- "among those that could come next, the lowest number": whoever is lower and not listed yet has to wait
  pub lowest : (xs ys : List ℕ) (b : ℕ) → order ≡ xs ++ (b ∷ ys) → (c : ℕ) → c < b → HoldsCommitted ops c → listed xs c ≡ false → Waits ops xs c

-- after any events, refused ones dropped
pub record Serializable (tables : Tables) (es : List Event) : Type 0 where
  -- whom a tie between committed operations sets before whom, as the order is worked out
  pub ties : (a b : ℕ) → (comes_before (reached tables es).ops a b ≡ true) ↔ Tie (reached tables es).ops a b
  -- following such ties never leads back
  pub no_ring : (t : ℕ) → Leads (comes_before (reached tables es).ops) t t → ⊥
  -- "such an order exists after every accepted history .. and that it is the one described"
  pub order : ReplayOrder (reached tables es).ops (order_of (reached tables es).ops)
  -- there is no other
  pub only : (order : List ℕ) → ReplayOrder (reached tables es).ops order → order ≡ order_of (reached tables es).ops
  -- so a list of 64 is never too short
  pub short : length (order_of (reached tables es).ops) ≤ most_transactions

abbrev pub Serializability : Type 0
Serializability = (tables : Tables) (es : List Event) → Serializable tables es
