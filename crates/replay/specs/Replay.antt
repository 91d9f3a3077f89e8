-- An order to replay in (document 02, request 7): "an order of all transactions that hold a committed operation, such that every tie between committed operations
-- of two of them points forward; among those that could come next, the lowest number".
use Rattle.std.specs.Prelude.{ℕ, zero, suc, Bool, false, cond, not, ◌&&◌, ◌||◌, List, [], ◌∷◌, ◌++◌, eqb, ltb, length, drop, Option, None, Some}
use Rattle.laws.specs.Index.{any_below, first_below}
use Rattle.terms.specs.Limits.{most_transactions}
use Rattle.ties.specs.Operations.{is_committed, no_operation, op_at, size}
use Rattle.ties.specs.Ties.{ties_of}
use Rattle.ties.specs.declared.Operation.{Operation}
use Rattle.ties.specs.declared.Ops.{Ops}

-- ---- who is listed, and who comes before whom

-- t answers for a committed operation, whatever became of t itself
abbrev pub kept_by : ℕ → Operation → Bool
kept_by t op = is_committed op.fate && eqb op.responsible t

unfoldable pub holds : Ops → ℕ → Bool
holds ops t = any_below (size ops) (λ q. kept_by t (op_at ops q))

-- the operation if it is committed; any other is as if there were none
abbrev pub kept : Operation → Operation
kept op = cond (is_committed op.fate) op no_operation

-- a committed operation of a is tied to a later committed one of b
unfoldable pub comes_before : Ops → ℕ → ℕ → Bool
comes_before ops = ties_of (size ops) (λ q. kept (op_at ops q))

-- ---- the order

-- t stands in the list
unfoldable pub listed : List ℕ → ℕ → Bool
listed [] t = false
listed (x ∷ xs) t = eqb x t || listed xs t

-- t is to be listed, and is not yet
abbrev pub is_left : Ops → List ℕ → ℕ → Bool
is_left ops xs t = holds ops t && not (listed xs t)

-- nobody that is left comes before t
abbrev pub is_free : Ops → List ℕ → ℕ → Bool
is_free ops xs t = not (any_below most_transactions (λ a. is_left ops xs a && comes_before ops a t))

-- t could come next
abbrev pub could_come : Ops → List ℕ → ℕ → Bool
could_come ops xs t = is_left ops xs t && is_free ops xs t

-- "among those that could come next, the lowest number"
abbrev pub next_of : Ops → List ℕ → ℕ
next_of ops xs = first_below most_transactions (could_come ops xs)

-- what comes after these, at most so many
unfoldable pub order_after : Ops → ℕ → List ℕ → List ℕ
order_after ops zero xs = []
order_after ops (suc n) xs = cond (ltb (next_of ops xs) most_transactions) (next_of ops xs ∷ order_after ops n (xs ++ (next_of ops xs ∷ []))) []

unfoldable pub order_of : Ops → List ℕ
order_of ops = order_after ops most_transactions []

-- ---- into a lent list: the order at its front and the rest as it was; or nothing is touched

unfoldable pub copy_answer : List ℕ → List ℕ → Option ℕ
copy_answer order room = cond (ltb (length room) (length order)) None (Some (length order))

unfoldable pub copy_room : List ℕ → List ℕ → List ℕ
copy_room order room = cond (ltb (length room) (length order)) room (order ++ drop (length order) room)
