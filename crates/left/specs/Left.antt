-- How much is left (document 02, request 6): "the sum of outstanding over all sagas", and the same sum kept from event to event.
use Rattle.std.specs.Prelude.{ℕ, ◌+◌, ◌-◌, min, List, [], ◌∷◌}
use Rattle.terms.specs.Limits.{most_transactions}
use Rattle.terms.specs.declared.Event.{Event}
use Rattle.terms.specs.declared.Event.TheVariants.{Begin, Commit, Abort, Operation as Invoke, Delegate, CommitOne, AbortOne, Spawn}
use Rattle.tables.specs.Counts.{saga_count}
use Rattle.tables.specs.Sorts.{sort_of}
use Rattle.tables.specs.declared.Sort.{Sort}
use Rattle.tables.specs.declared.Sort.TheVariants.{Saga, Step, Undo, Plain, Unknown}
use Rattle.tables.specs.declared.Tables.{Tables}
use Rattle.rules.specs.States.{own}
use Rattle.rules.specs.declared.State.{State}
use Rattle.rules.specs.declared.Transaction.{Transaction}
use Rattle.histories.specs.Histories.{next}
use Rattle.closing.specs.Closing.{outstanding_by}
use Rattle.closing.specs.Settling.{owed_below}

-- ---- by definition: what all sagas owe together

unfoldable pub left_in : Tables → State → ℕ
left_in tables s = owed_below tables s (saga_count tables)

-- ---- kept: only the saga that owns the event's transaction can owe another number than before

-- what the saga owes that starts at f and has n steps
abbrev pub owed_from : List Transaction → ℕ → ℕ → ℕ
owed_from ts f n = outstanding_by (own ts f 0) n (own ts f)

-- what the saga owes that a transaction of this sort belongs to
abbrev pub owed_by_sort : List Transaction → Sort → ℕ
owed_by_sort ts (Saga f n) = owed_from ts f n
owed_by_sort ts (Step f n i) = owed_from ts f n
owed_by_sort ts (Undo f n i) = owed_from ts f n
owed_by_sort ts Plain = 0
owed_by_sort ts Unknown = 0

-- the sort of the transaction that an event begins or ends, where these are the sorts; other events begin and end none
abbrev pub moves_by : (ℕ → Sort) → Event → Sort
moves_by sorts (Begin t) = sorts t
moves_by sorts (Commit t) = sorts t
moves_by sorts (Abort t) = sorts t
moves_by sorts (Invoke t o m) = Unknown
moves_by sorts (Delegate t r q) = Unknown
moves_by sorts (CommitOne t q) = Unknown
moves_by sorts (AbortOne t q) = Unknown
moves_by sorts (Spawn m c) = sorts c

-- what the saga owes, in a state, that an event can change
abbrev pub owed_at : Tables → Event → State → ℕ
owed_at tables e s = owed_by_sort s.transactions (moves_by (sort_of tables) e)

-- a sum less what one saga owed, plus what it owes then; no sum is more than there may be transactions
abbrev pub moved : ℕ → ℕ → ℕ → ℕ
moved left before after = min left most_transactions - before + after

-- the sum after an event
unfoldable pub left_then : Tables → State → ℕ → Event → ℕ
left_then tables s left e = moved left (owed_at tables e s) (owed_at tables e (next tables s e))

-- and after many
unfoldable pub left_after : Tables → State → ℕ → List Event → ℕ
left_after tables s left [] = left
left_after tables s left (e ∷ es) = left_after tables (next tables s e) (left_then tables s left e) es
