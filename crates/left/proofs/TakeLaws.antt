-- Taking one event in lent numbers: the sum as the code moves it.
use Prim.Native.Nat.{ℕ}
use mathlib.Core.Path.{◌≡◌, refl, ap, ◌∙◌}
use mathlib.Core.List.{List}
use Rattle.tables.specs.Sorts.{sort_of}
use Rattle.tables.specs.declared.Sort.{Sort}
use Rattle.tables.specs.declared.Tables.{Tables}
use Rattle.terms.specs.declared.Event.{Event}
use Rattle.terms.specs.declared.Event.TheVariants.{Abort, AbortOne, Begin, Commit, CommitOne, Delegate, Operation as Invoke, Spawn}
use Rattle.sheet.specs.Sheet.{Holds, sort_at}
use Rattle.rules.specs.declared.State.{State}
use Rattle.histories.specs.Histories.{next}
use Rattle.left.specs.Left.{left_then, moved, moves_by, owed_by_sort}

-- a sheet of these tables has their sorts
moves-same : (tables : Tables) (sheet : List ℕ) → Holds tables sheet → (e : Event) → moves_by (sort_at sheet) e ≡ moves_by (sort_of tables) e
moves-same tables sheet h (Begin t) = h.sorts t
moves-same tables sheet h (Commit t) = h.sorts t
moves-same tables sheet h (Abort t) = h.sorts t
moves-same tables sheet h (Invoke t o m) = refl
moves-same tables sheet h (Delegate t r q) = refl
moves-same tables sheet h (CommitOne t q) = refl
moves-same tables sheet h (AbortOne t q) = refl
moves-same tables sheet h (Spawn m c) = h.sorts c

-- by the sort x that the code found on the sheet, the state s before and the state s' after
module _ (tables : Tables) (sheet : List ℕ) (h : Holds tables sheet) (e : Event) (x : Sort) (is : x ≡ moves_by (sort_at sheet) e) (s s' : State) (there : s' ≡ next tables s e) where
  pub sum_moved : (left before after : ℕ) → before ≡ owed_by_sort s.transactions x → after ≡ owed_by_sort s'.transactions x → moved left before after ≡ left_then tables s left e
  unfolding left_then
  sum_moved left before after b a =
      let q : x ≡ moves_by (sort_of tables) e = is ∙ moves-same tables sheet h e in
      ap (λ (k : ℕ). moved left k after) (b ∙ ap (owed_by_sort s.transactions) q)
      ∙ ap (moved left (owed_by_sort s.transactions (moves_by (sort_of tables) e))) (a ∙ ap (owed_by_sort s'.transactions) q ∙ ap (λ (z : State). owed_by_sort z.transactions (moves_by (sort_of tables) e)) there)
