-- A text laid through a part of a room.
use Prim.Native.Nat.{ℕ, ◌+◌, ◌-◌, ◌≤◌}
use native.Mathlib.Omega.{arith}
use mathlib.Core.Path.{◌≡◌, sym, ap, ◌∙◌}
use mathlib.Core.List.{List, ◌++◌, append-nil}
use lib.ListN.{length, take, drop, length-drop, drop_of_length-le}
use lib.Seq.{take_all, drop-drop}
use Rattle.onward.specs.Rooms.{laid}

module _ (room line : List ℕ) (b n : ℕ) (long : length line ≡ n) (fits : b + n ≤ length room) where
  -- as a part of the room leaves it: k are the elements from b to its end
  pub part-is : (k : ℕ) → k ≡ length room - b
      → take b room ++ ((line ++ drop n (take k (drop b room))) ++ drop k (drop b room)) ≡ laid b line room
  unfolding laid
  part-is k e =
      let l = length-drop b room in
      ap (take b room ++◌)
      (ap (λ (x : List ℕ). (line ++ drop n x) ++ drop k (drop b room)) (take_all k (drop b room) (omega (arith, l)))
      ∙ ap ((line ++ drop n (drop b room)) ++◌) (drop_of_length-le (drop b room) {i = k} (omega (arith, l)))
      ∙ append-nil (line ++ drop n (drop b room)) ∙ ap (line ++◌) (drop-drop n b room)
      ∙ ap (λ (i : ℕ). line ++ drop (b + i) room) (sym long))
