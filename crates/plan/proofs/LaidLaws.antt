-- Lists laid over a room from a place on, part by part.
use mathlib.Core.Path.{◌≡◌, sym, ap, ap₂, ◌∙◌}
use mathlib.Core.List.{List, [], ◌∷◌, ◌++◌, append_assoc}
use Prim.Native.Nat.{ℕ, suc, ◌+◌, ◌≤◌, ◌<◌}
use native.Mathlib.Numerals.{add-one}
use native.Mathlib.Omega.{arith}
use lib.ListN.{length, set, take, drop, length-append}
use lib.Seq.{take-length, take-suc-set, drop-set-lt, append_snoc, drop-drop, take_at, drop_at, length-take-le, paste, paste-zero, length-paste}
use Rattle.plan.specs.Passes.{laid}

-- nothing is laid
pub laid_none : (room : List ℕ) (at : ℕ) → laid room at [] ≡ room
laid_none room at = sym (paste-zero room at [])

-- at the front of a room
pub laid-front : (room l : List ℕ) → laid room 0 l ≡ l ++ drop (length l) room
laid-front room l = let e : 0 + length l ≡ length l = omega arith in ap (λ (k : ℕ). l ++ drop k room) e

-- one by one
pub laid_by : (room : List ℕ) (at : ℕ) (l : List ℕ) → paste room at l (length l) ≡ laid room at l
laid_by room at l = ap (λ (x : List ℕ). take at room ++ x ++ drop (at + length l) room) (take-length l)

-- its first element is stored, the others are laid behind it
pub laid_cons : (room : List ℕ) (at v : ℕ) (l : List ℕ) → at < length room → laid room at (v ∷ l) ≡ laid (set room at v) (at + 1) l
laid_cons room at v l h =
    let e : at + suc (length l) ≡ at + 1 + length l = omega arith in
    ap (λ (k : ℕ). take at room ++ (v ∷ l) ++ drop k room) e
    ∙ sym (ap₂ (λ (x y : List ℕ). x ++ l ++ y)
    (ap (λ (k : ℕ). take k (set room at v)) (add-one at) ∙ take-suc-set room at v h)
    (drop-set-lt (at + 1 + length l) room at v (omega arith))
    ∙ ap (λ (x : List ℕ). x ++ drop (at + 1 + length l) room) (append_snoc (take at room) v l))

module _ (room : List ℕ) (at : ℕ) (x : List ℕ) (h : at + length x ≤ length room) where
  front_length : length (take at room ++ x) ≡ at + length x
  front_length = length-append (take at room) x ∙ ap (λ (k : ℕ). k + length x) (length-take-le at room (omega arith))

  -- one part after the other
  pub laid-append : (y : List ℕ) → laid room at (x ++ y) ≡ laid (laid room at x) (at + length x) y
  laid-append y =
      let e : at + length (x ++ y) ≡ at + length x + length y = omega (arith, length-append x y) in
      ap₂ (λ (p : List ℕ) (k : ℕ). p ++ drop k room) (sym (append_assoc (take at room) x y)) e
      ∙ sym (ap₂ (λ (p q : List ℕ). p ++ y ++ q)
      (take_at (take at room ++ x) (drop (at + length x) room) (at + length x) front_length)
      (sym (drop-drop (length y) (at + length x) (laid room at x))
      ∙ ap (drop (length y)) (drop_at (take at room ++ x) (drop (at + length x) room) (at + length x) front_length)
      ∙ drop-drop (length y) (at + length x) room))

pub length-laid : (room : List ℕ) (at : ℕ) (l : List ℕ) → at + length l ≤ length room → length (laid room at l) ≡ length room
length-laid room at l h = sym (ap length (laid_by room at l)) ∙ length-paste room at l (length l) h (omega arith)
