-- Lists: lengths of fields that are arrays of structs, parts of parts, fronts of rooms, stores, and lists copied one by one.
use mathlib.Core.Path.{◌≡◌, refl, sym, ap, ap₂, ◌∙◌}
use mathlib.Core.List.{List, [], ◌∷◌, ◌++◌, map}
use Prim.Native.Nat.{ℕ, zero, suc, ◌+◌, ◌≤◌, ◌<◌}
use native.Mathlib.Numerals.{add-one}
use native.Mathlib.Omega.{arith}
use lib.ListN.{length, get_or, set, take, drop, length-map}
use lib.Seq.{drop_at, drop-cons, take-add, length-take-le, set_at, append_snoc, take_all, take-suc, take-suc-set}

-- where a struct's field is an array of structs, its length is known over the mapped list
pub length-mapped : (X Y : Type 0) (g : X → Y) (l : List X) (n : ℕ) → length (map g l) ≡ n → length l ≡ n
length-mapped X Y g l n h = sym (length-map l g) ∙ h

-- what stands at a place of a beginning
pub drop_of_take : (at m : ℕ) (s : List ℕ) → at ≤ length s → drop at (take (at + m) s) ≡ take m (drop at s)
drop_of_take at m s h = ap (drop at) (take-add at m s) ∙ drop_at (take at s) (take m (drop at s)) at (length-take-le at s h)

-- one element more at the front of a room
pub front-more : (l room : List ℕ) (n v : ℕ) → length l ≡ n → n < length room
    → set (l ++ drop n room) n v ≡ (l ++ (v ∷ [])) ++ drop (n + 1) room
front-more l room n v e h =
    rw (drop-cons room n 0 h, add-one n)
    (set_at l (get_or room n 0) (drop (suc n) room) v n e ∙ sym (append_snoc l v (drop (suc n) room)))

pub front-suc : (l : List ℕ) (i : ℕ) → i < length l → take (i + 1) l ≡ take i l ++ (get_or l i 0 ∷ [])
front-suc l i h = rw (add-one i) (take-suc l i 0 h)

-- the first i + 1 of a list at the front of a room that holds its first i
pub copy_more : (l room now : List ℕ) (i : ℕ) → i < length l → i < length room → now ≡ take i l ++ drop i room
    → set now i (get_or l i 0) ≡ take (i + 1) l ++ drop (i + 1) room
copy_more l room now i h k e =
    ap (λ (s : List ℕ). set s i (get_or l i 0)) e
    ∙ front-more (take i l) room i (get_or l i 0) (length-take-le i l (omega arith)) k
    ∙ ap (λ (s : List ℕ). s ++ drop (i + 1) room) (sym (front-suc l i h))

-- ---- the first n of a list, and a list with f applied, after a store

pub take-low : {A : Type 0} (n i : ℕ) (l : List A) (d : A) → i < n → get_or (take n l) i d ≡ get_or l i d
take-low zero i l d h = absurd (omega arith)
take-low (suc n) i [] d h = refl
take-low (suc n) zero (x ∷ l) d h = refl
take-low (suc n) (suc i) (x ∷ l) d h = take-low n i l d (omega arith)

pub take-set : {A : Type 0} (n i : ℕ) (l : List A) (x : A) → take n (set l i x) ≡ set (take n l) i x
take-set zero i l x = refl
take-set (suc n) i [] x = refl
take-set (suc n) zero (y ∷ l) x = refl
take-set (suc n) (suc i) (y ∷ l) x = ap (λ (s : List _). y ∷ s) (take-set n i l x)

pub map-set : {A B : Type 0} (f : A → B) (l : List A) (i : ℕ) (x : A) → map f (set l i x) ≡ set (map f l) i (f x)
map-set f [] i x = refl
map-set f (y ∷ l) zero x = refl
map-set f (y ∷ l) (suc i) x = ap (λ (s : List _). f y ∷ s) (map-set f l i x)

-- what is stored behind the first i stands behind them
pub take-stored : {A : Type 0} (l : List A) (i : ℕ) (x : A) → i < length l → take (i + 1) (set l i x) ≡ take i l ++ (x ∷ [])
take-stored l i x h = let more : i + 1 ≡ suc i = omega arith in ap (λ (m : ℕ). take m (set l i x)) more ∙ take-suc-set l i x h

-- ---- copied one by one

-- the first i are copied
module _ {A : Type 0} (l : List A) (d : A) where
  pub copied_more : (i : ℕ) (out : List A) (x : A) → take i out ≡ take i l → i < length out → i < length l → x ≡ get_or l i d → take (i + 1) (set out i x) ≡ take (i + 1) l
  copied_more i out x e h g r = rw add-one (take-suc-set out i x h ∙ ap₂ (λ (s : List A) (y : A). s ++ (y ∷ [])) e r ∙ sym (take-suc l i d g))

  pub copied_all : (n i : ℕ) (out : List A) → take i out ≡ take i l → i ≡ n → length out ≡ n → length l ≡ n → out ≡ l
  copied_all n i out e q h g = sym (take_all i out (omega arith)) ∙ e ∙ take_all i l (omega arith)
