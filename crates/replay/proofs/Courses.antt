-- The order, one number after another: each is the lowest of those that could come next, and at the end nobody is left. There is at most one such list.
use Prim.Native.Nat.{ℕ, ◌<◌}
use native.Mathlib.Omega.{arith}
use mathlib.Core.Path.{◌≡◌, refl, sym, ap, ap₂, subst, ◌∙◌}
use mathlib.Core.Bool.{true, false}
use mathlib.Core.List.{List, [], ◌∷◌, ◌++◌, append_assoc, append-nil, head-eq_of_cons-eq, nil≢cons, tail-eq_of_cons-eq}
use Rattle.laws.proofs.Bools.{clash, on_and}
use Rattle.laws.proofs.Decisions.{lt-or}
use Rattle.ties.specs.declared.Ops.{Ops}
use Rattle.replay.specs.Replay.{could_come, is_free, is_left}

-- b comes next: it could, and nobody lower could
pub record Next (ops : Ops) (xs : List ℕ) (b : ℕ) : Type 0 where
  pub could : could_come ops xs b ≡ true
  pub lowest : (c : ℕ) → c < b → could_come ops xs c ≡ false

abbrev pub NobodyLeft : Ops → List ℕ → Type 0
NobodyLeft ops xs = (t : ℕ) → is_left ops xs t ≡ false

-- after those come these
pub data Course (ops : Ops) : List ℕ → List ℕ → Type 0 where
  over : {xs : List ℕ} → NobodyLeft ops xs → Course ops xs []
  on : {xs ys : List ℕ} {b : ℕ} → Next ops xs b → Course ops (xs ++ (b ∷ [])) ys → Course ops xs (b ∷ ys)

module _ (ops : Ops) where
  module _ {xs : List ℕ} {b : ℕ} (w : Next ops xs b) where
    pub next-left : is_left ops xs b ≡ true
    next-left = (on_and (is_left ops xs b) (is_free ops xs b) w.could).0

    pub next-free : is_free ops xs b ≡ true
    next-free = (on_and (is_left ops xs b) (is_free ops xs b) w.could).1

  same_next : {xs : List ℕ} {b c : ℕ} → Next ops xs b → Next ops xs c → b ≡ c
  same_next {b = b} {c = c} v w =
      lt-or b c
      (λ l. clash v.could (w.lowest b l))
      (λ l. lt-or c b (λ k. clash w.could (v.lowest c k)) (λ k. omega arith))

  -- nothing else can come after them
  pub only-course : {xs ys zs : List ℕ} → Course ops xs ys → Course ops xs zs → ys ≡ zs
  only-course (over n) (over m) = refl
  only-course (over n) (on {b = b} w d) = clash (next-left w) (n b)
  only-course (on {b = b} w c) (over n) = clash (next-left w) (n b)
  only-course (on {xs = xs} w c) (on {ys = zs} v d) =
      let e = same_next v w in
      ap₂ (λ (x : ℕ) (l : List ℕ). x ∷ l) (sym e) (only-course c (subst (λ (x : ℕ). Course ops (xs ++ (x ∷ [])) zs) e d))

  -- each of them comes next when those before it are listed
  pub course-at : {xs ys : List ℕ} → Course ops xs ys → (us vs : List ℕ) (b : ℕ) → ys ≡ us ++ (b ∷ vs) → Next ops (xs ++ us) b
  course-at (over n) [] vs b e = absurd (nil≢cons e)
  course-at (over n) (u ∷ us) vs b e = absurd (nil≢cons e)
  course-at (on {xs = xs} w c) [] vs b e = rw (append-nil xs, ← head-eq_of_cons-eq e) w
  course-at (on {xs = xs} {b = x} w c) (u ∷ us) vs b e =
      subst (λ (l : List ℕ). Next ops l b)
      (append_assoc xs (x ∷ []) us ∙ ap (λ (y : ℕ). xs ++ (y ∷ us)) (head-eq_of_cons-eq e))
      (course-at c us vs b (tail-eq_of_cons-eq e))

  -- and nobody is left behind the last
  pub course-end : {xs ys : List ℕ} → Course ops xs ys → NobodyLeft ops (xs ++ ys)
  course-end (over {xs = xs} n) = subst (NobodyLeft ops) (sym (append-nil xs)) n
  course-end (on {xs = xs} {ys = ys} {b = b} w c) = subst (NobodyLeft ops) (append_assoc xs (b ∷ []) ys) (course-end c)
