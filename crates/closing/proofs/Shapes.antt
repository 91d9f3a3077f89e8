-- The commits of one saga so far: the beginning of one of demand 3's two runs.
use Prim.Native.Nat.{ℕ, zero, suc, ◌+◌, ◌-◌, ◌≤◌, ◌<◌}
use native.Mathlib.Omega.{arith}
use mathlib.Core.Path.{◌≡◌, refl, sym, ap, ◌∙◌}
use mathlib.Core.Logic.{◌≢◌, ◌⊎◌, inl, inr}
use mathlib.Core.List.{List, [], ◌∷◌, ◌++◌, append_assoc, append-nil}
use Rattle.laws.proofs.Decisions.{lt-or, same_or}
use Rattle.sets.specs.Reach.{at}
use Rattle.rules.specs.declared.Phase.{Phase}
use Rattle.rules.proofs.PhaseLaws.{code}
use Rattle.closing.specs.Demand.{Beginning, back_run, downs, ups, whole_run}
use Rattle.closing.proofs.Moves.{At, Inv, Move, Moved, Next, abort-saga, abort_step, begin-saga, begin-step, begin_undo, commit-saga, commit-step, commit_undo, look, moved_at, moved_to, stays_at}

-- exactly the steps up to j are committed
pub record Steps (n : ℕ) (P : ℕ → Phase) (j : ℕ) : Type 0 where
  pub done : (i : ℕ) → 1 ≤ i → i ≤ j → At P i 2
  pub only : (i : ℕ) → 1 ≤ i → i ≤ n → At P i 2 → i ≤ j

-- of the undos up to j exactly those above k are committed
pub record Undos (n : ℕ) (P : ℕ → Phase) (j k : ℕ) : Type 0 where
  pub done : (i : ℕ) → k < i → i ≤ j → At P (n + i) 2
  pub only : (i : ℕ) → 1 ≤ i → i < n → At P (n + i) 2 → k < i

pub data Shape (f n : ℕ) (P : ℕ → Phase) (H : List ℕ) : Type 0 where
  forward : (j : ℕ) → j ≤ n → H ≡ ups f j → Steps n P j → Undos n P j j → code (P 0) ≢ 2 → Shape f n P H
  closed : H ≡ ups f n ++ (f ∷ []) → At P 0 2 → Shape f n P H
  back : (j k : ℕ) → k ≤ j → j < n → H ++ downs f n k ≡ ups f j ++ downs f n j → Steps n P j → Undos n P j k → At P 0 3 → Shape f n P H

-- the transaction that a move commits
abbrev pub commits_in : {n : ℕ} {P : ℕ → Phase} → ℕ → Move n P → List ℕ
commits_in f (begin-saga a) = []
commits_in f (begin-step i a b c d e) = []
commits_in f (begin_undo i a b c d e w g) = []
commits_in f (commit-saga a b) = f ∷ []
commits_in f (commit-step i a b c d) = (f + i) ∷ []
commits_in {n} f (commit_undo i a b c) = (f + (n + i)) ∷ []
commits_in f (abort-saga a b) = []
commits_in f (abort_step i a b c) = []

module _ (f n : ℕ) (P P' : ℕ → Phase) (m : Move n P) (d : Moved n P P' m) (1≤n : 1 ≤ n) (inv : Inv n P) where
  -- a move that commits nothing
  was : moved_to m ≢ 2 → (k : ℕ) → At P' k 2 → At P k 2
  was t k h = look n P P' m d k (λ q e g. absurd (omega arith)) (λ e. omega arith)

  still : moved_to m ≢ 2 → (H : List ℕ) → Shape f n P H → Shape f n P' H
  still t H (forward j a e s u z) =
      forward
      j
      a
      e
      (record { done = λ i l r. stays_at n P P' m d i 2 (omega arith) (s.done i l r); only = λ i l r g. s.only i l r (was t i g) })
      (record { done = λ i l r. absurd (omega arith); only = λ i l r g. u.only i l r (was t (n + i) g) })
      (λ g. z (was t 0 g))
  still t H (closed e z) = closed e (stays_at n P P' m d 0 2 (omega arith) z)
  still t H (back j k a b e s u z) =
      back
      j
      k
      a
      b
      e
      (record { done = λ i l r. stays_at n P P' m d i 2 (omega arith) (s.done i l r); only = λ i l r g. s.only i l r (was t i g) })
      (record {
        done = λ i l r. stays_at n P P' m d (n + i) 2 (omega arith) (u.done i l r);
        only = λ i l r g. u.only i l r (was t (n + i) g);
      })
      (stays_at n P P' m d 0 3 (omega arith) z)

  -- a step commits
  stepped : (i : ℕ) → moved_at m ≡ i → moved_to m ≡ 2 → 1 ≤ i → i ≤ n → At P i 1 → At P 0 1 → (H : List ℕ) → Shape f n P H →
      Shape f n P' (H ++ ((f + i) ∷ []))
  unfolding ups
  stepped i at to l r c z H (closed e w) = absurd (omega arith)
  stepped i at to l r c z H (back j k a b e s u w) = absurd (omega arith)
  stepped i at to l r c z H (forward j a e s u w) =
      forward
      (suc j)
      (omega (arith, is))
      (rw (e, is))
      (record { done = now-done; only = now-only })
      (record {
        done = λ x p q. absurd (omega arith);
        only = λ x p q g. look n P P' m d (n + x) (λ y e g. absurd (omega arith)) (λ y. absurd (no_undo x p q (omega arith)));
      })
      (λ g. look n P P' m d 0 (λ y e g. omega arith) (λ y. omega arith))
    where
      above : j < i
      above = lt-or j i (λ h. h) (λ h. let x = s.done i l h in absurd (omega arith))

      is : i ≡ suc j
      is =
          lt-or
          (suc j)
          i
          (λ h.
          let x = s.only (i - 1) (omega arith) (omega arith) (inv.chain (i - 1) i (omega arith) (omega arith) r (omega arith)) in
          absurd (omega arith))
          (λ h. omega (arith, above))

      no_undo : (x : ℕ) → 1 ≤ x → x < n → At P (n + x) 2 → ⊥
      no_undo x p q g = let b = inv.backs x p q (omega arith) in omega arith

      now-done : (x : ℕ) → 1 ≤ x → x ≤ suc j → At P' x 2
      now-done x p q =
          same_or
          x
          i
          (λ y. ap (λ (k : ℕ). code (P' k)) (y ∙ sym at) ∙ d.here ∙ to)
          (λ y. stays_at n P P' m d x 2 (omega arith) (s.done x p (omega (arith, is))))

      now-only : (x : ℕ) → 1 ≤ x → x ≤ n → At P' x 2 → x ≤ suc j
      now-only x p q g = look n P P' m d x (λ y e w. omega (arith, is)) (λ e. omega (arith, s.only x p q (omega arith)))

  -- an undo commits: it is the next one down
  undid : (i : ℕ) → moved_at m ≡ n + i → moved_to m ≡ 2 → 1 ≤ i → i < n → At P (n + i) 1 → (H : List ℕ) →
      (j k : ℕ) → k ≤ j → j < n → H ++ downs f n k ≡ ups f j ++ downs f n j → Steps n P j → Undos n P j k → At P 0 3 →
      Shape f n P' (H ++ ((f + (n + i)) ∷ []))
  unfolding downs
  undid i at to l r c H j zero a b e s u z = absurd (omega (arith, u.done i (omega arith) (s.only i l (omega arith) (inv.order i l r (omega arith)).0)))
  undid i at to l r c H j (suc k) a b e s u z =
      back
      j
      k
      (omega arith)
      b
      (rw (append_assoc, is) e)
      (record {
        done = λ x p q. stays_at n P P' m d x 2 (omega arith) (s.done x p q);
        only = λ x p q g. s.only x p q (look n P P' m d x (λ y e g. absurd (omega arith)) (λ y. omega arith));
      })
      (record { done = now-done; only = now-only })
      (stays_at n P P' m d 0 3 (omega arith) z)
    where
      o : At P i 2 × Next n P i
      o = inv.order i l r (omega arith)

      low : i ≤ j
      low = s.only i l (omega arith) o.0

      is : i ≡ suc k
      is =
          lt-or
          (suc k)
          i
          (λ h. let v = u.done i h low in absurd (omega arith))
          (λ h.
          same_or
          i
          (suc k)
          (λ q. q)
          (λ q.
          let t = o.1 (s.done (i + 1) (omega arith) (omega arith)) in
          let v = u.only (i + 1) (omega arith) t.0 t.1 in
          absurd (omega arith)))

      now-done : (x : ℕ) → k < x → x ≤ j → At P' (n + x) 2
      now-done x p q =
          same_or
          x
          i
          (λ y. ap (λ (h : ℕ). code (P' (n + h))) y ∙ ap (λ (h : ℕ). code (P' h)) (sym at) ∙ d.here ∙ to)
          (λ y. stays_at n P P' m d (n + x) 2 (omega arith) (u.done x (omega (arith, is)) q))

      now-only : (x : ℕ) → 1 ≤ x → x < n → At P' (n + x) 2 → k < x
      now-only x p q g =
          look
          n
          P
          P'
          m
          d
          (n + x)
          (λ y e w. omega (arith, is))
          (λ e. omega (arith, u.only x p q (omega arith)))

  backed : (i : ℕ) → moved_at m ≡ n + i → moved_to m ≡ 2 → 1 ≤ i → i < n → At P (n + i) 1 → (H : List ℕ) → Shape f n P H →
      Shape f n P' (H ++ ((f + (n + i)) ∷ []))
  backed i at to l r c H (closed e w) = let b = inv.backs i l r (omega arith) in absurd (omega arith)
  backed i at to l r c H (back j k a b e s u w) = undid i at to l r c H j k a b e s u w
  backed i at to l r c H (forward j a e s u w) =
      let b = inv.backs i l r (omega arith) in
      let below : j < n =
      lt-or
      j
      n
      (λ h. h)
      (λ h. absurd (inv.whole (s.done n 1≤n h) b))
      in
      undid i at to l r c H j j (omega arith) below (rw e) s u b

  -- S commits
  wholly : moved_at m ≡ 0 → moved_to m ≡ 2 → At P 0 1 → At P n 2 → (H : List ℕ) → Shape f n P H → Shape f n P' (H ++ (f ∷ []))
  wholly at to c z H (closed e w) = absurd (omega arith)
  wholly at to c z H (back j k a b e s u w) = absurd (omega arith)
  wholly at to c z H (forward j a e s u w) =
      let is : j ≡ n = omega (arith, s.only n 1≤n (omega arith) z) in
      closed (rw (e, is)) (ap (λ (h : ℕ). code (P' h)) (sym at) ∙ d.here ∙ to)

-- the commits so far, with those of a move
pub onward : (f n : ℕ) (P P' : ℕ → Phase) (m : Move n P) → Moved n P P' m → 1 ≤ n → Inv n P → (H : List ℕ) → Shape f n P H →
    Shape f n P' (H ++ commits_in f m)
onward f n P P' (begin-saga a) d h inv H s = rw append-nil (still f n P P' (begin-saga a) d h inv (omega arith) H s)
onward f n P P' (begin-step i a b c x e) d h inv H s =
    rw append-nil (still f n P P' (begin-step i a b c x e) d h inv (omega arith) H s)
onward f n P P' (begin_undo i a b c x e w g) d h inv H s =
    rw append-nil (still f n P P' (begin_undo i a b c x e w g) d h inv (omega arith) H s)
onward f n P P' (commit-saga a b) d h inv H s = wholly f n P P' (commit-saga a b) d h inv refl refl a b H s
onward f n P P' (commit-step i a b c x) d h inv H s =
    stepped f n P P' (commit-step i a b c x) d h inv i refl refl a b c x H s
onward f n P P' (commit_undo i a b c) d h inv H s = backed f n P P' (commit_undo i a b c) d h inv i refl refl a b c H s
onward f n P P' (abort-saga a b) d h inv H s = rw append-nil (still f n P P' (abort-saga a b) d h inv (omega arith) H s)
onward f n P P' (abort_step i a b c) d h inv H s =
    rw append-nil (still f n P P' (abort_step i a b c) d h inv (omega arith) H s)

pub first-shape : (f n : ℕ) (P : ℕ → Phase) → ((k : ℕ) → At P k 0) → Shape f n P []
unfolding ups
first-shape f n P z =
    forward
    0
    (omega arith)
    refl
    (record { done = λ i l r. absurd (omega arith); only = λ i l r g. absurd (omega (arith, z i)) })
    (record { done = λ i l r. absurd (omega arith); only = λ i l r g. absurd (omega (arith, z (n + i))) })
    (λ g. omega (arith, z 0))

-- ---- the beginning of a run

ups-beginning : (f j m : ℕ) → j ≤ m → Beginning (ups f j) (ups f m)
unfolding ups
ups-beginning f j zero h = ([], let q : j ≡ 0 = omega arith in rw q)
ups-beginning f j (suc m) h =
    same_or
    j
    (suc m)
    (λ q. ([], append-nil (ups f j) ∙ ap (ups f) q))
    (λ q.
    let r = ups-beginning f j m (omega arith) in
    (r.0 ++ ((f + suc m) ∷ []), sym (append_assoc (ups f j) r.0 ((f + suc m) ∷ [])) ∙ ap (λ (l : List ℕ). l ++ ((f + suc m) ∷ [])) r.1))

abbrev pub Begun : ℕ → ℕ → List ℕ → Type 0
Begun f n H = Beginning H (whole_run f n) ⊎ ((j : ℕ) × (j < n) × Beginning H (back_run f n j))

pub begun : (f n : ℕ) (P : ℕ → Phase) (H : List ℕ) → Shape f n P H → Begun f n H
unfolding whole_run back_run
begun f n P H (forward j a e s u z) =
    let r = ups-beginning f j n a in
    inl (
      r.0 ++ (f ∷ []),
      ap (λ (l : List ℕ). l ++ (r.0 ++ (f ∷ []))) e
          ∙ sym (append_assoc (ups f j) r.0 (f ∷ []))
          ∙ ap (λ (l : List ℕ). l ++ (f ∷ [])) r.1,
    )
begun f n P H (closed e z) = inl ([], append-nil H ∙ e)
begun f n P H (back j k a b e s u z) = inr (j, b, (downs f n k, e))
