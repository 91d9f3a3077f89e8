-- One saga by itself: the moves of its own transactions, and what every move keeps.
use Prim.Native.Nat.{ℕ, zero, suc, ◌+◌, ◌-◌, ◌≤◌, ◌<◌}
use native.Mathlib.Omega.{arith}
use mathlib.Core.Path.{◌≡◌, refl, sym, ap, subst, ◌∙◌}
use mathlib.Core.Logic.{◌≢◌}
use Rattle.laws.proofs.Decisions.{same_or}
use Rattle.rules.specs.declared.Phase.{Phase}
use Rattle.rules.proofs.PhaseLaws.{code}

abbrev pub At : (ℕ → Phase) → ℕ → ℕ → Type 0
At P k c = code (P k) ≡ c

-- if T(i+1) is committed, it has an undo and that is committed
abbrev pub Next : ℕ → (ℕ → Phase) → ℕ → Type 0
Next n P i = At P (i + 1) 2 → (i + 1 < n) × At P (n + (i + 1)) 2

pub data Move (n : ℕ) (P : ℕ → Phase) : Type 0 where
  begin-saga : At P 0 0 → Move n P
  begin-step : (i : ℕ) → 1 ≤ i → i ≤ n → At P i 0 → At P 0 1 → (1 < i → At P (i - 1) 2) → Move n P
  begin_undo : (i : ℕ) → 1 ≤ i → i < n → At P (n + i) 0 → At P 0 3 → At P i 2 → code (P (i + 1)) ≢ 1 → Next n P i → Move n P
  commit-saga : At P 0 1 → At P n 2 → Move n P
  commit-step : (i : ℕ) → 1 ≤ i → i ≤ n → At P i 1 → At P 0 1 → Move n P
  commit_undo : (i : ℕ) → 1 ≤ i → i < n → At P (n + i) 1 → Move n P
  abort-saga : At P 0 1 → code (P n) ≢ 2 → Move n P
  abort_step : (i : ℕ) → 1 ≤ i → i ≤ n → At P i 1 → Move n P

abbrev pub moved_at : {n : ℕ} {P : ℕ → Phase} → Move n P → ℕ
moved_at (begin-saga a) = 0
moved_at (begin-step i a b c d e) = i
moved_at {n} (begin_undo i a b c d e w g) = n + i
moved_at (commit-saga a b) = 0
moved_at (commit-step i a b c d) = i
moved_at {n} (commit_undo i a b c) = n + i
moved_at (abort-saga a b) = 0
moved_at (abort_step i a b c) = i

abbrev pub moved_to : {n : ℕ} {P : ℕ → Phase} → Move n P → ℕ
moved_to (begin-saga a) = 1
moved_to (begin-step i a b c d e) = 1
moved_to (begin_undo i a b c d e w g) = 1
moved_to (commit-saga a b) = 2
moved_to (commit-step i a b c d) = 2
moved_to (commit_undo i a b c) = 2
moved_to (abort-saga a b) = 3
moved_to (abort_step i a b c) = 3

pub record Moved (n : ℕ) (P P' : ℕ → Phase) (m : Move n P) : Type 0 where
  pub here : code (P' (moved_at m)) ≡ moved_to m
  pub other : (k : ℕ) → k ≢ moved_at m → code (P' k) ≡ code (P k)

pub record Inv (n : ℕ) (P : ℕ → Phase) : Type 0 where
  -- before a step that was begun all are committed
  pub chain : (i k : ℕ) → 1 ≤ i → i < k → k ≤ n → 1 ≤ code (P k) → At P i 2
  -- an undo is begun only when S is aborted
  pub backs : (i : ℕ) → 1 ≤ i → i < n → 1 ≤ code (P (n + i)) → At P 0 3
  -- S isn't aborted when Tn is committed
  pub whole : At P n 2 → code (P 0) ≢ 3
  -- a begun undo's step is committed, and the next step is not, or is undone
  pub order : (i : ℕ) → 1 ≤ i → i < n → 1 ≤ code (P (n + i)) → At P i 2 × Next n P i
  -- an undo isn't aborted
  pub sound : (i : ℕ) → 1 ≤ i → i < n → code (P (n + i)) ≢ 3

-- ---- what a move says

-- where it was, where it goes
pub rises : {n : ℕ} {P : ℕ → Phase} (m : Move n P) → (code (P (moved_at m)) ≤ 1) × (code (P (moved_at m)) < moved_to m)
rises (begin-saga a) = omega arith
rises (begin-step i a b c d e) = omega arith
rises (begin_undo i a b c d e w g) = omega arith
rises (commit-saga a b) = omega arith
rises (commit-step i a b c d) = omega arith
rises (commit_undo i a b c) = omega arith
rises (abort-saga a b) = omega arith
rises (abort_step i a b c) = omega arith

-- a step that begins
pub step-begun : {n : ℕ} {P : ℕ → Phase} (m : Move n P) → 1 ≤ moved_at m → moved_at m ≤ n → At P (moved_at m) 0 →
    At P 0 1 × (1 < moved_at m → At P (moved_at m - 1) 2)
step-begun (begin-saga a) l h z = absurd (omega arith)
step-begun (begin-step i a b c d e) l h z = (d, e)
step-begun (begin_undo i a b c d e w g) l h z = absurd (omega arith)
step-begun (commit-saga a b) l h z = absurd (omega arith)
step-begun (commit-step i a b c d) l h z = absurd (omega arith)
step-begun (commit_undo i a b c) l h z = absurd (omega arith)
step-begun (abort-saga a b) l h z = absurd (omega arith)
step-begun (abort_step i a b c) l h z = absurd (omega arith)

-- an undo that begins
pub undo-begun : {n : ℕ} {P : ℕ → Phase} (m : Move n P) (i : ℕ) → 1 ≤ i → moved_at m ≡ n + i → At P (moved_at m) 0 →
    At P 0 3 × At P i 2 × Next n P i
undo-begun (begin-saga a) i l q z = absurd (omega arith)
undo-begun (begin-step j a b c d e) i l q z = absurd (omega arith)
undo-begun {n} {P} (begin_undo j a b c d e w g) i l q z =
    let r : j ≡ i = omega arith in subst (λ (x : ℕ). At P 0 3 × At P x 2 × Next n P x) r (d, e, g)
undo-begun (commit-saga a b) i l q z = absurd (omega arith)
undo-begun (commit-step j a b c d) i l q z = absurd (omega arith)
undo-begun (commit_undo j a b c) i l q z = absurd (omega arith)
undo-begun (abort-saga a b) i l q z = absurd (omega arith)
undo-begun (abort_step j a b c) i l q z = absurd (omega arith)

-- a step that commits
pub step-committed : {n : ℕ} {P : ℕ → Phase} (m : Move n P) → 1 ≤ moved_at m → moved_at m ≤ n → moved_to m ≡ 2 → At P 0 1
step-committed (begin-saga a) l h z = absurd (omega arith)
step-committed (begin-step i a b c d e) l h z = absurd (omega arith)
step-committed (begin_undo i a b c d e w g) l h z = absurd (omega arith)
step-committed (commit-saga a b) l h z = absurd (omega arith)
step-committed (commit-step i a b c d) l h z = d
step-committed (commit_undo i a b c) l h z = absurd (omega arith)
step-committed (abort-saga a b) l h z = absurd (omega arith)
step-committed (abort_step i a b c) l h z = absurd (omega arith)

-- S that aborts
pub saga-aborted : {n : ℕ} {P : ℕ → Phase} (m : Move n P) → moved_at m ≡ 0 → moved_to m ≡ 3 → code (P n) ≢ 2
saga-aborted (begin-saga a) q z = absurd (omega arith)
saga-aborted (begin-step i a b c d e) q z = absurd (omega arith)
saga-aborted (begin_undo i a b c d e w g) q z = absurd (omega arith)
saga-aborted (commit-saga a b) q z = absurd (omega arith)
saga-aborted (commit-step i a b c d) q z = absurd (omega arith)
saga-aborted (commit_undo i a b c) q z = absurd (omega arith)
saga-aborted (abort-saga a b) q z = b
saga-aborted (abort_step i a b c) q z = absurd (omega arith)

-- nothing past the steps aborts
pub aborts-low : {n : ℕ} {P : ℕ → Phase} (m : Move n P) → moved_to m ≡ 3 → moved_at m ≤ n
aborts-low (begin-saga a) z = absurd (omega arith)
aborts-low (begin-step i a b c d e) z = absurd (omega arith)
aborts-low (begin_undo i a b c d e w g) z = absurd (omega arith)
aborts-low (commit-saga a b) z = absurd (omega arith)
aborts-low (commit-step i a b c d) z = absurd (omega arith)
aborts-low (commit_undo i a b c) z = absurd (omega arith)
aborts-low (abort-saga a b) z = omega arith
aborts-low (abort_step i a b c) z = omega arith

-- ---- what a move keeps

module _ (n : ℕ) (P P' : ℕ → Phase) (m : Move n P) (d : Moved n P P' m) where
  -- at k: moved, or as before
  pub look {ℓ} : {A : Type ℓ} (k : ℕ) → (k ≡ moved_at m → code (P k) ≡ code (P (moved_at m)) → code (P' k) ≡ moved_to m → A) → (code (P' k) ≡ code (P k) → A) → A
  look k f g = same_or k (moved_at m) (λ q. f q (ap (λ (x : ℕ). code (P x)) q) (ap (λ (x : ℕ). code (P' x)) q ∙ d.here)) (λ q. g (d.other k q))

  -- what has ended stays
  pub stays : (k : ℕ) → 2 ≤ code (P k) → code (P' k) ≡ code (P k)
  stays k h = look k (λ q e g. absurd (omega (arith, rises m))) (λ e. e)

  pub stays_at : (k c : ℕ) → 2 ≤ c → At P k c → At P' k c
  stays_at k c h e = stays k (omega arith) ∙ e

  module _ (1≤n : 1 ≤ n) (inv : Inv n P) where
    keep-chain : (i k : ℕ) → 1 ≤ i → i < k → k ≤ n → 1 ≤ code (P' k) → At P' i 2
    keep-chain i k a b c h = stays_at i 2 (omega arith) (old (code (P k)) refl)
      where
        old : (x : ℕ) → code (P k) ≡ x → At P i 2
        old (suc x) e = inv.chain i k a b c (omega arith)
        old zero e =
            look
            k
            (λ q g w.
            let s = step-begun m (omega arith) (omega arith) (omega arith) in
            let p : At P (moved_at m - 1) 2 = s.1 (omega arith) in
            same_or
            i
            (moved_at m - 1)
            (λ r. rw r p)
            (λ r. inv.chain i (moved_at m - 1) a (omega arith) (omega arith) (omega arith)))
            (λ g. absurd (omega arith))

    keep-backs : (i : ℕ) → 1 ≤ i → i < n → 1 ≤ code (P' (n + i)) → At P' 0 3
    keep-backs i a b h = stays_at 0 3 (omega arith) (old (code (P (n + i))) refl)
      where
        old : (x : ℕ) → code (P (n + i)) ≡ x → At P 0 3
        old (suc x) e = inv.backs i a b (omega arith)
        old zero e =
            look (n + i) (λ q g w. (undo-begun m i a (sym q) (omega arith)).0) (λ g. absurd (omega arith))

    keep-whole : At P' n 2 → code (P' 0) ≢ 3
    keep-whole h z =
        look
        n
        (λ q g w.
        let s = step-committed m (omega arith) (omega arith) (omega arith) in
        look 0 (λ q' g' w'. omega arith) (λ g'. omega arith))
        (λ g.
        look
        0
        (λ q' g' w'. saga-aborted m (sym q') (omega arith) (omega arith))
        (λ g'. inv.whole (omega arith) (omega arith)))

    keep-order : (i : ℕ) → 1 ≤ i → i < n → 1 ≤ code (P' (n + i)) → At P' i 2 × Next n P' i
    keep-order i a b h = (stays_at i 2 (omega arith) (old (code (P (n + i))) refl).1, λ t. next (look-next t))
      where
        old : (x : ℕ) → code (P (n + i)) ≡ x → At P 0 3 × At P i 2 × Next n P i
        old (suc x) e =
            let o = inv.order i a b (omega arith) in (inv.backs i a b (omega arith), o.0, o.1)
        old zero e = look (n + i) (λ q g w. undo-begun m i a (sym q) (omega arith)) (λ g. absurd (omega arith))

        look-next : At P' (i + 1) 2 → At P (i + 1) 2
        look-next t =
            look
            (i + 1)
            (λ q g w.
            let s = step-committed m (omega arith) (omega arith) (omega arith) in
            let o = (old (code (P (n + i))) refl).0 in
            absurd (omega arith))
            (λ g. omega arith)

        next : At P (i + 1) 2 → (i + 1 < n) × At P' (n + (i + 1)) 2
        next t = let o = (old (code (P (n + i))) refl).2 t in (o.0, stays_at (n + (i + 1)) 2 (omega arith) o.1)

    keep-sound : (i : ℕ) → 1 ≤ i → i < n → code (P' (n + i)) ≢ 3
    keep-sound i a b h =
        look
        (n + i)
        (λ q g w. omega (arith, aborts-low m (omega arith)))
        (λ g. inv.sound i a b (omega arith))

    pub keep : Inv n P'
    keep = record { chain = keep-chain; backs = keep-backs; whole = keep-whole; order = keep-order; sound = keep-sound }

-- all idle
pub start : (n : ℕ) (P : ℕ → Phase) → ((k : ℕ) → At P k 0) → Inv n P
start n P z =
    record {
      chain = λ i k a b c h. absurd (omega (arith, z k));
      backs = λ i a b h. absurd (omega (arith, z (n + i)));
      whole = λ h g. omega (arith, z n);
      order = λ i a b h. absurd (omega (arith, z (n + i)));
      sound = λ i a b h. omega (arith, z (n + i));
    }
