-- One saga by itself: the stage that its own transactions are in, by their phases and by the events that led there, and every move from stage to stage.
use Prim.Native.Nat.{ℕ, suc, ◌+◌, ◌-◌, ◌≤◌, ◌<◌}
use native.Mathlib.Omega.{arith}
use mathlib.Core.Path.{◌≡◌, sym, ap, ◌∙◌}
use mathlib.Core.Logic.{◌≢◌}
use Rattle.laws.proofs.Decisions.{lt-or, same_or}
use Rattle.rules.specs.declared.Phase.{Phase}
use Rattle.rules.proofs.PhaseLaws.{code}
use Rattle.closing.proofs.Moves.{Move, Moved, moved_at, moved_to}

-- S is in phase s; T1 to T(j) are committed, T(j+1) is in phase x, and those above are idle; C(j) to C(k+1) are committed, C(k) is in phase y, all other undos are idle
pub record Form (n : ℕ) (P : ℕ → Phase) (s j x k y : ℕ) : Type 0 where
  pub saga : code (P 0) ≡ s
  pub up : (i : ℕ) → 1 ≤ i → i ≤ j → code (P i) ≡ 2
  pub at : j < n → code (P (suc j)) ≡ x
  pub above : (i : ℕ) → suc j < i → i ≤ n → code (P i) ≡ 0
  pub undone : (i : ℕ) → k < i → i ≤ j → i < n → code (P (n + i)) ≡ 2
  pub undo : 1 ≤ k → k < n → code (P (n + k)) ≡ y
  pub below : (i : ℕ) → 1 ≤ i → i < k → i < n → code (P (n + i)) ≡ 0
  pub beyond : (i : ℕ) → j < i → k < i → i < n → code (P (n + i)) ≡ 0

-- the same phases
pub form-same : (n : ℕ) (P P' : ℕ → Phase) → 1 ≤ n → ((k : ℕ) → k < n + n → code (P' k) ≡ code (P k)) → (s j x k y : ℕ) → j ≤ n → Form n P s j x k y → Form n P' s j x k y
form-same n P P' l same s j x k y b F =
    record {
      saga = same 0 (omega arith) ∙ F.saga;
      up = λ i p q. same i (omega arith) ∙ F.up i p q;
      at = λ p. same (suc j) (omega arith) ∙ F.at p;
      above = λ i p q. same i (omega arith) ∙ F.above i p q;
      undone = λ i p q r. same (n + i) (omega arith) ∙ F.undone i p q r;
      undo = λ p q. same (n + k) (omega arith) ∙ F.undo p q;
      below = λ i p q r. same (n + i) (omega arith) ∙ F.below i p q r;
      beyond = λ i p q r. same (n + i) (omega arith) ∙ F.beyond i p q r;
    }

-- ---- what a form says of a step and of an undo

module _ (n : ℕ) (P : ℕ → Phase) (s j x k y : ℕ) (F : Form n P s j x k y) where
  by-step {ℓ} : {A : Type ℓ} (i : ℕ) → 1 ≤ i → i ≤ n → (i ≤ j → code (P i) ≡ 2 → A) → (i ≡ suc j → code (P i) ≡ x → A) → (suc j < i → code (P i) ≡ 0 → A) → A
  by-step i l r f g e =
      lt-or j i
      (λ a. same_or i (suc j) (λ q. g q (ap (λ (z : ℕ). code (P z)) q ∙ F.at (omega arith))) (λ q. e (omega (arith, a, q)) (F.above i (omega (arith, a, q)) r)))
      (λ a. f a (F.up i l a))

  by-undo {ℓ} : {A : Type ℓ} (i : ℕ) → 1 ≤ i → i < n → (k < i → i ≤ j → code (P (n + i)) ≡ 2 → A) → (i ≡ k → code (P (n + i)) ≡ y → A) → ((i < k) → code (P (n + i)) ≡ 0 → A)
      → (j < i → k < i → code (P (n + i)) ≡ 0 → A) → A
  by-undo i l r f g e o =
      same_or i k
      (λ q. g q (ap (λ (z : ℕ). code (P (n + z))) q ∙ F.undo (omega arith) (omega arith)))
      (λ q. lt-or i k (λ a. e a (F.below i l a r)) (λ a. lt-or j i (λ b. o b (omega (arith, a, q)) (F.beyond i b (omega (arith, a, q)) r)) (λ b. f (omega (arith, a, q)) b (F.undone i (omega (arith, a, q)) b r))))

  pub none-active : x ≢ 1 → (i : ℕ) → 1 ≤ i → i ≤ n → code (P i) ≡ 1 → ⊥
  none-active nx i l r a = by-step i l r (λ b c. omega arith) (λ b c. nx (sym c ∙ a)) (λ b c. omega arith)

  pub the-active : (i : ℕ) → 1 ≤ i → i ≤ n → code (P i) ≡ 1 → i ≡ suc j
  the-active i l r a = by-step i l r (λ b c. absurd (omega arith)) (λ b c. b) (λ b c. absurd (omega arith))

  pub no-undo-active : y ≢ 1 → (i : ℕ) → 1 ≤ i → i < n → code (P (n + i)) ≡ 1 → ⊥
  no-undo-active ny i l r a = by-undo i l r (λ b d c. omega arith) (λ b c. ny (sym c ∙ a)) (λ b c. omega arith) (λ b d c. omega arith)

  pub the-undo : (i : ℕ) → 1 ≤ i → i < n → code (P (n + i)) ≡ 1 → i ≡ k
  the-undo i l r a = by-undo i l r (λ b d c. absurd (omega arith)) (λ b c. b) (λ b c. absurd (omega arith)) (λ b d c. absurd (omega arith))

  -- only T(j+1) begins
  pub the-next : x ≢ 2 → (i : ℕ) → 1 ≤ i → i ≤ n → code (P i) ≡ 0 → (1 < i → code (P (i - 1)) ≡ 2) → (i ≡ suc j) × (x ≡ 0)
  the-next nx i l r z w =
      by-step i l r (λ b c. absurd (omega arith)) (λ b c. (b, omega arith))
      (λ b c.
      let d = w (omega arith) in
      absurd (by-step (i - 1) (omega arith) (omega arith) (λ e g. omega arith) (λ e g. nx (sym g ∙ d)) (λ e g. omega arith)))

  -- a step that is committed is one of the j
  pub is_up : x ≢ 2 → (i : ℕ) → 1 ≤ i → i ≤ n → code (P i) ≡ 2 → i ≤ j
  is_up nx i l r c = by-step i l r (λ b d. b) (λ b d. absurd (nx (sym d ∙ c))) (λ b d. absurd (omega arith))

  -- only C(k) begins
  pub the-next-undo : x ≢ 2 → y ≢ 2 → k ≤ j → j < n → (i : ℕ) → 1 ≤ i → i < n → code (P (n + i)) ≡ 0 → code (P i) ≡ 2 → (code (P (i + 1)) ≡ 2 → (i + 1 < n) × (code (P (n + (i + 1))) ≡ 2)) → i ≡ k
  the-next-undo nx ny kj jn i l r z c w =
      by-undo i l r (λ b d e. absurd (omega arith)) (λ b e. b)
      (λ b e.
      let t = w (F.up (i + 1) (omega arith) (omega arith)) in
      absurd (by-undo (i + 1) (omega arith) t.0 (λ p q g. omega arith) (λ p g. ny (sym g ∙ t.1)) (λ p g. omega (arith, t.1)) (λ p q g. omega arith)))
      (λ b d e. absurd (omega (arith, b, is_up nx i l (omega arith) c)))

-- ---- one move

module _ (n : ℕ) (P P' : ℕ → Phase) (m : Move n P) (d : Moved n P P' m) where
  now : (i : ℕ) → moved_at m ≡ i → code (P' i) ≡ moved_to m
  now i e = ap (λ (z : ℕ). code (P' z)) (sym e) ∙ d.here

  pub saga-moved : moved_at m ≡ 0 → 1 ≤ n → (s j x k y : ℕ) → Form n P s j x k y → Form n P' (moved_to m) j x k y
  saga-moved e 1≤n s j x k y F =
      record {
        saga = now 0 e;
        up = λ i p q. d.other i (λ z. absurd (omega arith)) ∙ F.up i p q;
        at = λ p. d.other (suc j) (λ z. absurd (omega arith)) ∙ F.at p;
        above = λ i p q. d.other i (λ z. absurd (omega arith)) ∙ F.above i p q;
        undone = λ i p q r. d.other (n + i) (λ z. absurd (omega arith)) ∙ F.undone i p q r;
        undo = λ p q. d.other (n + k) (λ z. absurd (omega arith)) ∙ F.undo p q;
        below = λ i p q r. d.other (n + i) (λ z. absurd (omega arith)) ∙ F.below i p q r;
        beyond = λ i p q r. d.other (n + i) (λ z. absurd (omega arith)) ∙ F.beyond i p q r;
      }

  pub step-moved : (s j x k y : ℕ) → moved_at m ≡ suc j → j < n → Form n P s j x k y → Form n P' s j (moved_to m) k y
  step-moved s j x k y e l F =
      record {
        saga = d.other 0 (λ z. absurd (omega arith)) ∙ F.saga;
        up = λ i p q. d.other i (λ z. absurd (omega arith)) ∙ F.up i p q;
        at = λ p. now (suc j) e;
        above = λ i p q. d.other i (λ z. absurd (omega arith)) ∙ F.above i p q;
        undone = λ i p q r. d.other (n + i) (λ z. absurd (omega arith)) ∙ F.undone i p q r;
        undo = λ p q. d.other (n + k) (λ z. absurd (omega arith)) ∙ F.undo p q;
        below = λ i p q r. d.other (n + i) (λ z. absurd (omega arith)) ∙ F.below i p q r;
        beyond = λ i p q r. d.other (n + i) (λ z. absurd (omega arith)) ∙ F.beyond i p q r;
      }

  pub undo-moved : (s j x k y : ℕ) → moved_at m ≡ n + k → 1 ≤ k → k ≤ j → j < n → Form n P s j x k y → Form n P' s j x k (moved_to m)
  undo-moved s j x k y e l kj jn F =
      record {
        saga = d.other 0 (λ z. absurd (omega arith)) ∙ F.saga;
        up = λ i p q. d.other i (λ z. absurd (omega arith)) ∙ F.up i p q;
        at = λ p. d.other (suc j) (λ z. absurd (omega arith)) ∙ F.at p;
        above = λ i p q. d.other i (λ z. absurd (omega arith)) ∙ F.above i p q;
        undone = λ i p q r. d.other (n + i) (λ z. absurd (omega arith)) ∙ F.undone i p q r;
        undo = λ p q. now (n + k) e;
        below = λ i p q r. d.other (n + i) (λ z. absurd (omega arith)) ∙ F.below i p q r;
        beyond = λ i p q r. d.other (n + i) (λ z. absurd (omega arith)) ∙ F.beyond i p q r;
      }

-- T(j+1) is committed: one step more
pub one_up : (n : ℕ) (P : ℕ → Phase) (s j : ℕ) → j < n → Form n P s j 2 j 0 → Form n P s (suc j) 0 (suc j) 0
one_up n P s j l F =
    record {
      saga = F.saga;
      up = λ i p q. by-step n P s j 2 j 0 F i p (omega arith) (λ a c. c) (λ a c. c) (λ a c. absurd (omega arith));
      at = λ p. F.above (suc (suc j)) (omega arith) (omega arith);
      above = λ i p q. F.above i (omega arith) q;
      undone = λ i p q r. absurd (omega arith);
      undo = λ p q. F.beyond (suc j) (omega arith) (omega arith) q;
      below = λ i p q r. by-undo n P s j 2 j 0 F i p r (λ a b c. absurd (omega arith)) (λ a c. c) (λ a c. c) (λ a b c. c);
      beyond = λ i p q r. F.beyond i (omega arith) (omega arith) r;
    }

-- C(k+1) is committed: one undo fewer
pub one_down : (n : ℕ) (P : ℕ → Phase) (s j x k : ℕ) → suc k ≤ j → j < n → Form n P s j x (suc k) 2 → Form n P s j x k 0
one_down n P s j x k l jn F =
    record {
      saga = F.saga;
      up = F.up;
      at = F.at;
      above = F.above;
      undone = λ i p q r. by-undo n P s j x (suc k) 2 F i (omega arith) r (λ a b c. c) (λ a c. c) (λ a c. absurd (omega arith)) (λ a b c. absurd (omega arith));
      undo = λ p q. F.below k p (omega arith) q;
      below = λ i p q r. F.below i p (omega arith) r;
      beyond = λ i p q r. F.beyond i p (omega arith) r;
    }
