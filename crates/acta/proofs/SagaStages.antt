-- Every move of a saga's own transactions leads from a beginning of one of the words to a beginning of one of them (★5).
use Prim.Native.Nat.{ℕ, zero, suc, ◌+◌, ◌≤◌, ◌<◌}
use native.Mathlib.Omega.{arith}
use mathlib.Core.Path.{◌≡◌, refl, sym, ap, subst, subst⁻¹, ◌∙◌}
use mathlib.Core.Logic.{◌≢◌}
use mathlib.Core.List.{List, [], ◌∷◌, ◌++◌, append_assoc, append-nil}
use Rattle.laws.proofs.Decisions.{lt-or}
use Rattle.terms.specs.declared.Event.{Event}
use Rattle.terms.specs.declared.Event.TheVariants.{Abort, Begin, Commit}
use Rattle.rules.specs.declared.Phase.{Phase}
use Rattle.rules.proofs.PhaseLaws.{code}
use Rattle.closing.proofs.Moves.{Move, Moved, abort-saga, abort_step, begin-saga, begin-step, begin_undo, commit-saga, commit-step, commit_undo}
use Rattle.closing.proofs.OutstandingLaws.{move_event}
use Rattle.acta.specs.SagaWords.{Word, back, between, failing, forth, within}
use Rattle.acta.proofs.Stages.{Form, is_up, no-undo-active, none-active, one_down, one_up, saga-moved, step-moved, the-active, the-next, the-next-undo, the-undo, undo-moved}

-- where a saga stands, and the events of its own that led there
pub data Stage (f n : ℕ) (P : ℕ → Phase) (W : List Event) : Type 0 where
  not-begun : Form n P 0 0 0 0 0 → W ≡ [] → Stage f n P W
  at_rest : (j : ℕ) → j ≤ n → Form n P 1 j 0 j 0 → W ≡ Begin f ∷ (forth f j ++ []) → Stage f n P W
  in_step : (j : ℕ) → j < n → Form n P 1 j 1 j 0 → W ≡ Begin f ∷ (forth f j ++ (Begin (f + suc j) ∷ [])) → Stage f n P W
  failed : (j : ℕ) → j < n → Form n P 1 j 3 j 0 → W ≡ Begin f ∷ (forth f j ++ (Begin (f + suc j) ∷ Abort (f + suc j) ∷ [])) → Stage f n P W
  closed : Form n P 2 n 0 n 0 → W ≡ Begin f ∷ (forth f n ++ (Commit f ∷ [])) → Stage f n P W
  torn : (j : ℕ) → j < n → Form n P 3 j 1 j 0 → W ≡ Begin f ∷ (forth f j ++ (Begin (f + suc j) ∷ Abort f ∷ [])) → Stage f n P W
  undoing : (j k x : ℕ) (w : List Event) → k ≤ j → j < n → x ≢ 1 → x ≢ 2 → Form n P 3 j x k 0 → Word f n w → W ++ back f n k ≡ w → Stage f n P W
  in-undo : (j k x : ℕ) (w : List Event) → suc k ≤ j → j < n → x ≢ 1 → x ≢ 2 → Form n P 3 j x (suc k) 1 → Word f n w
      → W ++ (Commit (f + (n + suc k)) ∷ back f n k) ≡ w → Stage f n P W

-- a longer word
pub longer : (f j : ℕ) (X Y W : List Event) → W ≡ Begin f ∷ (forth f j ++ X) → W ++ Y ≡ Begin f ∷ (forth f j ++ (X ++ Y))
longer f j X Y W q = ap (λ (l : List Event). l ++ Y) q ∙ ap (λ (l : List Event). Begin f ∷ l) (append_assoc (forth f j) X Y)

forth-more : (f j : ℕ) → forth f j ++ (Begin (f + suc j) ∷ Commit (f + suc j) ∷ []) ≡ forth f (suc j) ++ []
unfolding forth
forth-more f j = sym (append-nil (forth f j ++ (Begin (f + suc j) ∷ Commit (f + suc j) ∷ [])))

started : (f : ℕ) (W : List Event) → W ≡ [] → W ++ (Begin f ∷ []) ≡ Begin f ∷ (forth f 0 ++ [])
unfolding forth
started f W q = ap (λ (l : List Event). l ++ (Begin f ∷ [])) q

next_down : (f n k : ℕ) (W : List Event) → W ++ back f n (suc k) ≡ (W ++ (Begin (f + (n + suc k)) ∷ [])) ++ (Commit (f + (n + suc k)) ∷ back f n k)
unfolding back
next_down f n k W = sym (append_assoc W (Begin (f + (n + suc k)) ∷ []) (Commit (f + (n + suc k)) ∷ back f n k))

suc_one : (i j : ℕ) → i ≡ j → i + 1 ≡ suc j
suc_one i j e = omega arith

module _ (f n : ℕ) (1≤n : 1 ≤ n) (P P' : ℕ → Phase) (W : List Event) where
  -- an event of step i, which is T(j+1)
  of-step : (ev : ℕ → Event) (i j : ℕ) → i ≡ suc j → Stage f n P' (W ++ (ev (f + suc j) ∷ [])) → Stage f n P' (W ++ (ev (f + i) ∷ []))
  of-step ev i j e st = subst⁻¹ (λ (z : ℕ). Stage f n P' (W ++ (ev (f + z) ∷ []))) e st

  of-undo : (ev : ℕ → Event) (i k : ℕ) → i ≡ suc k → Stage f n P' (W ++ (ev (f + (n + suc k)) ∷ [])) → Stage f n P' (W ++ (ev (f + (n + i)) ∷ []))
  of-undo ev i k e st = subst⁻¹ (λ (z : ℕ). Stage f n P' (W ++ (ev (f + (n + z)) ∷ []))) e st

  -- C(k) begins
  begin-it : (i : ℕ) (a : 1 ≤ i) (b : i < n) → (j k x : ℕ) (w : List Event) → k ≤ j → j < n → x ≢ 1 → x ≢ 2 → Form n P 3 j x k 0 → Form n P' 3 j x k 1 → Word f n w → W ++ back f n k ≡ w → i ≡ k
      → Stage f n P' (W ++ (Begin (f + (n + i)) ∷ []))
  begin-it i a b j zero x w kj jn nx ny F G is q t = absurd (omega arith)
  begin-it i a b j (suc k) x w kj jn nx ny F G is q t = of-undo Begin i k t (in-undo j k x w kj jn nx ny G is (sym (next_down f n k W) ∙ q))

  pub onward : (m : Move n P) → Moved n P P' m → Stage f n P W → Stage f n P' (W ++ (move_event f m ∷ []))
  onward (begin-saga a) d (not-begun F q) = at_rest 0 (omega arith) (saga-moved n P P' (begin-saga a) d refl 1≤n 0 0 0 0 0 F) (started f W q)
  onward (begin-saga a) d (at_rest j l F q) = absurd (omega (arith, F.saga))
  onward (begin-saga a) d (in_step j l F q) = absurd (omega (arith, F.saga))
  onward (begin-saga a) d (failed j l F q) = absurd (omega (arith, F.saga))
  onward (begin-saga a) d (closed F q) = absurd (omega (arith, F.saga))
  onward (begin-saga a) d (torn j l F q) = absurd (omega (arith, F.saga))
  onward (begin-saga a) d (undoing j k x w kj jn nx ny F is q) = absurd (omega (arith, F.saga))
  onward (begin-saga a) d (in-undo j k x w kj jn nx ny F is q) = absurd (omega (arith, F.saga))
  onward (begin-step i a b c e g) d (not-begun F q) = absurd (omega (arith, F.saga))
  onward (begin-step i a b c e g) d (at_rest j l F q) =
      let t = the-next n P 1 j 0 j 0 F (λ z. absurd (omega arith)) i a b c g in
      of-step Begin i j t.0 (in_step j (omega (arith, t.0)) (step-moved n P P' (begin-step i a b c e g) d 1 j 0 j 0 t.0 (omega (arith, t.0)) F) (longer f j [] (Begin (f + suc j) ∷ []) W q))
  onward (begin-step i a b c e g) d (in_step j l F q) = absurd (omega (arith, (the-next n P 1 j 1 j 0 F (λ z. absurd (omega arith)) i a b c g).1))
  onward (begin-step i a b c e g) d (failed j l F q) = absurd (omega (arith, (the-next n P 1 j 3 j 0 F (λ z. absurd (omega arith)) i a b c g).1))
  onward (begin-step i a b c e g) d (closed F q) = absurd (omega (arith, F.saga))
  onward (begin-step i a b c e g) d (torn j l F q) = absurd (omega (arith, F.saga))
  onward (begin-step i a b c e g) d (undoing j k x w kj jn nx ny F is q) = absurd (omega (arith, F.saga))
  onward (begin-step i a b c e g) d (in-undo j k x w kj jn nx ny F is q) = absurd (omega (arith, F.saga))
  onward (begin_undo i a b c e g v o) d (not-begun F q) = absurd (omega (arith, F.saga))
  onward (begin_undo i a b c e g v o) d (at_rest j l F q) = absurd (omega (arith, F.saga))
  onward (begin_undo i a b c e g v o) d (in_step j l F q) = absurd (omega (arith, F.saga))
  onward (begin_undo i a b c e g v o) d (failed j l F q) = absurd (omega (arith, F.saga))
  onward (begin_undo i a b c e g v o) d (closed F q) = absurd (omega (arith, F.saga))
  onward (begin_undo i a b c e g v o) d (torn j l F q) = absurd (v (ap (λ (z : ℕ). code (P z)) (suc_one i j (the-next-undo n P 3 j 1 j 0 F (λ z. absurd (omega arith)) (λ z. absurd (omega arith)) (omega arith) l i a b c g o)) ∙ F.at l))
  onward (begin_undo i a b c e g v o) d (undoing j k x w kj jn nx ny F is q) =
      let t = the-next-undo n P 3 j x k 0 F ny (λ z. absurd (omega arith)) kj jn i a b c g o in
      begin-it i a b j k x w kj jn nx ny F (undo-moved n P P' (begin_undo i a b c e g v o) d 3 j x k 0 (ap (λ (z : ℕ). n + z) t) (omega (arith, t)) kj jn F) is q t
  onward (begin_undo i a b c e g v o) d (in-undo j k x w kj jn nx ny F is q) = absurd (omega (arith, c, ap (λ (z : ℕ). code (P (n + z))) (the-next-undo n P 3 j x (suc k) 1 F ny (λ z. absurd (omega arith)) kj jn i a b c g o), F.undo (omega arith) (omega arith)))
  onward (commit-saga a b) d (not-begun F q) = absurd (omega (arith, F.saga))
  onward (commit-saga a b) d (at_rest j l F q) =
      let e : j ≡ n = omega (arith, l, is_up n P 1 j 0 j 0 F (λ z. absurd (omega arith)) n 1≤n (omega arith) b) in
      closed (subst (λ (z : ℕ). Form n P' 2 z 0 z 0) e (saga-moved n P P' (commit-saga a b) d refl 1≤n 1 j 0 j 0 F))
      (longer f n [] (Commit f ∷ []) W (subst (λ (z : ℕ). W ≡ Begin f ∷ (forth f z ++ [])) e q))
  onward (commit-saga a b) d (in_step j l F q) = absurd (omega (arith, l, is_up n P 1 j 1 j 0 F (λ z. absurd (omega arith)) n 1≤n (omega arith) b))
  onward (commit-saga a b) d (failed j l F q) = absurd (omega (arith, l, is_up n P 1 j 3 j 0 F (λ z. absurd (omega arith)) n 1≤n (omega arith) b))
  onward (commit-saga a b) d (closed F q) = absurd (omega (arith, F.saga))
  onward (commit-saga a b) d (torn j l F q) = absurd (omega (arith, F.saga))
  onward (commit-saga a b) d (undoing j k x w kj jn nx ny F is q) = absurd (omega (arith, F.saga))
  onward (commit-saga a b) d (in-undo j k x w kj jn nx ny F is q) = absurd (omega (arith, F.saga))
  onward (commit-step i a b c e) d (not-begun F q) = absurd (omega (arith, F.saga))
  onward (commit-step i a b c e) d (at_rest j l F q) = absurd (none-active n P 1 j 0 j 0 F (λ z. absurd (omega arith)) i a b c)
  onward (commit-step i a b c e) d (in_step j l F q) =
      let t = the-active n P 1 j 1 j 0 F i a b c in
      of-step Commit i j t (at_rest (suc j) (omega arith) (one_up n P' 1 j l (step-moved n P P' (commit-step i a b c e) d 1 j 1 j 0 t l F))
      (longer f j (Begin (f + suc j) ∷ []) (Commit (f + suc j) ∷ []) W q ∙ ap (λ (z : List Event). Begin f ∷ z) (forth-more f j)))
  onward (commit-step i a b c e) d (failed j l F q) = absurd (none-active n P 1 j 3 j 0 F (λ z. absurd (omega arith)) i a b c)
  onward (commit-step i a b c e) d (closed F q) = absurd (omega (arith, F.saga))
  onward (commit-step i a b c e) d (torn j l F q) = absurd (omega (arith, F.saga))
  onward (commit-step i a b c e) d (undoing j k x w kj jn nx ny F is q) = absurd (omega (arith, F.saga))
  onward (commit-step i a b c e) d (in-undo j k x w kj jn nx ny F is q) = absurd (omega (arith, F.saga))
  onward (commit_undo i a b c) d (not-begun F q) = absurd (no-undo-active n P 0 0 0 0 0 F (λ z. absurd (omega arith)) i a b c)
  onward (commit_undo i a b c) d (at_rest j l F q) = absurd (no-undo-active n P 1 j 0 j 0 F (λ z. absurd (omega arith)) i a b c)
  onward (commit_undo i a b c) d (in_step j l F q) = absurd (no-undo-active n P 1 j 1 j 0 F (λ z. absurd (omega arith)) i a b c)
  onward (commit_undo i a b c) d (failed j l F q) = absurd (no-undo-active n P 1 j 3 j 0 F (λ z. absurd (omega arith)) i a b c)
  onward (commit_undo i a b c) d (closed F q) = absurd (no-undo-active n P 2 n 0 n 0 F (λ z. absurd (omega arith)) i a b c)
  onward (commit_undo i a b c) d (torn j l F q) = absurd (no-undo-active n P 3 j 1 j 0 F (λ z. absurd (omega arith)) i a b c)
  onward (commit_undo i a b c) d (undoing j k x w kj jn nx ny F is q) = absurd (no-undo-active n P 3 j x k 0 F (λ z. absurd (omega arith)) i a b c)
  onward (commit_undo i a b c) d (in-undo j k x w kj jn nx ny F is q) =
      let t = the-undo n P 3 j x (suc k) 1 F i a b c in
      of-undo Commit i k t (undoing j k x w (omega arith) jn nx ny (one_down n P' 3 j x k kj jn (undo-moved n P P' (commit_undo i a b c) d 3 j x (suc k) 1 (ap (λ (z : ℕ). n + z) t) (omega arith) kj jn F)) is
      (append_assoc W (Commit (f + (n + suc k)) ∷ []) (back f n k) ∙ q))
  onward (abort-saga a b) d (not-begun F q) = absurd (omega (arith, F.saga))
  onward (abort-saga a b) d (at_rest j l F q) =
      let e : j < n = lt-or j n (λ z. z) (λ z. absurd (b (F.up n 1≤n z))) in
      undoing j j 0 (Begin f ∷ (forth f j ++ (Abort f ∷ back f n j))) (omega arith) e (λ z. absurd (omega arith)) (λ z. absurd (omega arith))
      (saga-moved n P P' (abort-saga a b) d refl 1≤n 1 j 0 j 0 F) (between j e)
      (longer f j (Abort f ∷ []) (back f n j) (W ++ (Abort f ∷ [])) (longer f j [] (Abort f ∷ []) W q))
  onward (abort-saga a b) d (in_step j l F q) = torn j l (saga-moved n P P' (abort-saga a b) d refl 1≤n 1 j 1 j 0 F) (longer f j (Begin (f + suc j) ∷ []) (Abort f ∷ []) W q)
  onward (abort-saga a b) d (failed j l F q) =
      undoing j j 3 (Begin f ∷ (forth f j ++ (Begin (f + suc j) ∷ Abort (f + suc j) ∷ Abort f ∷ back f n j))) (omega arith) l (λ z. absurd (omega arith)) (λ z. absurd (omega arith))
      (saga-moved n P P' (abort-saga a b) d refl 1≤n 1 j 3 j 0 F) (failing j l)
      (longer f j (Begin (f + suc j) ∷ Abort (f + suc j) ∷ Abort f ∷ []) (back f n j) (W ++ (Abort f ∷ [])) (longer f j (Begin (f + suc j) ∷ Abort (f + suc j) ∷ []) (Abort f ∷ []) W q))
  onward (abort-saga a b) d (closed F q) = absurd (omega (arith, F.saga))
  onward (abort-saga a b) d (torn j l F q) = absurd (omega (arith, F.saga))
  onward (abort-saga a b) d (undoing j k x w kj jn nx ny F is q) = absurd (omega (arith, F.saga))
  onward (abort-saga a b) d (in-undo j k x w kj jn nx ny F is q) = absurd (omega (arith, F.saga))
  onward (abort_step i a b c) d (not-begun F q) = absurd (none-active n P 0 0 0 0 0 F (λ z. absurd (omega arith)) i a b c)
  onward (abort_step i a b c) d (at_rest j l F q) = absurd (none-active n P 1 j 0 j 0 F (λ z. absurd (omega arith)) i a b c)
  onward (abort_step i a b c) d (in_step j l F q) =
      let t = the-active n P 1 j 1 j 0 F i a b c in
      of-step Abort i j t (failed j l (step-moved n P P' (abort_step i a b c) d 1 j 1 j 0 t l F) (longer f j (Begin (f + suc j) ∷ []) (Abort (f + suc j) ∷ []) W q))
  onward (abort_step i a b c) d (failed j l F q) = absurd (none-active n P 1 j 3 j 0 F (λ z. absurd (omega arith)) i a b c)
  onward (abort_step i a b c) d (closed F q) = absurd (none-active n P 2 n 0 n 0 F (λ z. absurd (omega arith)) i a b c)
  onward (abort_step i a b c) d (torn j l F q) =
      let t = the-active n P 3 j 1 j 0 F i a b c in
      of-step Abort i j t
      (undoing j j 3 (Begin f ∷ (forth f j ++ (Begin (f + suc j) ∷ Abort f ∷ Abort (f + suc j) ∷ back f n j))) (omega arith) l (λ z. absurd (omega arith)) (λ z. absurd (omega arith))
      (step-moved n P P' (abort_step i a b c) d 3 j 1 j 0 t l F) (within j l)
      (longer f j (Begin (f + suc j) ∷ Abort f ∷ Abort (f + suc j) ∷ []) (back f n j) (W ++ (Abort (f + suc j) ∷ []))
      (longer f j (Begin (f + suc j) ∷ Abort f ∷ []) (Abort (f + suc j) ∷ []) W q)))
  onward (abort_step i a b c) d (undoing j k x w kj jn nx ny F is q) = absurd (none-active n P 3 j x k 0 F nx i a b c)
  onward (abort_step i a b c) d (in-undo j k x w kj jn nx ny F is q) = absurd (none-active n P 3 j x (suc k) 1 F nx i a b c)
