-- A settled saga has run one of the two runs to its end, and stays settled.
use Prim.Native.Nat.{ℕ, zero, suc, ◌+◌, ◌≤◌, ◌<◌}
use native.Mathlib.Omega.{arith}
use mathlib.Core.Path.{◌≡◌, sym, ap, ◌∙◌}
use mathlib.Core.Bool.{true, not, ◌&&◌}
use mathlib.Core.Logic.{◌≢◌, ◌⊎◌, inl, inr, ⊎_elim}
use mathlib.Core.List.{List, [], append-nil}
use lib.Dec.{eqb, ltb}
use borrow.Author.Tests.{eqb-true, ltb-true}
use Rattle.laws.specs.Index.{highest}
use Rattle.laws.proofs.Bools.{and-rest, off-not, on_and, or_cases}
use Rattle.laws.proofs.HighestLaws.{highest-none}
use Rattle.terms.specs.declared.Event.{Event}
use Rattle.terms.specs.declared.Verdict.TheVariants.{Accepted}
use Rattle.tables.specs.Accepted.{Well}
use Rattle.tables.specs.Sorts.{first_of, steps_of}
use Rattle.tables.specs.declared.Tables.{Tables}
use Rattle.rules.specs.Rules.{undone}
use Rattle.rules.specs.States.{is_aborted, is_active, is_committed, own}
use Rattle.rules.specs.declared.Phase.{Phase}
use Rattle.rules.specs.declared.State.{State}
use Rattle.rules.proofs.PhaseLaws.{aborted_is, active-not, code, committed_is, of-aborted, of-committed}
use Rattle.judge.specs.Judge.{change_of, judged, state_after}
use Rattle.histories.specs.Histories.{history, reached, run}
use Rattle.histories.proofs.RunLaws.{keeps}
use Rattle.closing.specs.Closing.{active_step, own_of}
use Rattle.closing.specs.Demand.{back_run, commits_of, downs, ups, whole_run}
use Rattle.closing.specs.Settling.{SettledRun, SettledRuns}
use Rattle.closing.proofs.Acts.{Acts, acts, moved, quiet}
use Rattle.closing.proofs.Demand3Holds.{has-step, settled_is, settled_same}
use Rattle.closing.proofs.Moves.{At, Inv, Move, abort-saga, abort_step, begin-saga, begin-step, begin_undo, commit-saga, commit-step, commit_undo, rises}
use Rattle.closing.proofs.Order.{Fair, fair, fair-kept, shape_of}
use Rattle.closing.proofs.OutstandingLaws.{settled_of}
use Rattle.closing.proofs.Shapes.{Shape, back, closed, forward}

-- no step is active, and every committed step is undone
record AllBack (n : ℕ) (P : ℕ → Phase) : Type 0 where
  idle : (i : ℕ) → 1 ≤ i → i ≤ n → code (P i) ≢ 1
  gone : (i : ℕ) → 1 ≤ i → i ≤ n → At P i 2 → (i < n) × At P (n + i) 2

module _ (n : ℕ) (P : ℕ → Phase) where
  all_back : (eqb (active_step n P) 0 && eqb (highest n (λ i. is_committed (P i) && not (undone n P i))) 0) ≡ true → AllBack n P
  unfolding active_step
  all_back h =
      let t = on_and (eqb (active_step n P) 0) (eqb (highest n (λ i. is_committed (P i) && not (undone n P i))) 0) h in
      record {
        idle = λ i l r. active-not (P i) (highest-none n (λ k. is_active (P k)) (eqb-true (active_step n P) 0 t.0) i l r);
        gone = λ i l r c.
            let none = highest-none n (λ k. is_committed (P k) && not (undone n P k)) (eqb-true (highest n (λ k. is_committed (P k) && not (undone n P k))) 0 t.1) i l r in
            let done = off-not (undone n P i) (and-rest (is_committed (P i)) (not (undone n P i)) none (rw (of-committed (P i) c))) in
            let both = on_and (ltb i n) (is_committed (P (n + i))) done in
            (ltb-true i n both.0, committed_is (P (n + i)) both.1);
      }

  -- S is committed, or it is aborted and all is put back
  by-saga : {A : Type 0} → settled_of n P ≡ true → (At P 0 2 → A) → (At P 0 3 → AllBack n P → A) → A
  by-saga z done put =
      ⊎_elim
      (λ c. done (committed_is (P 0) c))
      (λ c.
      let rest = eqb (active_step n P) 0 && eqb (highest n (λ i. is_committed (P i) && not (undone n P i))) 0 in
      let both = on_and (is_aborted (P 0)) rest c in
      put (aborted_is (P 0) both.0) (all_back both.1))
      (or_cases (is_committed (P 0)) (is_aborted (P 0) && (eqb (active_step n P) 0 && eqb (highest n (λ i. is_committed (P i) && not (undone n P i))) 0)) z)

  -- then nothing of the saga moves
  no_move : Inv n P → At P 0 3 → AllBack n P → Move n P → ⊥
  no_move inv a b (begin-saga x) = omega arith
  no_move inv a b (begin-step i l r x y w) = omega arith
  no_move inv a b (begin_undo i l r x y w u g) = omega (arith, (b.gone i l (omega arith) w).1)
  no_move inv a b (commit-saga x y) = omega arith
  no_move inv a b (commit-step i l r x y) = omega arith
  no_move inv a b (commit_undo i l r x) = omega (arith, (b.gone i l (omega arith) (inv.order i l r (omega arith)).0).1)
  no_move inv a b (abort-saga x y) = omega arith
  no_move inv a b (abort_step i l r x) = b.idle i l r x

  -- what it has run
  pub ran-whole : (f : ℕ) (H : List ℕ) → 1 ≤ n → Inv n P → Shape f n P H → settled_of n P ≡ true
      → (At P 0 2 × (H ≡ whole_run f n)) ⊎ (At P 0 3 × ((j : ℕ) × (j < n) × (H ≡ back_run f n j)))
  unfolding whole_run back_run ups downs
  ran-whole f H one inv (closed e z) s = inl (z, e)
  ran-whole f H one inv (forward zero l e st u c) s = by-saga s (λ d. absurd (c d)) (λ a b. inr (a, (0, omega (arith, a), e ∙ sym (append-nil []))))
  ran-whole f H one inv (forward (suc j) l e st u c) s =
      by-saga s (λ d. absurd (c d))
      (λ a b.
      let g = b.gone (suc j) (omega arith) l (st.done (suc j) (omega arith) (omega arith)) in
      absurd (omega (arith, u.only (suc j) (omega arith) g.0 g.1)))
  ran-whole f H one inv (back j zero l b e st u z) s = inr (z, (j, b, sym (append-nil H) ∙ e))
  ran-whole f H one inv (back j (suc k) l b e st u z) s =
      by-saga s (λ d. absurd (omega arith))
      (λ a w.
      let g = w.gone (suc k) (omega arith) (omega arith) (st.done (suc k) (omega arith) l) in
      absurd (omega (arith, u.only (suc k) (omega arith) g.0 g.1)))

module _ (tables : Tables) (well : Well tables) (i : ℕ) (low : i < tables.sagas) where
  abbrev f : ℕ
  f = first_of tables i

  abbrev n : ℕ
  n = steps_of tables i

  record Rests (s : State) : Type 0 where
    fair : Fair f n s
    rests : settled_of n (own s.transactions f) ≡ true

  rests-kept : (s : State) (e : Event) → Rests s → (judged tables s e).verdict ≡ Accepted → Rests (state_after (change_of tables s.transactions e) s)
  rests-kept s e h v = record { fair = fair-kept tables well i low s e h.fair v; rests = go (acts tables well i low s h.fair.lasts.full e v) }
    where
      P : ℕ → Phase
      P = own s.transactions f

      P' : ℕ → Phase
      P' = own (state_after (change_of tables s.transactions e) s).transactions f

      go : Acts tables f n s e → settled_of n P' ≡ true
      go (quiet same c) = settled_same f n P P' same (has-step tables well i low) ∙ h.rests
      go (moved m d q) =
          by-saga n P h.rests
          (λ c.
          let there : code (P' 0) ≡ 2 =
          d.other 0 (λ z. absurd (omega (arith, (rises m).0, ap (λ (k : ℕ). code (P k)) z))) ∙ c in
          rw (of-committed (P' 0) there))
          (λ a b. absurd (no_move n P h.fair.inv a b m))

  settled-run : SettledRun tables i
  settled-run =
      record {
        ran = λ es z.
            ⊎_elim
            (λ w. inl (of-committed (own_of tables (reached tables es) i 0) w.0, w.1))
            (λ w. inr (of-aborted (own_of tables (reached tables es) i 0) w.0, w.1))
            (ran-whole n (own (reached tables es).transactions f) f (commits_of f n (history tables es)) (has-step tables well i low) (fair tables well i low es).inv (shape_of tables well i low es)
            (sym (settled_is tables well i low (reached tables es)) ∙ z));
        stays = λ es fs z.
            settled_is tables well i low (run tables (reached tables es) fs)
            ∙ (keeps tables Rests rests-kept fs (reached tables es) (record { fair = fair tables well i low es; rests = sym (settled_is tables well i low (reached tables es)) ∙ z })).rests;
      }

pub settled-runs : SettledRuns
settled-runs tables well i low = settled-run tables well i low
