-- After any events: the saga's own transactions are in order, and its commits are the beginning of one of the two runs.
use Prim.Native.Nat.{ℕ, ◌+◌, ◌≤◌, ◌<◌}
use mathlib.Core.Path.{◌≡◌, sym, ap, subst, ◌∙◌}
use mathlib.Core.List.{List, [], ◌∷◌, ◌++◌, append_assoc, append-nil}
use Rattle.terms.specs.declared.Verdict.TheVariants.{Accepted}
use Rattle.tables.specs.Accepted.{Well}
use Rattle.tables.specs.Sorts.{first_of, steps_of}
use Rattle.tables.specs.declared.Tables.{Tables}
use Rattle.tables.proofs.SagaLaws.{well-steps}
use Rattle.histories.specs.Histories.{history, reached, run, taken}
use Rattle.judge.specs.Judge.{change_of, judged, state_after}
use Rattle.rules.specs.States.{empty_state, own}
use Rattle.terms.specs.declared.Event.{Event}
use Rattle.rules.specs.declared.State.{State}
use Rattle.histories.proofs.Invariants.{lasting-kept, lasting-start}
use Rattle.histories.proofs.Lasts.{Lasting}
use Rattle.rules.proofs.PhaseLaws.{code}
use Rattle.histories.proofs.Steps.{step}
use Rattle.judge.proofs.EventLaws.{by-verdict}
use Rattle.histories.proofs.RunLaws.{keeps, run-no, run_ok, taken-no, taken-ok}
use Rattle.rules.proofs.StateLaws.{all-idle}
use Rattle.closing.specs.Demand.{commits_of}
use Rattle.closing.proofs.Acts.{Acts, acts, inv-same, move-commits, moved, quiet, shape_same}
use Rattle.closing.proofs.Moves.{Inv, keep, start}
use Rattle.closing.proofs.Shapes.{Begun, Shape, begun, commits_in, first-shape, onward}

-- what events keep of a state, for the saga of n steps whose first number is f
pub record Fair (f n : ℕ) (s : State) : Type 0 where
  pub lasts : Lasting s
  pub inv : Inv n (own s.transactions f)

module _ (tables : Tables) (well : Well tables) (i : ℕ) (listed : i < tables.sagas) where
  abbrev f : ℕ
  f = first_of tables i

  abbrev n : ℕ
  n = steps_of tables i

  has-step : 1 ≤ n
  has-step = (well-steps tables well i listed).0

  abbrev after : State → Event → State
  after s e = state_after (change_of tables s.transactions e) s

  pub fair-kept : (s : State) (e : Event) → Fair f n s → (judged tables s e).verdict ≡ Accepted → Fair f n (after s e)
  fair-kept s e h v = record { lasts = lasting-kept tables s (change_of tables s.transactions e) h.lasts (step tables s e v); inv = go (acts tables well i listed s h.lasts.full e v) }
    where
      go : Acts tables f n s e → Inv n (own (after s e).transactions f)
      go (moved m d q) = keep n (own s.transactions f) (own (after s e).transactions f) m d has-step h.inv
      go (quiet same c) = inv-same f n (own s.transactions f) (own (after s e).transactions f) same has-step h.inv

  pub fair-start : Fair f n empty_state
  fair-start = record { lasts = lasting-start; inv = start n (own empty_state.transactions f) (λ k. ap code (all-idle (f + k))) }

  pub fair : (es : List Event) → Fair f n (reached tables es)
  fair es = keeps tables (Fair f n) fair-kept es empty_state fair-start

  -- one more event
  shape-next : (s : State) (e : Event) (es : List Event) (H : List ℕ) → Fair f n s → (judged tables s e).verdict ≡ Accepted
      → Shape f n (own s.transactions f) H
      → (H' : List ℕ) × Shape f n (own (after s e).transactions f) H' × (H ++ commits_of f n (e ∷ es) ≡ H' ++ commits_of f n es)
  shape-next s e es H h v sh = go (acts tables well i listed s h.lasts.full e v)
    where
      go : Acts tables f n s e → (H' : List ℕ) × Shape f n (own (after s e).transactions f) H' × (H ++ commits_of f n (e ∷ es) ≡ H' ++ commits_of f n es)
      go (moved m d q) = (
        H ++ commits_in f m,
        onward f n (own s.transactions f) (own (after s e).transactions f) m d has-step h.inv H sh,
        ap (λ (x : Event). H ++ commits_of f n (x ∷ es)) q
            ∙ ap (λ (l : List ℕ). H ++ l) (move-commits f m es has-step)
            ∙ sym (append_assoc H (commits_in f m) (commits_of f n es)),
      )
      go (quiet same c) =
          (H, shape_same f n (own s.transactions f) (own (after s e).transactions f) same has-step H sh, ap (λ (l : List ℕ). H ++ l) (c es))

  shape-run : (es : List Event) (s : State) (H : List ℕ) → Fair f n s → Shape f n (own s.transactions f) H
      → Shape f n (own (run tables s es).transactions f) (H ++ commits_of f n (taken tables s es))
  unfolding run taken commits_of
  shape-run [] s H h sh = rw append-nil sh
  shape-run (e ∷ es) s H h sh =
      by-verdict tables s e
      (λ v.
      let r = shape-next s e (taken tables (after s e) es) H h v sh in
      subst (λ (x : State). Shape f n (own x.transactions f) (H ++ commits_of f n (taken tables s (e ∷ es)))) (sym (run_ok tables s e v es))
      (subst (λ (l : List Event). Shape f n (own (run tables (after s e) es).transactions f) (H ++ commits_of f n l)) (sym (taken-ok tables s e v es))
      (subst (λ (l : List ℕ). Shape f n (own (run tables (after s e) es).transactions f) l) (sym r.2)
      (shape-run es (after s e) r.0 (fair-kept s e h v) r.1))))
      (λ k v.
      subst (λ (x : State). Shape f n (own x.transactions f) (H ++ commits_of f n (taken tables s (e ∷ es)))) (sym (run-no tables s e k v es))
      (subst (λ (l : List Event). Shape f n (own (run tables s es).transactions f) (H ++ commits_of f n l)) (sym (taken-no tables s e k v es))
      (shape-run es s H h sh)))

  pub shape_of : (es : List Event) → Shape f n (own (reached tables es).transactions f) (commits_of f n (history tables es))
  shape_of es = shape-run es empty_state [] fair-start (first-shape f n (own empty_state.transactions f) (λ k. ap code (all-idle (f + k))))

  pub in_order : (es : List Event) → Begun f n (commits_of f n (history tables es))
  in_order es = begun f n (own (reached tables es).transactions f) (commits_of f n (history tables es)) (shape_of es)
