-- A history judged again, its beginnings and its events (★1).
use mathlib.Core.Path.{◌≡◌, refl, sym, ap, ◌∙◌}
use mathlib.Core.List.{List, [], ◌∷◌, ◌++◌}
use Rattle.terms.specs.declared.Event.{Event}
use Rattle.terms.specs.declared.Verdict.TheVariants.{Accepted}
use Rattle.tables.specs.declared.Tables.{Tables}
use Rattle.rules.specs.States.{empty_state}
use Rattle.rules.specs.declared.State.{State}
use Rattle.judge.specs.Judge.{change_of, judged, state_after}
use Rattle.judge.proofs.EventLaws.{by-verdict, next-ok}
use Rattle.histories.specs.Histories.{history, next, reached, run, taken}
use Rattle.histories.proofs.RunLaws.{run-no, run_ok, taken-no, taken_none, taken-ok}
use Rattle.histories.proofs.Splits.{cut}
use Rattle.acta.specs.Told.{IsHistory}
use Rattle.acta.specs.Words.{Happens}

module _ (tables : Tables) where
  abbrev after : State → Event → State
  after s e = state_after (change_of tables s.transactions e) s

  again : (es : List Event) (s : State) → taken tables s (taken tables s es) ≡ taken tables s es
  unfolding taken
  again [] s = refl
  again (e ∷ es) s =
      by-verdict tables s e
      (λ v. rw (taken-ok tables s e v es)
      (taken-ok tables s e v (taken tables (after s e) es) ∙ ap (λ (l : List Event). e ∷ l) (again es (after s e))))
      (λ r v. rw (taken-no tables s e r v es) (again es s))

  same_state : (es : List Event) (s : State) → run tables s (taken tables s es) ≡ run tables s es
  unfolding run taken
  same_state [] s = refl
  same_state (e ∷ es) s =
      by-verdict tables s e
      (λ v. rw (taken-ok tables s e v es, run_ok tables s e v es)
      (run_ok tables s e v (taken tables (after s e) es) ∙ same_state es (after s e)))
      (λ r v. rw (taken-no tables s e r v es, run-no tables s e r v es) (same_state es s))

  front : (u v es : List Event) (s : State) → taken tables s es ≡ u ++ v → taken tables s u ≡ u
  unfolding run
  front [] v es s q = taken_none tables s
  front (e ∷ u) v es s q =
      let c = cut tables es [] (u ++ v) s e q in
      taken-ok tables s e c.accepted u
      ∙ ap (λ (x : State). e ∷ taken tables x u) (sym (next-ok tables s e c.accepted))
      ∙ ap (λ (l : List Event). e ∷ l) (front u v c.rest (next tables s e) c.later)

  module _ (es : List Event) where
    -- what stands before an event is a history
    pub before-it : (u : List Event) (e : Event) → Happens (history tables es) u e → history tables u ≡ u
    before-it u e at = front u (e ∷ at.0) es empty_state at.1

    pub accepted-there : (u : List Event) (e : Event) → Happens (history tables es) u e → (judged tables (reached tables u) e).verdict ≡ Accepted
    accepted-there u e at = (cut tables es u at.0 empty_state e at.1).accepted

    pub is_history : IsHistory tables es
    is_history =
        record {
          again = again es empty_state;
          state = same_state es empty_state;
          beginnings = λ u v q. front u v es empty_state q;
          each = accepted-there;
        }
