-- Runs of events; what every accepted event keeps holds after any events.
use mathlib.Core.Path.{◌≡◌, refl, ap}
use mathlib.Core.List.{List, [], ◌∷◌, ◌++◌}
use Rattle.terms.specs.declared.Refusal.{Refusal}
use Rattle.terms.specs.declared.Verdict.TheVariants.{Accepted, Refused}
use Rattle.tables.specs.declared.Tables.{Tables}
use Rattle.histories.specs.Histories.{next, run, taken}
use Rattle.judge.specs.Judge.{change_of, judged, state_after}
use Rattle.terms.specs.declared.Event.{Event}
use Rattle.rules.specs.declared.State.{State}
use Rattle.judge.proofs.EventLaws.{by-verdict, next-no, next-ok}

pub run_none : (tables : Tables) (s : State) → run tables s [] ≡ s
unfolding run
run_none tables s = refl

pub taken_none : (tables : Tables) (s : State) → taken tables s [] ≡ []
unfolding taken
taken_none tables s = refl

module _ (tables : Tables) (s : State) (e : Event) where
  pub run_ok : (judged tables s e).verdict ≡ Accepted → (es : List Event) → run tables s (e ∷ es) ≡ run tables (state_after (change_of tables s.transactions e) s) es
  unfolding run
  run_ok v es = ap (λ (x : State). run tables x es) (next-ok tables s e v)

  pub run-no : (r : Refusal) → (judged tables s e).verdict ≡ Refused r → (es : List Event) → run tables s (e ∷ es) ≡ run tables s es
  unfolding run
  run-no r v es = ap (λ (x : State). run tables x es) (next-no tables s e r v)

  pub taken-ok : (judged tables s e).verdict ≡ Accepted → (es : List Event)
      → taken tables s (e ∷ es) ≡ e ∷ taken tables (state_after (change_of tables s.transactions e) s) es
  unfolding taken
  taken-ok v es = rw (v) (ap (λ (x : State). e ∷ taken tables x es) (next-ok tables s e v))

  pub taken-no : (r : Refusal) → (judged tables s e).verdict ≡ Refused r → (es : List Event) → taken tables s (e ∷ es) ≡ taken tables s es
  unfolding taken
  taken-no r v es = rw (v) (ap (λ (x : State). taken tables x es) (next-no tables s e r v))

pub keeps : (tables : Tables) (I : State → Type 0)
    → ((s : State) (e : Event) → I s → (judged tables s e).verdict ≡ Accepted → I (state_after (change_of tables s.transactions e) s))
    → (es : List Event) (s : State) → I s → I (run tables s es)
unfolding run
keeps tables I h [] s i = i
keeps tables I h (e ∷ es) s i =
    by-verdict tables s e
    (λ v. rw (next-ok tables s e v) (keeps tables I h es (state_after (change_of tables s.transactions e) s) (h s e i v)))
    (λ r v. rw (next-no tables s e r v) (keeps tables I h es s i))

-- ---- one run after another

pub run-append : (tables : Tables) (es fs : List Event) (s : State) → run tables s (es ++ fs) ≡ run tables (run tables s es) fs
unfolding run
run-append tables [] fs s = refl
run-append tables (e ∷ es) fs s = run-append tables es fs (next tables s e)

pub taken-append : (tables : Tables) (es fs : List Event) (s : State)
    → taken tables s (es ++ fs) ≡ taken tables s es ++ taken tables (run tables s es) fs
unfolding run taken
taken-append tables [] fs s = refl
taken-append tables (e ∷ es) fs s =
    by-verdict tables s e
    (λ v. rw v (ap (λ (l : List Event). e ∷ l) (taken-append tables es fs (next tables s e))))
    (λ r v. rw v (taken-append tables es fs (next tables s e)))
