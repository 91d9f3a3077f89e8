-- Nobody in progress is stuck (★13, first half).
use Prim.Native.Nat.{ℕ, ◌+◌}
use mathlib.Core.Path.{◌≡◌, refl, sym, ap, subst, subst⁻¹, ◌∙◌}
use mathlib.Core.Bool.{true, false, not}
use mathlib.Core.Logic.{◌↔◌}
use mathlib.Core.List.{List, [], ◌∷◌, ◌++◌}
use borrow.Author.Tests.{eqb-true}
use Rattle.laws.proofs.Bools.{clash, not-off, off-not, on_and}
use Rattle.terms.specs.declared.Event.{Event}
use Rattle.terms.specs.declared.Event.TheVariants.{Abort, AbortOne, Begin, Commit, CommitOne, Delegate, Operation as Invoke, Spawn}
use Rattle.terms.specs.declared.Verdict.TheVariants.{Accepted}
use Rattle.tables.specs.Accepted.{Well}
use Rattle.tables.specs.Sorts.{is_known, is_saga, is_undo, sort_of}
use Rattle.tables.specs.declared.Sort.{Sort}
use Rattle.tables.specs.declared.Sort.TheVariants.{Plain, Saga, Step, Undo, Unknown}
use Rattle.tables.specs.declared.Tables.{Tables}
use Rattle.rules.specs.Rules.{abort_barred, commit_barred}
use Rattle.rules.specs.States.{empty_state, is_active, is_committed, phase_of}
use Rattle.rules.proofs.PhaseLaws.{active-is}
use Rattle.judge.specs.Judge.{judged}
use Rattle.histories.specs.Histories.{history, reached, taken}
use Rattle.histories.proofs.AcceptedWhenHolds.{accepted-when}
use Rattle.histories.proofs.RunLaws.{taken-append}
use Rattle.histories.proofs.Splits.{cut}
use Rattle.histories.proofs.Steps.{commit-ending, keeps-by, nobodys}
use Rattle.closing.proofs.ClosingAccepted.{saga_commits, undo_commits}
use Rattle.closing.proofs.UndoTies.{Tidy, tidy-kept, tidy-start}
use Rattle.acta.specs.Completing.{NeverStuck, Takes}
use Rattle.acta.specs.Told.{IsTold}
use Rattle.acta.specs.Words.{began, begins, ended, in_progress}
use Rattle.acta.proofs.Phases.{plain_known}
use Rattle.acta.proofs.Places.{occurs-where}
use Rattle.acta.proofs.Runs.{accepted-there, is_history}
use Rattle.acta.proofs.ToldHolds.{is_told}

module _ (tables : Tables) where
  -- ---- an event behind a list of accepted ones

  one-taken : (e : Event) (h : List Event) → (judged tables (reached tables h) e).verdict ≡ Accepted → taken tables (reached tables h) (e ∷ []) ≡ e ∷ []
  unfolding taken
  one-taken e h v = rw v

  pub takes : (h : List Event) → history tables h ≡ h → (e : Event) → Takes tables h e ↔ ((judged tables (reached tables h) e).verdict ≡ Accepted)
  takes h all e = (
    λ t. (cut tables (h ++ (e ∷ [])) h [] empty_state e t).accepted,
    λ v. taken-append tables h (e ∷ []) empty_state ∙ ap (λ (l : List Event). l ++ taken tables (reached tables h) (e ∷ [])) all ∙ ap (λ (l : List Event). h ++ l) (one-taken e h v),
  )

  -- the same behind a history, by the events that it is the history of
  pub takes-behind : (es : List Event) (e : Event) → Takes tables (history tables es) e ↔ ((judged tables (reached tables es) e).verdict ≡ Accepted)
  takes-behind es e =
      let by = takes (history tables es) (is_history tables es).again e in
      let same = (is_history tables es).state in (
        λ t. subst (λ s. (judged tables s e).verdict ≡ Accepted) same (by.0 t),
        λ v. by.1 (subst⁻¹ (λ s. (judged tables s e).verdict ≡ Accepted) same v),
      )

-- whoever begins is in the tables
pub begun-known : (tables : Tables) (es : List Event) (t : ℕ) → began (history tables es) t ≡ true → is_known (sort_of tables t) ≡ true
begun-known tables es t b =
    let w = occurs-where (begins t) (history tables es) b in by-event w.1 w.4 w.0 (accepted-there tables es w.0 w.1 (w.2, w.3))
  where
    by-event : (e : Event) → begins t e ≡ true → (u : List Event) → (judged tables (reached tables u) e).verdict ≡ Accepted → is_known (sort_of tables t) ≡ true
    by-event (Begin x) i u v = subst (λ (y : ℕ). is_known (sort_of tables y) ≡ true) (eqb-true x t i) (((accepted-when tables u).begin x).0 v).known
    by-event (Commit x) i u v = clash i refl
    by-event (Abort x) i u v = clash i refl
    by-event (Invoke x o m) i u v = clash i refl
    by-event (Delegate x r q) i u v = clash i refl
    by-event (CommitOne x q) i u v = clash i refl
    by-event (AbortOne x q) i u v = clash i refl
    by-event (Spawn m x) i u v = subst (λ (y : ℕ). is_known (sort_of tables y) ≡ true) (eqb-true x t i) (plain_known (sort_of tables x) (((accepted-when tables u).spawn m x).0 v).child)

module _ (tables : Tables) (well : Well tables) (es : List Event) where
  abbrev h : List Event
  h = history tables es

  told : IsTold tables es h
  told = is_told tables es well

  tidy : Tidy tables (reached tables es)
  tidy = keeps-by tables (Tidy tables) (tidy-kept tables) es empty_state (tidy-start tables)

  active : (t : ℕ) → in_progress h t ≡ true → is_active (phase_of (reached tables es).transactions t) ≡ true
  active t i = told.active t ∙ i

  known : (t : ℕ) → in_progress h t ≡ true → is_known (sort_of tables t) ≡ true
  known t i = begun-known tables es t (on_and (began h t) (not (ended h t)) i).0

  by-undo : {A : Type 0} (x : Sort) → is_undo x ≡ true → ((f n j : ℕ) → x ≡ Undo f n j → A) → A
  by-undo (Saga f n) i go = clash i refl
  by-undo (Step f n j) i go = clash i refl
  by-undo (Undo f n j) i go = go f n j refl
  by-undo Plain i go = clash i refl
  by-undo Unknown i go = clash i refl

  no-saga-bar : (x : Sort) → is_saga x ≡ false → abort_barred (reached tables es).transactions x ≡ false
  no-saga-bar (Saga f n) i = clash refl i
  no-saga-bar (Step f n j) i = refl
  no-saga-bar (Undo f n j) i = refl
  no-saga-bar Plain i = refl
  no-saga-bar Unknown i = refl

  pub never_stuck : NeverStuck tables h
  never_stuck =
      record {
        undo = λ t u i. by-undo (sort_of tables t) u
            (λ f n j x. (takes-behind tables es (Commit t)).1 (undo_commits tables well (reached tables es) tidy t f n j x (active-is (phase_of (reached tables es).transactions t) (active t i))));
        others = λ t u s i. (takes-behind tables es (Abort t)).1
            (((accepted-when tables es).abort t).1 (record { known = known t i; no_undo = u; active = active t i; saga = no-saga-bar (sort_of tables t) s }));
        saga_commits = λ f n x i. (
          λ t.
              let v = (takes-behind tables es (Commit f)).0 t in
              let rule = (commit-ending tables (reached tables es) f (nobodys tables (reached tables es) f (rw x)) v).rule.0 in
              sym (told.committed_is (f + n)) ∙ off-not (is_committed (phase_of (reached tables es).transactions (f + n)))
              (subst (λ (y : Sort). commit_barred (reached tables es).transactions y ≡ false) x rule),
          λ c. (takes-behind tables es (Commit f)).1
              (saga_commits tables well (reached tables es) tidy f f n x (active-is (phase_of (reached tables es).transactions f) (active f i))
              (not-off (is_committed (phase_of (reached tables es).transactions (f + n))) (told.committed_is (f + n) ∙ c))),
        );
        saga_aborts = λ f n x i. (
          λ t.
              sym (told.committed_is (f + n))
              ∙ subst (λ (y : Sort). abort_barred (reached tables es).transactions y ≡ false) x (((accepted-when tables es).abort f).0 ((takes-behind tables es (Abort f)).0 t)).saga,
          λ c. (takes-behind tables es (Abort f)).1
              (((accepted-when tables es).abort f).1
              (record {
                known = known f i;
                no_undo = rw x;
                active = active f i;
                saga = subst⁻¹ (λ (y : Sort). abort_barred (reached tables es).transactions y ≡ false) x (told.committed_is (f + n) ∙ c);
              })),
        );
      }
