-- An active undo's commit is accepted, and S's once its last step is committed.
use Prim.Native.Nat.{ℕ}
use mathlib.Core.Path.{◌≡◌, refl, subst}
use mathlib.Core.Bool.{true, false}
use mathlib.Core.List.{List}
use Rattle.laws.proofs.Bools.{clash, on_and}
use Rattle.terms.specs.declared.Event.{Event}
use Rattle.terms.specs.declared.Event.TheVariants.{Commit}
use Rattle.terms.specs.declared.Verdict.TheVariants.{Accepted}
use Rattle.judge.specs.Judge.{judged}
use Rattle.tables.specs.Accepted.{Well}
use Rattle.tables.specs.Reading.{tables_by}
use Rattle.tables.specs.Sorts.{is_plain, is_saga, is_undo, sort_of}
use Rattle.tables.specs.declared.Sort.{Sort}
use Rattle.tables.specs.declared.Sort.TheVariants.{Saga, Step, Undo, Plain, Unknown}
use Rattle.tables.specs.declared.Tables.{Tables}
use Rattle.tables.proofs.AcceptedWellHolds.{accepted-well}
use Rattle.rules.specs.Rules.{active_undo, commit_barred}
use Rattle.rules.specs.States.{empty_state, is_active, phase_of}
use Rattle.rules.proofs.PhaseLaws.{active-is}
use Rattle.histories.specs.Histories.{reached}
use Rattle.histories.proofs.Steps.{commit-ending, keeps-by, nobodys}
use Rattle.closing.specs.Committing.{AlwaysCommits, Commits}
use Rattle.closing.proofs.ClosingAccepted.{saga_commits, undo_commits}
use Rattle.closing.proofs.UndoTies.{Tidy, saga-not-dirty, saga-off-rings, tidy-kept, tidy-start}

-- the numbers of an undo, and those of an S
by-undo : {A : Type 0} (x : Sort) → is_undo x ≡ true → ((f n j : ℕ) → x ≡ Undo f n j → A) → A
by-undo (Saga f n) h go = clash h refl
by-undo (Step f n i) h go = clash h refl
by-undo (Undo f n i) h go = go f n i refl
by-undo Plain h go = clash h refl
by-undo Unknown h go = clash h refl

by-saga : {A : Type 0} (x : Sort) → is_saga x ≡ true → ((f n : ℕ) → x ≡ Saga f n → A) → A
by-saga (Saga f n) h go = go f n refl
by-saga (Step f n i) h go = clash h refl
by-saga (Undo f n i) h go = clash h refl
by-saga Plain h go = clash h refl
by-saga Unknown h go = clash h refl

commits : (tables : Tables) → Well tables → (es : List Event) → Commits tables es
commits tables well es =
    record {
      undo = accepted;
      saga = λ t h a done.
          by-saga (sort_of tables t) h
          (λ f n e. saga_commits tables well (reached tables es) tidy t f n e (active-is (phase_of (reached tables es).transactions t) a) (subst (λ (x : Sort). commit_barred (reached tables es).transactions x ≡ false) e done));
      saga_free = λ t h. (saga-not-dirty tables (reached tables es) tidy t h, saga-off-rings tables (reached tables es) tidy t h);
      undo_free = λ u a. let rule = (commit-ending tables (reached tables es) u (nobodys tables (reached tables es) u (not_plain u a)) (accepted u a)).rule in (rule.2, rule.3);
    }
  where
    tidy : Tidy tables (reached tables es)
    tidy = keeps-by tables (Tidy tables) (tidy-kept tables) es empty_state (tidy-start tables)

    not_plain : (u : ℕ) → active_undo tables (reached tables es).transactions u ≡ true → is_plain (sort_of tables u) ≡ false
    not_plain u a = by-undo (sort_of tables u) (on_and (is_undo (sort_of tables u)) (is_active (phase_of (reached tables es).transactions u)) a).0 (λ f n j e. rw e)

    accepted : (u : ℕ) → active_undo tables (reached tables es).transactions u ≡ true → (judged tables (reached tables es) (Commit u)).verdict ≡ Accepted
    accepted u a =
        let x = on_and (is_undo (sort_of tables u)) (is_active (phase_of (reached tables es).transactions u)) a in
        by-undo (sort_of tables u) x.0 (λ f n j e. undo_commits tables well (reached tables es) tidy u f n j e (active-is (phase_of (reached tables es).transactions u) x.1))

pub always-commits : AlwaysCommits
always-commits circles ed s at e es = commits (tables_by circles ed s).tables (accepted-well circles ed s at e) es
