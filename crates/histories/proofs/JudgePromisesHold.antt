-- The promises of judging, proved.
use Prim.Native.Nat.{ℕ}
use mathlib.Core.Path.{◌≡◌, refl, sym, ap, subst, subst⁻¹, ◌∙◌}
use mathlib.Core.List.{List}
use mathlib.Core.Bool.{true}
use borrow.Author.Tests.{lt-ltb}
use Rattle.ties.specs.Operations.{all_held_by, ended_as, op_at, size}
use Rattle.ties.specs.declared.Fate.{Fate}
use Rattle.ties.specs.declared.Fate.TheVariants.{Aborted as FateAborted, Committed as FateCommitted}
use Rattle.ties.proofs.OpsLaws.{rewritten-at}
use Rattle.tables.specs.declared.Tables.{Tables}
use Rattle.histories.specs.Histories.{reached}
use Rattle.judge.specs.Judge.{commit_under, state_after}
use Rattle.histories.specs.Promises.{AnyRun, EndsWith, JudgePromises}
use Rattle.rules.specs.States.{is_active, phase_of}
use Rattle.judge.specs.declared.Change.TheVariants.{Ends}
use Rattle.terms.specs.declared.Event.{Event}
use Rattle.terms.specs.declared.Event.TheVariants.{Abort, Commit}
use Rattle.rules.specs.States.{Parent}
use Rattle.rules.specs.declared.Phase.{Phase}
use Rattle.rules.specs.declared.Phase.TheVariants.{Aborted, Committed}
use Rattle.rules.specs.declared.State.{State}
use Rattle.histories.proofs.CircleIdle.{never_begins}
use Rattle.histories.proofs.Invariants.{lasting}
use Rattle.rules.proofs.PhaseLaws.{code, of-active}
use Rattle.histories.proofs.Accounts.{count-told, operations-told, phases-told, responsible-told}
use Rattle.judge.proofs.EventLaws.{next-ok}
use Rattle.histories.proofs.Singles.{ended_alone}
use Rattle.histories.proofs.TiesMean.{ties-mean}
use Rattle.histories.proofs.Orders.{order-means}
use Rattle.histories.proofs.UndoRings.{freed, rings_given, rings_handed, rings_made}
use Rattle.histories.proofs.FamiliesHold.{families}
use Rattle.histories.proofs.Kin.{clerk-is, kin}
use Rattle.ties.proofs.OrderLaws.{made-order}

ends_with : (s : State) (t : ℕ) (phase : Phase) (fate : Fate) → EndsWith s (state_after (Ends t phase fate) s) t fate
unfolding state_after
ends_with s t phase fate q l = rewritten-at (all_held_by t) (ended_as fate (size s.ops)) (λ k. refl) s.ops q ∙ rw (lt-ltb q (size s.ops) l)

any_run : (tables : Tables) (es : List Event) → AnyRun tables es
any_run tables es =
    record {
      responsible = responsible-told tables es;
      operations = operations-told tables es;
      count = count-told tables es;
      phases = phases-told tables es;
      ties = ties-mean tables es;
      order = order-means tables es;
      undo_off_rings = (freed tables es).free;
      rings_made = rings_made tables es;
      rings_given = rings_given tables es;
      rings_handed = rings_handed tables es;
      order_made = λ x l. made-order (reached tables es).ops x (lasting tables es).room l;
      active = λ q l a. is-active (phase_of (reached tables es).transactions (op_at (reached tables es).ops q).responsible) ((lasting tables es).active q a);
      commits = λ t own v. subst⁻¹ (λ (x : State). EndsWith (reached tables es) x t FateCommitted)
          (next-ok tables (reached tables es) (Commit t) v ∙ ap (λ (p : Parent). state_after (commit_under t p) (reached tables es)) (clerk-is tables (reached tables es) (kin tables es) t ∙ own))
          (ends_with (reached tables es) t Committed FateCommitted);
      aborts = λ t v. subst (λ (x : State). EndsWith (reached tables es) x t FateAborted) (sym (next-ok tables (reached tables es) (Abort t) v))
          (ends_with (reached tables es) t Aborted FateAborted);
    }
  where
    is-active : (p : Phase) → code p ≡ 1 → is_active p ≡ true
    is-active p e = rw (of-active p e)

pub judge-promises : JudgePromises
judge-promises = record { ended_alone = ended_alone; any_run = any_run; families = families; never_begins = λ tables es t w. never_begins tables es t w }
