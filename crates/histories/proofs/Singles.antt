-- One operation ended alone: when it is accepted, and that nothing else changes.
use Prim.Native.Nat.{ℕ}
use mathlib.Core.Path.{◌≡◌, refl, sym, subst, ◌∙◌}
use mathlib.Core.Bool.{Bool, false, not, ◌||◌, and-false}
use lib.Dec.{ltb, eqb}
use borrow.Author.Tests.{eq-eqb, lt-ltb, ne_eqb}
use Rattle.laws.proofs.Bools.{bool_cases}
use Rattle.laws.proofs.Decisions.{same_or}
use Rattle.terms.specs.declared.Verdict.TheVariants.{Accepted}
use Rattle.ties.specs.Operations.{ended_as, is_active as is_active_op, only_active, op_at, size}
use Rattle.ties.specs.Ties.{dirty_at}
use Rattle.ties.specs.declared.Fate.{Fate}
use Rattle.ties.specs.declared.Fate.TheVariants.{Aborted as FateAborted, Committed as FateCommitted}
use Rattle.ties.proofs.OpsLaws.{count-rewritten, rewritten-at}
use Rattle.ties.proofs.DirtyLaws.{CleanBefore, clean-dirty, dirty-clean, read_on, read-parts}
use Rattle.ties.proofs.OrderLaws.{active-stands}
use Rattle.tables.specs.Sorts.{is_plain, sort_of}
use Rattle.tables.specs.declared.Tables.{Tables}
use Rattle.judge.specs.Judge.{clerk_of, judged, state_after, unknown}
use Rattle.terms.specs.Events.{is_write}
use Rattle.histories.specs.Promises.{EndedAlone, MayCommitOne, MayEndOne, OnlyEnds}
use Rattle.rules.specs.States.{is_active, is_child, phase_of}
use Rattle.judge.specs.declared.Change.TheVariants.{EndsOne}
use Rattle.terms.specs.declared.Event.TheVariants.{AbortOne, CommitOne}
use Rattle.rules.specs.declared.State.{State}
use Rattle.judge.proofs.ClerkLaws.{plain_known}
use Rattle.judge.proofs.EventLaws.{lines-off, next-ok, off-lines}
use Rattle.histories.proofs.Steps.{commit-one-may, single-may}

module _ (tables : Tables) (s : State) (t q : ℕ) where
  module _ (may : MayEndOne tables s t q) where
    known : (unknown tables t || not (ltb q (size s.ops))) ≡ false
    known = rw (plain_known (sort_of tables t) may.plain, lt-ltb q (size s.ops) may.accepted)

    not_plain : (never : Bool) → never ≡ false → (not (is_plain (sort_of tables t)) || never) ≡ false
    not_plain never e = rw (may.plain, e)

    not-active : not (is_active (phase_of s.transactions t)) ≡ false
    not-active = rw may.active

    not-mine : not (eqb (op_at s.ops q).responsible t) ≡ false
    not-mine = rw (eq-eqb (op_at s.ops q).responsible t may.mine)

    not-running : not (is_active_op (op_at s.ops q).fate) ≡ false
    not-running = rw may.running

    -- the dirty-read rule for q alone, as a line and in words
    clean-one : dirty_at s.ops t q ≡ false → is_write (op_at s.ops q).mark ≡ false → CleanBefore s.ops t q
    clean-one d r = dirty-clean s.ops t q d (read_on t (op_at s.ops q) may.mine r (active-stands (op_at s.ops q).fate may.running))

    one-clean : (is_write (op_at s.ops q).mark ≡ false → CleanBefore s.ops t q) → dirty_at s.ops t q ≡ false
    one-clean clean = clean-dirty s.ops t q may.accepted (λ r. clean (read-parts t (op_at s.ops q) r).1.0)

  commit-may : (judged tables s (CommitOne t q)).verdict ≡ Accepted → MayCommitOne tables s t q
  commit-may v =
      let may = commit-one-may tables s t q (lines-off tables s (CommitOne t q) v) in
      record { may_end = may.0; no_child = may.3; clean = clean-one may.0 may.1; off_rings = may.2 }

  may-commit : MayCommitOne tables s t q → (judged tables s (CommitOne t q)).verdict ≡ Accepted
  may-commit may =
      let end = may.may_end in
      off-lines tables s (CommitOne t q)
      (known end, (not_plain end (is_child (clerk_of tables s.transactions t)) may.no_child, (not-active end, (not-mine end, (not-running end, (one-clean end may.clean, (may.off_rings, tt)))))))

  abort-may : (judged tables s (AbortOne t q)).verdict ≡ Accepted → MayEndOne tables s t q
  abort-may v = single-may tables s t q false (lines-off tables s (AbortOne t q) v)

  may-abort : MayEndOne tables s t q → (judged tables s (AbortOne t q)).verdict ≡ Accepted
  may-abort end = off-lines tables s (AbortOne t q) (known end, (not_plain end false refl, (not-active end, (not-mine end, (not-running end, tt)))))

  only-ends : (fate : Fate) → MayEndOne tables s t q → OnlyEnds s (state_after (EndsOne q fate) s) q fate
  unfolding state_after
  only-ends fate may =
      record {
        transactions = refl;
        count = count-rewritten (only_active q) (ended_as fate (size s.ops)) (λ k. refl) s.ops;
        operations = λ p.
            rewritten-at (only_active q) (ended_as fate (size s.ops)) (λ k. refl) s.ops p
            ∙ same_or p q
            (λ e. rw (eq-eqb p q e, e, lt-ltb q (size s.ops) may.accepted, may.running))
            (λ e. rw (ne_eqb p q e, and-false (is_active_op (op_at s.ops p).fate)) (bool_cases (ltb p (size s.ops)) (λ b. rw b) (λ b. rw b)));
      }

pub ended_alone : (tables : Tables) (s : State) (t q : ℕ) → EndedAlone tables s t q
ended_alone tables s t q =
    record {
      commit_accepted = (commit-may tables s t q, may-commit tables s t q);
      commit_ends = λ v.
          subst (λ (x : State). OnlyEnds s x q FateCommitted) (sym (next-ok tables s (CommitOne t q) v))
          (only-ends tables s t q FateCommitted (commit-may tables s t q v).may_end);
      abort_accepted = (abort-may tables s t q, may-abort tables s t q);
      abort_ends = λ v.
          subst (λ (x : State). OnlyEnds s x q FateAborted) (sym (next-ok tables s (AbortOne t q) v))
          (only-ends tables s t q FateAborted (abort-may tables s t q v));
    }
