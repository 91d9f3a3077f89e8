use native.Mathlib.Omega.{arith}
use Prim.Native.Nat.{ℕ, ◌+◌}
use mathlib.Core.Path.{◌≡◌, ap, ap₂, ◌∙◌}
use mathlib.Core.Bool.{Bool}
use Rattle.laws.specs.Index.{count_below, one}
use Rattle.rules.specs.States.{is_committed}
use Rattle.tables.specs.Counts.{saga_count}
use Rattle.totals.specs.Figures.{backed_out_by, begun_by, counts_of, is_open, open_by, was_backed_out, was_begun, was_committed}
use Rattle.totals.proofs.CountLaws.{count-le, count-more, count_none, from-one}
use Rattle.totals.proofs.counts_of.Goals as goal

-- each count grows by what saga i adds to it
more-begun : (c : goal.After-from-more_unsettled)
    → c.loop-i.begun + c.from-more_begun.result ≡ count_below (c.loop-i.i + 1) (was_begun c.args.tables c.args.state)
more-begun c =
    count-more c.loop-i.i (was_begun c.args.tables c.args.state) _ _ c.loop-i.invariant.1
    (c.from-more_begun.ensures ∙ from-one _ ∙ ap one (c.was_begun.ensures ∙ ap begun_by c.saga_phase-phase.ensures))

more-committed : (c : goal.After-from-more_unsettled)
    → c.loop-i.committed + c.from-more_committed.result ≡ count_below (c.loop-i.i + 1) (was_committed c.args.tables c.args.state)
more-committed c =
    count-more c.loop-i.i (was_committed c.args.tables c.args.state) _ _ c.loop-i.invariant.2
    (c.from-more_committed.ensures ∙ from-one _ ∙ ap one (c.is_committed.ensures ∙ ap is_committed c.saga_phase-phase.ensures))

more-backed : (c : goal.After-from-more_unsettled)
    → c.loop-i.backed + c.from-more_backed.result ≡ count_below (c.loop-i.i + 1) (was_backed_out c.args.tables c.args.state)
more-backed c =
    count-more c.loop-i.i (was_backed_out c.args.tables c.args.state) _ _ c.loop-i.invariant.3
    (c.from-more_backed.ensures ∙ from-one _ ∙ ap one (c.was_backed_out.ensures ∙ ap₂ backed_out_by c.saga_phase-phase.ensures c.settled-settled.ensures))

more-unsettled : (c : goal.After-from-more_unsettled)
    → c.loop-i.unsettled + c.from-more_unsettled.result ≡ count_below (c.loop-i.i + 1) (is_open c.args.tables c.args.state)
more-unsettled c =
    count-more c.loop-i.i (is_open c.args.tables c.args.state) _ _ c.loop-i.invariant.4
    (c.from-more_unsettled.ensures ∙ from-one _ ∙ ap one (c.is_open.ensures ∙ ap₂ open_by c.saga_phase-phase.ensures c.settled-settled.ensures))

pub loop-i-init : goal.loop-i-init
loop-i-init c = (c.saga_count-sagas.ensures, count_none _, count_none _, count_none _, count_none _)

pub overflow_add-begun : goal.overflow_add-begun
overflow_add-begun c = omega (arith, more-begun c, count-le (c.loop-i.i + 1) (was_begun c.args.tables c.args.state))

pub overflow_add-committed : goal.overflow_add-committed
overflow_add-committed c = omega (arith, more-committed c, count-le (c.loop-i.i + 1) (was_committed c.args.tables c.args.state))

pub overflow_add-backed : goal.overflow_add-backed
overflow_add-backed c = omega (arith, more-backed c, count-le (c.loop-i.i + 1) (was_backed_out c.args.tables c.args.state))

pub overflow_add-unsettled : goal.overflow_add-unsettled
overflow_add-unsettled c = omega (arith, more-unsettled c, count-le (c.loop-i.i + 1) (is_open c.args.tables c.args.state))

pub loop-i-preserved : goal.loop-i-preserved
loop-i-preserved c = (c.loop-i.invariant.0, more-begun c, more-committed c, more-backed c, more-unsettled c)

pub returns : goal.returns
unfolding counts_of
returns c =
    let a = c.args in
    let l = c.loop-i in
    let all : l.i ≡ saga_count a.tables = omega arith in
    let counted : (stands : ℕ → Bool) → count_below l.i stands ≡ count_below (saga_count a.tables) stands = λ stands. ap (λ (n : ℕ). count_below n stands) all in
    λ k.
    record {
      begun = (l.invariant.1 ∙ counted (was_begun a.tables a.state)) k;
      committed = (l.invariant.2 ∙ counted (was_committed a.tables a.state)) k;
      backed = (l.invariant.3 ∙ counted (was_backed_out a.tables a.state)) k;
      unsettled = (l.invariant.4 ∙ counted (is_open a.tables a.state)) k;
    }
