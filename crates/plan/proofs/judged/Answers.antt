use mathlib.Core.Path.{◌≡◌, sym, ◌∙◌}
use mathlib.Core.Bool.{false}
use borrow.Author.Tests.{lt-ltb, le-ltb}
use lib.ListN.{length}
use Rattle.plan.specs.Verdict.{most_lists, plan_verdict, too_many_steps, long_name, too_many_lists}
use Rattle.plan.proofs.judged.Goals as goal

pub returns-then-too_many_steps : goal.returns-then-too_many_steps
unfolding plan_verdict
returns-then-too_many_steps c = rw (sym c.too_many_steps.ensures ∙ c.if-too_many_steps.true)

pub returns-then-lists-gt-LISTS : goal.returns-then-lists-gt-LISTS
unfolding plan_verdict
returns-then-lists-gt-LISTS c =
    let few-steps : too_many_steps c.args.steps.now ≡ false =
    sym c.too_many_steps.ensures ∙ c.if-too_many_steps.false in
    rw (few-steps, lt-ltb most_lists (length c.args.lists.now) c.if-lists-gt-LISTS.true)

pub returns-then-long_name : goal.returns-then-long_name
unfolding plan_verdict
returns-then-long_name c =
    let few-steps : too_many_steps c.args.steps.now ≡ false =
    sym c.too_many_steps.ensures ∙ c.if-too_many_steps.false in
    let few-lists : too_many_lists c.args.lists.now ≡ false =
    le-ltb most_lists (length c.args.lists.now) c.if-lists-gt-LISTS.false in
    rw (few-steps, few-lists, sym c.long_name.ensures ∙ c.if-long_name.true)

pub returns-then-no_such_move : goal.returns-then-no_such_move
unfolding plan_verdict
returns-then-no_such_move c =
    let few-steps : too_many_steps c.args.steps.now ≡ false =
    sym c.too_many_steps.ensures ∙ c.if-too_many_steps.false in
    let few-lists : too_many_lists c.args.lists.now ≡ false =
    le-ltb most_lists (length c.args.lists.now) c.if-lists-gt-LISTS.false in
    let short-names : long_name c.args.names.now c.args.ends.now ≡ false =
    sym c.long_name.ensures ∙ c.if-long_name.false in
    rw (few-steps, few-lists, short-names, sym c.no_such_move.ensures ∙ c.if-no_such_move.true)

pub returns : goal.returns
unfolding plan_verdict
returns c =
    let few-steps : too_many_steps c.args.steps.now ≡ false =
    sym c.too_many_steps.ensures ∙ c.if-too_many_steps.false in
    let few-lists : too_many_lists c.args.lists.now ≡ false =
    le-ltb most_lists (length c.args.lists.now) c.if-lists-gt-LISTS.false in
    let short-names : long_name c.args.names.now c.args.ends.now ≡ false =
    sym c.long_name.ensures ∙ c.if-long_name.false in
    rw (few-steps, few-lists, short-names, sym c.no_such_move.ensures ∙ c.if-no_such_move.false)
