use Rattle.std.proofs.Common.{arith, sym, ap, length, refl, ◌∙◌}
use Rattle.std.proofs.lemmas.Result.{err_from_is_err_and}
use Rattle.plan.specs.declared.Counts.{Counts}
use Rattle.plan.specs.Lines.{entries_of}
use Rattle.plan.specs.Reading.{plan_names, plan_ends, plan_steps, plan_lists, room_after}
use Rattle.plan.proofs.ReadLaws.{room-filled, answer-long, answer-not, answer-full, answer-read, told-counts, rooms}
use Rattle.plan.proofs.read.Goals as goal

pub returns-then-text-gt-BYTES : goal.returns-then-text-gt-BYTES
unfolding room_after
returns-then-text-gt-BYTES c =
    let a = c.args in record {
      value = answer-long a.text.now (length a.names.now) (length a.ends.now) (length a.steps.now) (length a.lists.now) (omega arith);
      names_after = refl;
      ends_after = refl;
      steps_after = refl;
      lists_after = refl;
    }

pub returns-in_err-counts : goal.returns-in_err-counts
unfolding room_after
returns-in_err-counts c =
    let a = c.args in
    let p = err_from_is_err_and c.from_residual.result c.from_residual.ensures.1 in
    rw (p.1, p.2) (record {
      value = answer-not a.text.now (length a.names.now) (length a.ends.now) (length a.steps.now) (length a.lists.now) (omega arith) _ c.in_err-counts.ensures;
      names_after = refl;
      ends_after = refl;
      steps_after = refl;
      lists_after = refl;
    })

pub returns-then-not-fit : goal.returns-then-not-fit
unfolding room_after
returns-then-not-fit c =
    let a = c.args in
    let none = sym c.fit.ensures ∙ c.if-not-fit.true in record {
      value = answer-full a.text.now (length a.names.now) (length a.ends.now) (length a.steps.now) (length a.lists.now) (omega arith) c.in_ok-counts.counts c.in_ok-counts.ensures none;
      names_after = refl;
      ends_after = refl;
      steps_after = refl;
      lists_after = refl;
    }

pub fill-requires : goal.fill-requires
fill-requires c =
    let a = c.args in
    let large = sym c.fit.ensures ∙ c.if-not-fit.false in
    let r = rooms c.in_ok-counts.counts (length a.names.now) (length a.ends.now) (length a.steps.now) (length a.lists.now) large in
    let q = told-counts (entries_of a.text.now) c.in_ok-counts.counts c.in_ok-counts.ensures in record {
      text_len_bound = omega arith;
      text_in_bounds = (omega (arith, r.0, ap (λ (n : Counts). n.names) q), omega (arith, r.1, ap (λ (n : Counts). n.ends) q));
      text_in_bounds_2 = (omega (arith, r.2, ap (λ (n : Counts). n.moves) q), omega (arith, r.3, ap (λ (n : Counts). n.lists) q));
    }

pub returns : goal.returns
returns c =
    let a = c.args in
    let v = c.in_ok-counts.counts in
    let es = entries_of a.text.now in
    let f = c.fill.ensures in
    let large = sym c.fit.ensures ∙ c.if-not-fit.false in record {
      value = answer-read a.text.now (length a.names.now) (length a.ends.now) (length a.steps.now) (length a.lists.now) (omega arith) v c.in_ok-counts.ensures large;
      names_after = f.names_after ∙ room-filled v (plan_names es) a.names.now;
      ends_after = f.ends_after ∙ room-filled v (plan_ends es) a.ends.now;
      steps_after = f.steps_after ∙ room-filled v (plan_steps es) a.steps.now;
      lists_after = f.lists_after ∙ room-filled v (plan_lists es) a.lists.now;
    }
