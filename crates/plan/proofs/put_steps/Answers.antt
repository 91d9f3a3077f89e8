use native.Mathlib.Omega.{arith}
use mathlib.Core.Path.{◌≡◌, sym, ap, ◌∙◌}
use mathlib.Core.List.{◌∷◌}
use Prim.Native.Nat.{ℕ, ◌+◌}
use lib.ListN.{length, drop, set, length-set, length-drop}
use Rattle.plan.specs.Lines.{name_of, entries_of}
use Rattle.plan.specs.Reading.{steps_below, steps_of}
use Rattle.plan.specs.Passes.{laid}
use Rattle.plan.proofs.LaidLaws.{laid_none, laid_cons}
use Rattle.plan.proofs.EntryLaws.{no-entries, steps-none, steps-move, steps-other, below-le, entries-le}
use Rattle.plan.proofs.put_steps.Goals as goal

pub overflow_cast-steps : goal.overflow_cast-steps
overflow_cast-steps c =
    let text = c.args.text.now in
    let rest = drop (c.said_at-said.result.next) text in
    omega (arith, c.steps_below-own.ensures, below-le (entries_of rest), entries-le rest, length-drop (c.said_at-said.result.next) text)

pub bounds-steps-m : goal.bounds-steps-m
bounds-steps-m c =
    let turn = c.said_at-said.ensures.entry in
    let found : steps_of (entries_of (drop c.loop-at.at c.args.text.now)) ≡ steps_below (entries_of (drop (c.said_at-said.result.next) c.args.text.now)) ∷ steps_of (entries_of (drop (c.said_at-said.result.next) c.args.text.now)) =
    let text = c.args.text.now in
    ap steps_of turn ∙ steps-move (name_of c.said_at-said.result.line.now) (entries_of (drop (c.said_at-said.result.next) text)) c.said_at-said.result.word (sym c.is_move.ensures ∙ c.if-is_move.true) in
    omega (arith, ap length found, c.loop-at.invariant.1)

pub loop-at-preserved-then-is_move : goal.loop-at-preserved-then-is_move
loop-at-preserved-then-is_move c =
    let next = c.said_at-said.ensures.next_after in
    let turn = c.said_at-said.ensures.entry in
    let found : steps_of (entries_of (drop c.loop-at.at c.args.text.now)) ≡ steps_below (entries_of (drop (c.said_at-said.result.next) c.args.text.now)) ∷ steps_of (entries_of (drop (c.said_at-said.result.next) c.args.text.now)) =
    let text = c.args.text.now in
    ap steps_of turn ∙ steps-move (name_of c.said_at-said.result.line.now) (entries_of (drop (c.said_at-said.result.next) text)) c.said_at-said.result.word (sym c.is_move.ensures ∙ c.if-is_move.true) in
    let l = c.loop-at in
    let rest = entries_of (drop (c.said_at-said.result.next) c.args.text.now) in (
      omega arith,
      simp length-set l.invariant.1,
      omega (arith, ap length found),
      l.invariant.3 ∙ ap (laid l.steps l.m) found ∙ laid_cons l.steps l.m (steps_below rest) (steps_of rest) (omega (arith, ap length found))
          ∙ ap (λ (v : ℕ). laid (set l.steps l.m v) (l.m + 1) (steps_of rest)) (sym c.steps_below-own.ensures),
    )

pub loop-at-preserved : goal.loop-at-preserved
loop-at-preserved c =
    let next = c.said_at-said.ensures.next_after in
    let turn = c.said_at-said.ensures.entry in
    let text = c.args.text.now in
    let l = c.loop-at in
    let q = ap steps_of turn ∙ steps-other (name_of c.said_at-said.result.line.now) (entries_of (drop (c.said_at-said.result.next) text)) c.said_at-said.result.word (sym c.is_move.ensures ∙ c.if-is_move.false) in (
      omega arith,
      l.invariant.1,
      omega (arith, ap length q),
      l.invariant.3 ∙ ap (laid l.steps l.m) q,
    )

pub returns : goal.returns
returns c =
    let l = c.loop-at in
    let none = ap steps_of (no-entries c.args.text.now l.at (omega arith)) ∙ steps-none in
    sym (l.invariant.3 ∙ ap (laid l.steps l.m) none ∙ laid_none l.steps l.m)
