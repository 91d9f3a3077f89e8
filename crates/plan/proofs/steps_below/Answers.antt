use native.Mathlib.Omega.{arith}
use mathlib.Core.Path.{sym, ap, ◌∙◌}
use lib.ListN.{drop}
use Rattle.plan.specs.Lines.{name_of, entries_of}
use Rattle.plan.specs.Reading.{steps_below}
use Rattle.plan.proofs.EntryLaws.{no-entries, below_none, below-move, below_step, below_other}
use Rattle.plan.proofs.steps_below.Goals as goal

pub returns-then-is_move : goal.returns-then-is_move
returns-then-is_move c =
    let turn = c.said_at-said.ensures.entry in
    let l = c.loop-at in
    let none = below-move (name_of c.said_at-said.result.line.now) (entries_of (drop (c.said_at-said.result.next) c.args.text.now)) c.said_at-said.result.word (sym c.is_move.ensures ∙ c.if-is_move.true) in
    omega (arith, ap steps_below turn, none)

pub loop-at-preserved-then-is_step : goal.loop-at-preserved-then-is_step
loop-at-preserved-then-is_step c =
    let next = c.said_at-said.ensures.next_after in
    let turn = c.said_at-said.ensures.entry in
    let l = c.loop-at in
    let more = below_step (name_of c.said_at-said.result.line.now) (entries_of (drop (c.said_at-said.result.next) c.args.text.now)) c.said_at-said.result.word (sym c.is_step.ensures ∙ c.if-is_step.true) in
    (omega arith, omega (arith, ap steps_below turn, more))

pub loop-at-preserved : goal.loop-at-preserved
loop-at-preserved c =
    let next = c.said_at-said.ensures.next_after in
    let turn = c.said_at-said.ensures.entry in
    let l = c.loop-at in
    let same = below_other (name_of c.said_at-said.result.line.now) (entries_of (drop (c.said_at-said.result.next) c.args.text.now)) c.said_at-said.result.word (sym c.is_move.ensures ∙ c.if-is_move.false) (sym c.is_step.ensures ∙ c.if-is_step.false) in
    (omega arith, omega (arith, ap steps_below turn, same))

pub returns : goal.returns
returns c =
    let none = ap steps_below (no-entries c.args.text.now c.loop-at.at (omega arith)) ∙ below_none in
    omega (arith, none)
