use native.Mathlib.Omega.{arith}
use mathlib.Core.Path.{◌≡◌, sym, ap, ◌∙◌}
use mathlib.Core.List.{◌∷◌}
use Prim.Native.Nat.{ℕ, ◌+◌}
use lib.ListN.{length, drop, set, length-set}
use Rattle.plan.specs.Lines.{name_of, entries_of}
use Rattle.plan.specs.Reading.{move_above, lists_of}
use Rattle.plan.specs.Passes.{laid}
use Rattle.plan.proofs.LaidLaws.{laid_none, laid_cons}
use Rattle.plan.proofs.EntryLaws.{no-entries, lists-none, lists-move, lists-list, lists-other}
use Rattle.plan.proofs.put_lists.Goals as goal

pub bounds-lists-j : goal.bounds-lists-j
bounds-lists-j c =
    let turn = c.said_at-said.ensures.entry in
    let listed : lists_of c.loop-at.moves (entries_of (drop c.loop-at.at c.args.text.now)) ≡ move_above c.loop-at.moves ∷ lists_of c.loop-at.moves (entries_of (drop (c.said_at-said.result.next) c.args.text.now)) =
    let text = c.args.text.now in
    let l = c.loop-at in
    ap (lists_of l.moves) turn ∙ lists-list (name_of c.said_at-said.result.line.now) (entries_of (drop (c.said_at-said.result.next) text)) c.said_at-said.result.word l.moves (sym c.is_list.ensures ∙ c.if-is_list.true) in
    omega (arith, ap length listed, c.loop-at.invariant.2)

pub loop-at-preserved-then-is_move : goal.loop-at-preserved-then-is_move
loop-at-preserved-then-is_move c =
    let next = c.said_at-said.ensures.next_after in
    let turn = c.said_at-said.ensures.entry in
    let text = c.args.text.now in
    let l = c.loop-at in
    let q = ap (lists_of l.moves) turn ∙ lists-move (name_of c.said_at-said.result.line.now) (entries_of (drop (c.said_at-said.result.next) text)) c.said_at-said.result.word l.moves (sym c.is_move.ensures ∙ c.if-is_move.true) in (
      omega arith,
      omega arith,
      l.invariant.2,
      omega (arith, ap length q),
      l.invariant.4 ∙ ap (laid l.lists l.j) q,
    )

pub loop-at-preserved-then-is_list : goal.loop-at-preserved-then-is_list
loop-at-preserved-then-is_list c =
    let next = c.said_at-said.ensures.next_after in
    let turn = c.said_at-said.ensures.entry in
    let listed : lists_of c.loop-at.moves (entries_of (drop c.loop-at.at c.args.text.now)) ≡ move_above c.loop-at.moves ∷ lists_of c.loop-at.moves (entries_of (drop (c.said_at-said.result.next) c.args.text.now)) =
    let text = c.args.text.now in
    let l = c.loop-at in
    ap (lists_of l.moves) turn ∙ lists-list (name_of c.said_at-said.result.line.now) (entries_of (drop (c.said_at-said.result.next) text)) c.said_at-said.result.word l.moves (sym c.is_list.ensures ∙ c.if-is_list.true) in
    let text = c.args.text.now in
    let l = c.loop-at in
    let own = move_above l.moves in
    let rest = lists_of l.moves (entries_of (drop (c.said_at-said.result.next) text)) in (
      omega arith,
      omega arith,
      simp length-set l.invariant.2,
      omega (arith, ap length listed),
      l.invariant.4 ∙ ap (laid l.lists l.j) listed ∙ laid_cons l.lists l.j own rest (omega (arith, ap length listed))
          ∙ ap (λ (v : ℕ). laid (set l.lists l.j v) (l.j + 1) rest) (sym c.move_above-own.ensures),
    )

pub loop-at-preserved : goal.loop-at-preserved
loop-at-preserved c =
    let next = c.said_at-said.ensures.next_after in
    let turn = c.said_at-said.ensures.entry in
    let text = c.args.text.now in
    let l = c.loop-at in
    let q = ap (lists_of l.moves) turn ∙ lists-other (name_of c.said_at-said.result.line.now) (entries_of (drop (c.said_at-said.result.next) text)) c.said_at-said.result.word l.moves (sym c.is_move.ensures ∙ c.if-is_move.false) (sym c.is_list.ensures ∙ c.if-is_list.false) in (
      omega arith,
      omega arith,
      l.invariant.2,
      omega (arith, ap length q),
      l.invariant.4 ∙ ap (laid l.lists l.j) q,
    )

pub returns : goal.returns
returns c =
    let a = c.args in
    let l = c.loop-at in
    let none = ap (lists_of l.moves) (no-entries a.text.now l.at (omega arith)) ∙ lists-none l.moves in
    sym (l.invariant.4 ∙ ap (laid l.lists l.j) none ∙ laid_none l.lists l.j)
