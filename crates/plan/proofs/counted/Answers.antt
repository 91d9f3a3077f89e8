use native.Mathlib.Omega.{arith}
use mathlib.Core.Path.{◌≡◌, sym, ap, ◌∙◌}
use mathlib.Core.List.{List, ◌∷◌}
use Prim.Native.Nat.{ℕ, ◌+◌, ◌<◌}
use lib.ListN.{length, drop}
use Rattle.plan.specs.declared.Counts.{Counts}
use Rattle.plan.specs.Lines.{name_of, entry_by, entries_of}
use Rattle.plan.specs.Reading.{first_unclear}
use Rattle.plan.proofs.EntryLaws.{no-entries, unclear-on}
use Rattle.plan.proofs.CountLaws.{Sum, sum-all, sum-none, sum_more, line-below, unclear-off, first-none, told-all, told_line}
use Rattle.plan.proofs.counted.Goals as goal

pub returns-then-not_clear : goal.returns-then-not_clear
returns-then-not_clear c =
    let turn = c.said_at-said.ensures.entry in
    let text = c.args.text.now in
    let l = c.loop-at in
    told_line (entries_of text) l.number
    (l.invariant.7 ∙ ap (first_unclear l.number l.counts.moves) turn
    ∙ unclear-on (name_of c.said_at-said.result.line.now) (entries_of (drop (c.said_at-said.result.next) text)) c.said_at-said.result.word l.number l.counts.moves (sym c.not_clear.ensures ∙ c.if-not_clear.true))
    (omega arith)

pub loop-at-preserved : goal.loop-at-preserved
loop-at-preserved c =
    let next = c.said_at-said.ensures.next_after in
    let turn = c.said_at-said.ensures.entry in
    let small : c.loop-at.at + length c.name_of-name.result.now < c.said_at-said.result.next = omega (arith, ap length c.name_of-name.ensures, c.said_at-said.ensures.name_within) in
    let text = c.args.text.now in
    let l = c.loop-at in
    let w = c.said_at-said.result.word in
    let name = c.name_of-name.result.now in
    let rest = entries_of (drop (c.said_at-said.result.next) text) in
    let below = line-below l.counts w (length name) in
    let e = c.with_line-counts.ensures in
    let q : entries_of (drop l.at text) ≡ entry_by w name ∷ rest =
    turn ∙ ap (λ (x : List ℕ). entry_by w x ∷ rest) (sym c.name_of-name.ensures) in (
      omega arith,
      omega arith,
      omega arith,
      omega (arith, below.names, ap (λ (n : Counts). n.names) e),
      omega (arith, below.ends, ap (λ (n : Counts). n.ends) e),
      omega (arith, below.moves, ap (λ (n : Counts). n.moves) e),
      omega (arith, below.lists, ap (λ (n : Counts). n.lists) e),
      l.invariant.7 ∙ ap (first_unclear l.number l.counts.moves) q
          ∙ unclear-off l.counts name rest w l.number (sym c.not_clear.ensures ∙ c.if-not_clear.false)
          ∙ ap (λ (n : Counts). first_unclear (l.number + 1) n.moves rest) (sym e),
      l.invariant.8 ∙ ap (Sum l.counts) q ∙ sum_more l.counts name rest w ∙ ap (λ (n : Counts). Sum n rest) (sym e),
    )

pub returns : goal.returns
returns c =
    let text = c.args.text.now in
    let l = c.loop-at in
    let none = no-entries text l.at (omega arith) in
    told-all (entries_of text) l.counts
    (l.invariant.7 ∙ ap (first_unclear l.number l.counts.moves) none ∙ first-none l.number l.counts.moves)
    (sym (sym (sum-all (entries_of text)) ∙ l.invariant.8 ∙ ap (Sum l.counts) none ∙ sum-none l.counts))
