use native.Mathlib.Omega.{arith}
use Prim.Native.Nat.{ℕ, ◌+◌, ◌-◌, ◌≤◌}
use mathlib.Core.Path.{◌≡◌, refl, sym, ap, ◌∙◌, subst}
use mathlib.Core.List.{List, ◌++◌}
use lib.ListN.{length, take}
use Rattle.terms.specs.Limits.{most_bytes}
use Rattle.items.specs.Items.{items_after}
use Rattle.tables.specs.declared.Tables.{Tables}
use Rattle.sheet.specs.Sheet.{Holds}
use Rattle.rules.specs.States.{empty_state}
use Rattle.rules.specs.declared.State.{State}
use Rattle.cells.specs.Cells.{ops_in}
use Rattle.judge.specs.Known.{Ringed}
use Rattle.judge.specs.Lent.{state_in}
use Rattle.judge.proofs.ChangeLaws.{empty-in}
use Rattle.judge.proofs.KnownLaws.{none-ringed}
use Rattle.onward.specs.Onward.{Finds, refused_after, refused_from}
use Rattle.onward.specs.declared.Found.{Found}
use Rattle.std.specs.Prelude.{Option}
use Rattle.onward.specs.declared.No.{No}
use Rattle.onward.proofs.RoomLaws.{Laying, laying-done, laying-more, laying-next, laying-same, laying-start}
use Rattle.listing.specs.Lines.{no_line, no_lines}
use Rattle.listing.proofs.StepLaws.{nos-end, nos-next, nos-none}
use Rattle.listing.proofs.put_no_lines_from.Goals as goal

pub loop-listed-init : goal.loop-listed-init
loop-listed-init c =
    let a = c.args in
    let whole : a.count ≡ a.count - 0 = omega arith in (
      refl,
      λ tables h short. (
        laying-same (laying-start a.at (no_lines (take a.count (refused_from tables empty_state 0 (items_after a.edition a.book.now a.start)))) a.room.now)
            (ap (λ (n : ℕ). no_lines (take n (refused_from tables empty_state 0 (items_after a.edition a.book.now a.start)))) whole
            ∙ ap (λ (s : State). no_lines (take (a.count - 0) (refused_from tables s 0 (items_after a.edition a.book.now a.start)))) (sym empty-in)),
        omega arith,
        none-ringed _,
      ),
    )

pub lay_no-end-requires : goal.lay_no-end-requires
lay_no-end-requires c =
    let a = c.args in
    let l = c.loop-listed in
    let n = c.next_refused-next in
    let found = c.in-Some in
    let to-come : (tables : Tables) → Holds tables c.sheet_of-sheet.result → length a.book.now ≤ most_bytes
    → Laying a.at (no_lines (take a.count (refused_from tables empty_state 0 (items_after a.edition a.book.now a.start)))) a.room.now l.end
    (no_line found.found.no ++ no_lines (take (a.count - (l._listed + 1)) (refused_after tables a.edition a.book.now (state_in n.new.transactions n.new.ops found.found.after.count) found.found.after))) l.room
    × (found.found.after.index ≤ found.found.after.place) × Ringed (ops_in n.new.ops found.found.after.count) found.found.known =
    λ tables h short.
    let so = l.invariant.1 tables h short in
    let next = subst (λ (f : Option Found). Finds tables a.edition a.book.now (state_in l.transactions l.ops l.cursor.count) l.cursor f n.new.transactions n.new.ops) found.is (n.ensures tables h short so.1 so.2) in
    let one-less : a.count - l._listed - 1 ≡ a.count - (l._listed + 1) = omega arith in
    (laying-same so.0 (ap (λ (r : List No). no_lines (take (a.count - l._listed) r)) next.0 ∙ nos-next (a.count - l._listed) _ _ _ (omega arith) one-less), next.1, next.2) in
    let go = to-come a.tables (c.sheet_of-sheet.ensures c.requires.0) c.requires.1.0 in
    let next = laying-next (no_line found.found.no) _ go.0 in
    omega (arith, next, c.requires.1.1)

pub loop-listed-preserved : goal.loop-listed-preserved
loop-listed-preserved c =
    let a = c.args in
    let l = c.loop-listed in
    let n = c.next_refused-next in
    let found = c.in-Some in
    let to-come : (tables : Tables) → Holds tables c.sheet_of-sheet.result → length a.book.now ≤ most_bytes
    → Laying a.at (no_lines (take a.count (refused_from tables empty_state 0 (items_after a.edition a.book.now a.start)))) a.room.now l.end
    (no_line found.found.no ++ no_lines (take (a.count - (l._listed + 1)) (refused_after tables a.edition a.book.now (state_in n.new.transactions n.new.ops found.found.after.count) found.found.after))) l.room
    × (found.found.after.index ≤ found.found.after.place) × Ringed (ops_in n.new.ops found.found.after.count) found.found.known =
    λ tables h short.
    let so = l.invariant.1 tables h short in
    let next = subst (λ (f : Option Found). Finds tables a.edition a.book.now (state_in l.transactions l.ops l.cursor.count) l.cursor f n.new.transactions n.new.ops) found.is (n.ensures tables h short so.1 so.2) in
    let one-less : a.count - l._listed - 1 ≡ a.count - (l._listed + 1) = omega arith in
    (laying-same so.0 (ap (λ (r : List No). no_lines (take (a.count - l._listed) r)) next.0 ∙ nos-next (a.count - l._listed) _ _ _ (omega arith) one-less), next.1, next.2) in
    let p = c.lay_no-end in (
      p.auto.room ∙ l.invariant.0,
      λ tables h short.
          let go = to-come tables h short in
          (laying-more (no_line found.found.no) _ p.result p.new.room go.0 p.ensures p.auto.room, go.1, go.2),
    )

pub returns-in_default : goal.returns-in_default
returns-in_default c =
    let a = c.args in
    let pre = c.requires in
    let l = c.loop-listed in
    let n = c.next_refused-next in
    let h = c.sheet_of-sheet.ensures pre.0 in
    let so = l.invariant.1 a.tables h pre.1.0 in
    let none = subst (λ (x : Option Found). Finds a.tables a.edition a.book.now (state_in l.transactions l.ops l.cursor.count) l.cursor x n.new.transactions n.new.ops) c.in_default.is (n.ensures a.tables h pre.1.0 so.1 so.2) in
    laying-done so.0 (nos-none (a.count - l._listed) none)

pub returns : goal.returns
returns c =
    let a = c.args in
    let pre = c.requires in
    let l = c.loop-listed in
    let so = l.invariant.1 a.tables (c.sheet_of-sheet.ensures pre.0) pre.1.0 in
    laying-done so.0 (nos-end (a.count - l._listed) _ (omega arith))
