use Rattle.script.proofs.FormLaws.{heard-goes, heard-speaks, heard-as, room-left}
use Rattle.script.specs.Scripts.{found_in}
use Rattle.script.proofs.FormLaws.{says-end, says_other}
use native.Mathlib.Omega.{arith}
use mathlib.Core.List.{List}
use Rattle.std.proofs.Common.{Bor, ℕ}
use mathlib.Core.Path.{refl, sym, ap, ◌∙◌}
use Prim.Native.Nat.{◌+◌}
use lib.ListN.{take}
use Rattle.script.proofs.said_by.Goals.{in-Goes, in-Speaks}
use Rattle.script.proofs.said_by.Goals as goal

pub loop-b-init : goal.loop-b-init
loop-b-init c = (omega arith, omega arith, omega arith, refl, refl, refl)

pub bounds-room-n : goal.bounds-room-n
bounds-room-n c = let a = c.args in let l = c.loop-b in room-left a.form.now a.line.now a.room.now a.from l.b-index l.n l.rest.now l.room (omega arith) l.invariant c.in-Speaks.v c.in-Speaks.next.now (sym (ap found_in c.in-Speaks.is) ∙ c.found_by-found.ensures)

pub returns-in-Other : goal.returns-in-Other
returns-in-Other c =
    let a = c.args in
    let l = c.loop-b in record {
      room_after = sym (l.invariant.5 ∙ says_other a.form.now l.rest.now (take l.n l.room) l.b-index (omega arith) (sym (ap found_in c.in-Other.is) ∙ c.found_by-found.ensures));
      room_unchanged = l.invariant.4;
    }

pub loop-b-preserved : goal.loop-b-preserved
loop-b-preserved c =
    let a = c.args in
    let l = c.loop-b in
    let form = a.form.now in
    let line = a.line.now in
    let room = a.room.now in
    elim c.match-found.branch [
      | in-Goes w ↦ heard-as form line room a.from (l.b-index + 1) w.room-is (ap (λ (x : Bor (List ℕ)). x.now) w.rest-is) w.n-is
          (heard-goes form line room a.from l.b-index l.n l.rest.now l.room (omega arith) l.invariant w.in-Goes.next.now
          (sym (ap found_in w.in-Goes.is) ∙ c.found_by-found.ensures))
      | in-Speaks w ↦ heard-as form line room a.from (l.b-index + 1) w.room-is (ap (λ (x : Bor (List ℕ)). x.now) w.rest-is) w.n-is
          (heard-speaks form line room a.from l.b-index l.n l.rest.now l.room (omega arith) l.invariant w.in-Speaks.v w.in-Speaks.next.now
          (sym (ap found_in w.in-Speaks.is) ∙ c.found_by-found.ensures))
    ]

pub returns-then-not-ended : goal.returns-then-not-ended
returns-then-not-ended c =
    let a = c.args in
    let l = c.loop-b in record {
      room_after = sym (l.invariant.5 ∙ says-end a.form.now l.rest.now (take l.n l.room) l.b-index (omega arith) ∙ rw (sym c.ended.ensures ∙ c.if-not-ended.true));
      room_unchanged = l.invariant.4;
    }

pub returns : goal.returns
returns c =
    let a = c.args in
    let l = c.loop-b in record {
      room_after = sym (l.invariant.5 ∙ says-end a.form.now l.rest.now (take l.n l.room) l.b-index (omega arith) ∙ rw (sym c.ended.ensures ∙ c.if-not-ended.false));
      room_unchanged = l.invariant.4;
    }
