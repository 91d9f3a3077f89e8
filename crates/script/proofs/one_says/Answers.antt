use Rattle.script.proofs.RowLaws.{one-not, one-another, one-fields}
use Rattle.script.specs.Scripts.{said_in}
use Rattle.std.specs.Prelude.{Option}
use Prim.Native.Nat.{ℕ}
use lib.ListN.{take}
use mathlib.Core.Path.{refl, sym, ap, ◌∙◌}
use Rattle.script.proofs.one_says.Goals as goal

pub returns-then-not-allows : goal.returns-then-not-allows
returns-then-not-allows c = record {
  room_after = one-not _ _ c.args.line.now (take c.args.from c.args.room.now) (sym c.allows.ensures ∙ c.if-not-allows.true);
  room_unchanged = refl;
}

pub returns-in_default : goal.returns-in_default
returns-in_default c =
    let a = c.args in
    let p = c.said_by-said in record {
      room_after = one-another a.form.now a.letter a.line.now (take a.from a.room.now) (sym c.allows.ensures ∙ c.if-not-allows.false)
          (sym (ap (λ (x : Option ℕ). said_in x p.new.room) c.in_default.is) ∙ p.ensures.room_after);
      room_unchanged = p.ensures.room_unchanged;
    }

pub returns : goal.returns
returns c =
    let a = c.args in
    let p = c.said_by-said in
    let said = c.in-Some in record {
      room_after = one-fields a.form.now a.letter a.line.now (take a.from a.room.now) (take said.n p.new.room) c.allows-loose.result (sym c.allows.ensures ∙ c.if-not-allows.false)
          (sym (ap (λ (x : Option ℕ). said_in x p.new.room) said.is) ∙ p.ensures.room_after) c.allows-loose.ensures;
      room_unchanged = p.ensures.room_unchanged;
    }
