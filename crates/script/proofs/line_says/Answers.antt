use Rattle.script.specs.Forms.{table}
use native.Mathlib.Omega.{arith}
use mathlib.Core.Path.{refl, sym, ◌∙◌}
use lib.ListN.{take}
use Rattle.script.proofs.ReadLaws.{line-passes, line-says}
use Rattle.script.proofs.line_says.Goals as goal

pub returns-then-ended : goal.returns-then-ended
returns-then-ended c = record { room_after = line-passes _ _ _ (sym c.ended.ensures ∙ c.if-ended.true); room_unchanged = refl }

pub first_said-requires : goal.first_said-requires
unfolding table
first_said-requires c = (refl, omega arith)

pub returns : goal.returns
returns c =
    let a = c.args in
    let p = c.first_said in record {
      room_after = p.ensures.room_after ∙ line-says a.letter a.line.now (take a.from a.room.now) c.past_blanks-rest.result.now (sym c.ended.ensures ∙ c.if-ended.false) c.past_blanks-rest.ensures;
      room_unchanged = p.ensures.room_unchanged;
    }
