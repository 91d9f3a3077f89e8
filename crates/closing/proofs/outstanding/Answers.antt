use Rattle.closing.proofs.ReturnLaws.{outstanding-unlisted, outstanding-at}
use mathlib.Core.Path.{refl, ◌∙◌}
use Rattle.closing.proofs.outstanding.Goals as goal

pub returns-then-not-is_listed : goal.returns-then-not-is_listed
returns-then-not-is_listed c = outstanding-unlisted c.args.tables c.args.state c.args.saga c.is_listed.ensures c.if-not-is_listed.true

pub returns : goal.returns
returns c =
    let a = c.args in
    let s = c.saga_at-s in
    c.owed_in.ensures ∙ outstanding-at a.tables a.state a.saga c.is_listed.ensures c.if-not-is_listed.false s.result s.ensures _ refl
