use native.Mathlib.Omega.{arith}
use mathlib.Core.Path.{◌∙◌}
use Rattle.laws.proofs.IndexLaws.{any_none, search-hit, search-miss, search-end}
use Rattle.terms.specs.Limits.{most_transactions}
use Rattle.sets.proofs.RowLaws.{in_row}
use Rattle.tables.proofs.CircleLaws.{none-circle, own_in}
use Rattle.tables.proofs.has_circle.Goals as goal

pub returns-then-declared-eq0 : goal.returns-then-declared-eq0
returns-then-declared-eq0 c = none-circle c.args.tables c.if-declared-eq0.true

pub loop-t-init : goal.loop-t-init
loop-t-init c = any_none _

pub returns-then-member : goal.returns-then-member
returns-then-member c =
    search-hit (λ k. in_row c.followed-rows.result k k) most_transactions c.loop-t.t c.member.ensures c.if-member.true (omega arith)
    ∙ own_in c.args.tables c.begin_links-links.result c.followed-rows.result c.begin_links-links.ensures c.followed-rows.ensures

pub loop-t-preserved : goal.loop-t-preserved
loop-t-preserved c = search-miss (λ k. in_row c.followed-rows.result k k) c.loop-t.t c.loop-t.invariant c.member.ensures c.if-member.false

pub returns : goal.returns
returns c =
    search-end (λ k. in_row c.followed-rows.result k k) most_transactions c.loop-t.t c.loop-t.invariant (omega arith)
    ∙ own_in c.args.tables c.begin_links-links.result c.followed-rows.result c.begin_links-links.ensures c.followed-rows.ensures
