use mathlib.Core.Path.{sym, ap, ap₂, ◌∙◌}
use mathlib.Core.Bool.{◌||◌}
use Rattle.rings.specs.Passes.{joined_by, left_by}
use Rattle.rings.proofs.CaseLaws.{passed-gone, own-joined, own-left, known_joined, met-joined, not-met}
use Rattle.rings.proofs.Pass.passed.Goals as goal

pub returns-then-is_gone : goal.returns-then-is_gone
returns-then-is_gone c =
    let a = c.args in
    passed-gone a.start a.q a.self (sym c.is_gone.ensures ∙ c.if-is_gone.true)

pub returns-then-behind-known : goal.returns-then-behind-known
returns-then-behind-known c =
    let a = c.args in
    let live = sym c.is_gone.ensures ∙ c.if-is_gone.false in
    let met = ap₂ ◌||◌ c.crossed-behind.ensures c.member-known.ensures in
    c.joined.ensures
    ∙ ap (joined_by a.q) c.begun-own.ensures
    ∙ own-joined a.start a.q a.self live c.if-b-start.true (sym met ∙ c.if-behind-known.true)

pub returns-then-b-start : goal.returns-then-b-start
returns-then-b-start c =
    let a = c.args in
    let live = sym c.is_gone.ensures ∙ c.if-is_gone.false in
    let met = ap₂ ◌||◌ c.crossed-behind.ensures c.member-known.ensures in
    c.left.ensures
    ∙ ap (left_by a.q) c.begun-own.ensures
    ∙ own-left a.start a.q a.self live c.if-b-start.true (sym met ∙ c.if-behind-known.false)

pub returns-then-known : goal.returns-then-known
returns-then-known c =
    let a = c.args in
    let live = sym c.is_gone.ensures ∙ c.if-is_gone.false in
    c.joined-then-known.ensures ∙ known_joined a.start a.q a.self live c.if-b-start.false (sym c.member-known.ensures ∙ c.if-known.true)

pub returns-then-behind-crossed : goal.returns-then-behind-crossed
returns-then-behind-crossed c =
    let a = c.args in
    let live = sym c.is_gone.ensures ∙ c.if-is_gone.false in
    let off = sym c.member-known.ensures ∙ c.if-known.false in
    let met = ap₂ ◌||◌ c.crossed-behind.ensures c.crossed.ensures in
    c.joined-then-behind-crossed.ensures ∙ met-joined a.start a.q a.self live c.if-b-start.false off (sym met ∙ c.if-behind-crossed.true)

pub returns : goal.returns
returns c =
    let a = c.args in
    let live = sym c.is_gone.ensures ∙ c.if-is_gone.false in
    let off = sym c.member-known.ensures ∙ c.if-known.false in
    let met = ap₂ ◌||◌ c.crossed-behind.ensures c.crossed.ensures in
    c.left-2.ensures ∙ not-met a.start a.q a.self live c.if-b-start.false off (sym met ∙ c.if-behind-crossed.false)
