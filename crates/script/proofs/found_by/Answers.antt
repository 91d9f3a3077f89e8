use Rattle.script.proofs.ByteLaws.{found_by_sign, blank-missing, blank-found, first-none, first-same, first-differs, letter-missing, letter-found}
use native.Mathlib.Omega.{arith}
use mathlib.Core.Path.{sym, ◌∙◌}
use Rattle.script.proofs.found_by.Goals as goal

pub returns-then-not-blank_first : goal.returns-then-not-blank_first
returns-then-not-blank_first c = blank-missing c.args.b c.args.line.now (sym c.blank_first.ensures ∙ c.if-not-blank_first.true) ∙ found_by_sign _ _ _ c.sign_of-sign.ensures c.in-Blank.is c.args.line.now

pub returns-in-Fixed : goal.returns-in-Fixed
returns-in-Fixed c = found_by_sign _ _ _ c.sign_of-sign.ensures c.in-Fixed.is c.args.line.now

pub returns-in-Number : goal.returns-in-Number
returns-in-Number c = c.numeral.ensures ∙ found_by_sign _ _ _ c.sign_of-sign.ensures c.in-Number.is c.args.line.now

pub returns-else-not-blank_first : goal.returns-else-not-blank_first
returns-else-not-blank_first c = blank-found c.args.b c.args.line.now _ (sym c.blank_first.ensures ∙ c.if-not-blank_first.false) c.past_blanks-rest.ensures ∙ found_by_sign _ _ _ c.sign_of-sign.ensures c.in-Blank.is c.args.line.now

pub returns-in-Nothing : goal.returns-in-Nothing
returns-in-Nothing c = found_by_sign _ _ _ c.sign_of-sign.ensures c.in-Nothing.is c.args.line.now

pub returns-else-first-b : goal.returns-else-first-b
returns-else-first-b c =
    let is = first-same c.args.b c.args.line.now c.in-len1-up.len_at_least c.if-first-b.false in
    letter-found c.args.b c.args.line.now is ∙ found_by_sign _ _ _ c.sign_of-sign.ensures c.in-Letter.is c.args.line.now

pub returns-then-first-b : goal.returns-then-first-b
returns-then-first-b c = letter-missing c.args.b c.args.line.now (first-differs c.args.b c.args.line.now c.if-first-b.true) ∙ found_by_sign _ _ _ c.sign_of-sign.ensures c.in-Letter.is c.args.line.now

pub returns-in-empty : goal.returns-in-empty
returns-in-empty c = letter-missing c.args.b c.args.line.now (first-none c.args.b c.args.line.now (omega arith)) ∙ found_by_sign _ _ _ c.sign_of-sign.ensures c.in-Letter.is c.args.line.now
