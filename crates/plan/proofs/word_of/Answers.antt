use Rattle.std.proofs.Common.{rules, tests}
use Rattle.plan.proofs.WordLaws.{word_none, word-hash, word-move, word-step, word-list, word-unclear}
use Rattle.plan.proofs.word_of.Goals as goal
use Rattle.plan.proofs.word_of.Goals.{then-is_empty-via-then-is_empty, then-is_empty-via-else-is_empty+then-line-eq35}

pub returns-then-is_empty : goal.returns-then-is_empty
returns-then-is_empty c =
    let line = c.args.line.now in
    elim c.then-is_empty.branch [
      | then-is_empty-via-then-is_empty w ↦ word_none line (search (rules, tests))
      | then-is_empty-via-else-is_empty+then-line-eq35 w ↦ word-hash line (search (rules, tests)) w.if-line-eq35.true
    ]

pub returns-then-begins_with : goal.returns-then-begins_with
returns-then-begins_with c = word-move c.args.line.now (search (rules, tests)) c.if-line-eq35.false c.begins_with.ensures c.if-begins_with.true

pub returns-then-begins_with-2 : goal.returns-then-begins_with-2
returns-then-begins_with-2 c =
    word-step c.args.line.now (search (rules, tests)) c.if-line-eq35.false c.begins_with.ensures c.if-begins_with.false c.begins_with-2.ensures c.if-begins_with-2.true

pub returns-then-begins_with-3 : goal.returns-then-begins_with-3
returns-then-begins_with-3 c =
    word-list c.args.line.now (search (rules, tests)) c.if-line-eq35.false c.begins_with.ensures c.if-begins_with.false c.begins_with-2.ensures c.if-begins_with-2.false c.begins_with-3.ensures c.if-begins_with-3.true

pub returns : goal.returns
returns c =
    word-unclear c.args.line.now (search (rules, tests)) c.if-line-eq35.false c.begins_with.ensures c.if-begins_with.false c.begins_with-2.ensures c.if-begins_with-2.false c.begins_with-3.ensures c.if-begins_with-3.false
