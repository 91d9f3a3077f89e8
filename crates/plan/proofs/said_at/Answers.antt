use Rattle.std.proofs.Common.{◌-◌, length, take, drop, refl, ap, arith}
use Rattle.std.proofs.lemmas.List.{length-take}
use Rattle.plan.specs.Lines.{name_of}
use Rattle.plan.proofs.EntryLaws.{end-within, entry_more, name-le}
use Rattle.plan.proofs.said_at.Goals as goal

pub line_between-line-requires : goal.line_between-line-requires
line_between-line-requires c = end-within c.args.text.now c.args.at c.line_end-end.result c.line_end-end.ensures (omega arith)

pub overflow_add-result : goal.overflow_add-result
overflow_add-result c =
    let inside = end-within c.args.text.now c.args.at c.line_end-end.result c.line_end-end.ensures (omega arith) in
    omega arith

pub returns : goal.returns
returns c =
    let text = c.args.text.now in
    let at = c.args.at in
    let end = c.line_end-end.result in
    let inside = end-within text at end c.line_end-end.ensures (omega arith) in
    let part = take (end - at) (drop at text) in
    let short = length-take (end - at) (drop at text) in record {
      entry = entry_more text at end c.line_end-end.ensures (omega arith) c.line_between-line.ensures c.word_of-word.ensures refl;
      next_after = (omega arith, omega arith);
      name_within = omega (arith, ap (λ line. length (name_of line)) c.line_between-line.ensures, name-le part, short);
    }
