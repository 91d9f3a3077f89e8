use mathlib.Core.Path.{sym}
use lib.Seq.{length-take-le}
use Rattle.sagalib.proofs.NumberLaws.{refused-is, wrote-inside, wrote-is}
use Rattle.sagalib.proofs.saga_write.Goals as goal

pub returns-in_default : goal.returns-in_default
returns-in_default c =
    let a = c.args in
    let write = c.write-outcome in (
      refused-is a.fields.now a.room.now write.result write.ensures.0 _ c.in_default.is 0
          c.outcome_numbers-refused.result c.outcome_numbers-refused.ensures,
      write.ensures.1,
    )

pub slice_bounds-read_to_first_refusal-end : goal.slice_bounds-read_to_first_refusal-end
slice_bounds-read_to_first_refusal-end c = wrote-inside c.args.fields.now c.args.room.now c.write-outcome.result c.write-outcome.ensures.0 _ c.in-Ok.is c.write-outcome.new.room c.write-outcome.ensures.1

pub slice_bounds-read_to_first_refusal-end-2 : goal.slice_bounds-read_to_first_refusal-end-2
slice_bounds-read_to_first_refusal-end-2 c = sym (length-take-le _ _ (wrote-inside c.args.fields.now c.args.room.now c.write-outcome.result c.write-outcome.ensures.0 _ c.in-Ok.is c.write-outcome.new.room c.write-outcome.ensures.1))

pub returns : goal.returns
returns c =
    let a = c.args in
    let write = c.write-outcome in
    let read = c.read_to_first_refusal-written in (
      wrote-is a.fields.now a.room.now write.result write.ensures.0 _ c.in-Ok.is write.new.room write.ensures.1
          read.result read.ensures c.outcome_numbers-numbers.result c.outcome_numbers-numbers.ensures,
      write.ensures.1,
    )
