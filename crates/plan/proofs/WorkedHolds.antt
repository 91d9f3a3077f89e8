-- The worked texts, computed.
use mathlib.Core.Path.{refl}
use Rattle.laws.specs.Index.{any_below}
use Rattle.plan.specs.Names.{name_at}
use Rattle.plan.specs.Verdict.{plan_verdict}
use Rattle.plan.specs.Lines.{lines_of, past_blanks, up_to_blanks, begins, word_of, name_of, entries_of}
use Rattle.plan.specs.Reading.{first_unclear, names_in, joined, ends_from, steps_below, steps_of, lists_of, told, read_answer}
use Rattle.plan.specs.Worked.{Worked}

pub worked-holds : Worked
unfolding any_below name_at plan_verdict lines_of past_blanks up_to_blanks begins word_of name_of entries_of first_unclear names_in joined ends_from steps_below steps_of lists_of told read_answer
worked-holds = record { entries = refl; names = refl; ends = refl; steps = refl; lists = refl; fits = refl; lost = refl; second = refl }
