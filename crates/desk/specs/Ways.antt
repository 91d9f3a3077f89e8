-- The ways of reading a book, by number: on past refused events (0), to the first refusal (1), and each of these with circles in the tables permitted (2, 3); of a larger
-- number what is left of it by fours.
use Rattle.std.specs.Prelude.{ℕ, ◌%◌, Bool, cond, List, eqb, ltb}
use Rattle.tables.specs.Reading.{edition_of}
use Rattle.tables.specs.declared.Circles.{Circles}
use Rattle.tables.specs.declared.Circles.TheVariants.{Forbidden, Permitted}
use Rattle.onward.specs.Onward.{judgement_by, judgement_up_to}
use Rattle.onward.specs.declared.Judgement.{Judgement}

abbrev pub reads_on : ℕ → Bool
reads_on way = eqb (way % 2) 0

abbrev pub circles_in : ℕ → Circles
circles_in way = cond (ltb (way % 4) 2) Forbidden Permitted

unfoldable pub judged : ℕ → List ℕ → Judgement
judged way s = cond (reads_on way) (judgement_by (circles_in way) (edition_of s) s) (judgement_up_to (circles_in way) s)
