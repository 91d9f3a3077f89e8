-- What is due at a place of the text: the tables line by line as the book has them (docs/RULES.md, 1 The book), then events to the end.
use Rattle.std.specs.Prelude.{ℕ, zero, suc, Bool, cond}
use Rattle.number.specs.Number.{edition_named}
use Rattle.number.specs.declared.Edition.TheVariants.{First, Second}
use Rattle.script.specs.declared.Due.{Due}
use Rattle.script.specs.declared.Stage.{Stage}
use Rattle.script.specs.declared.Stage.TheVariants.{Edition, Sagas, Steps, Plain, Objects, Dependencies, Entries, Events, Loose}
use Rattle.number.specs.declared.Edition as Number

-- the letter by which a form names a stage; events are of two sorts, by the edition
abbrev pub event_letter : Number.Edition → ℕ
event_letter First = 72
event_letter Second = 73

abbrev pub letter_of : Stage → Number.Edition → ℕ
letter_of Edition ed = 65
letter_of Sagas ed = 66
letter_of Steps ed = 67
letter_of Plain ed = 68
letter_of Objects ed = 69
letter_of Dependencies ed = 70
letter_of Entries ed = 71
letter_of Events ed = event_letter ed
letter_of Loose ed = 74

abbrev pub first_due : Due
first_due = record { stage = Edition; left = 0; edition = First }

-- a line of this stage
abbrev pub stage_due : Due → Stage → Due
stage_due d stage = record { stage = stage; left = 0; edition = d.edition }

-- so many lines of one stage, and then one of another
abbrev pub counted_due : Due → ℕ → Stage → Stage → Due
counted_due d zero stage next = stage_due d next
counted_due d (suc n) stage next = record { stage = stage; left = n; edition = d.edition }

-- behind a line of this stage whose first field is v
abbrev pub next_due : Stage → Due → ℕ → Due
next_due Edition d v = record { stage = Sagas; left = 0; edition = edition_named v }
next_due Sagas d v = counted_due d v Steps Plain
next_due Steps d v = counted_due d d.left Steps Plain
next_due Plain d v = stage_due d Objects
next_due Objects d v = stage_due d Dependencies
next_due Dependencies d v = counted_due d v Entries Events
next_due Entries d v = counted_due d d.left Entries Events
next_due Events d v = stage_due d Events
next_due Loose d v = stage_due d Loose

-- behind a line of the last form numbers alone follow
unfoldable pub due_after : Due → Bool → ℕ → Due
due_after d loose v = cond loose (stage_due d Loose) (next_due d.stage d v)
