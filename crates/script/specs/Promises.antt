-- What is promised of the text of a book.
use Rattle.std.specs.Prelude.{ℕ, ◌≤◌, ◌≡◌, List, ◌++◌, ◌∷◌, length, take, Ok}
use Rattle.terms.specs.Limits.{most_bytes}
use Rattle.terms.specs.declared.Verdict.TheVariants.{Accepted}
use Rattle.number.specs.Promises.{Bytes}
use Rattle.packing.specs.Promises.{Under}
use Rattle.book.specs.Reading.{reading_of}
use Rattle.book.specs.Packing.{book_fields, write_outcome, written_room}
use Rattle.script.specs.declared.Due.{Due}
use Rattle.script.specs.Forms.{largest, allows, loose_letter, count_of, shown}
use Rattle.script.specs.Stages.{letter_of}
use Rattle.script.specs.Scripts.{form_due, book_text, takes, line_says, tells, telling}

-- "What `showbook` prints, `writebook` makes into the same bytes": the text of a book's fields says these fields, and writing them gives the book
pub record ShownBack (s : List ℕ) : Type 0 where
  pub says : telling most_bytes (book_text (book_fields s)) ≡ tells (book_fields s)
  pub written : (room : List ℕ) → length s ≤ length room
      → (write_outcome (book_fields s) room ≡ Ok (length s)) × (take (length s) (written_room (book_fields s) room) ≡ s)

pub record TextBack : Type 0 where
  -- a line that is shown says, behind any fields, exactly those that it was shown from, whatever is due
  pub line_back : (due : Due) (v : ℕ) (rest l : List ℕ) → Under largest (v ∷ rest)
      → line_says (letter_of due.stage due.edition) (shown (form_due due (v ∷ rest)) (v ∷ rest)) l
      ≡ takes (l ++ take (count_of (form_due due (v ∷ rest))) (v ∷ rest)) (allows (form_due due (v ∷ rest)) loose_letter)
  -- the text of any fields says exactly these fields, be they a book or not
  pub fields_back : (most : ℕ) (fs : List ℕ) → Under largest fs → length fs ≤ most → telling most (book_text fs) ≡ tells fs
  -- every accepted book comes back as the same bytes
  pub book_back : (s : List ℕ) → Bytes s → (reading_of s).answer ≡ Accepted → ShownBack s
