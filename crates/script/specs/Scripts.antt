-- The text of fields, and the fields that a text says.
use Rattle.std.specs.Prelude.{ℕ, ◌≡◌, zero, suc, ◌+◌, Bool, true, cond, List, [], ◌∷◌, ◌++◌, length, get_or, take, drop, ltb, leb, Option, Some, None, Result, Ok, Err}
use Rattle.plan.specs.Lines.{lines_of, past_blanks}
use Rattle.listing.specs.Texts.{text_of, with_all}
use Rattle.listing.specs.Words.{line_feed}
use Rattle.script.specs.declared.Due.{Due}
use Rattle.script.specs.declared.Found.{Found}
use Rattle.script.specs.declared.Found.TheVariants.{Goes, Speaks, Other}
use Rattle.script.specs.declared.Line.{Line}
use Rattle.script.specs.declared.Line.TheVariants.{Takes, Passed, Unclear}
use Rattle.script.specs.declared.NotRead.{NotRead}
use Rattle.script.specs.declared.NotRead.TheVariants.{NotUnderstood, More, NoRoom}
use Rattle.script.specs.declared.Shown.{Shown}
use Rattle.script.specs.Forms.{forms, most_fields, allows, loose_letter, count_of, shown, form_for, Finding, goes, speaks, other, Saying, fields, another, ended, says}
use Rattle.script.specs.Stages.{letter_of, first_due, due_after}

-- ---- the text of fields

-- the form of the first line
abbrev pub form_due : Due → List ℕ → List ℕ
form_due due fs = form_for forms (letter_of due.stage due.edition) fs

-- line after line, each with a line feed; the first number bounds how many there are
unfoldable pub text_from : ℕ → Due → List ℕ → List ℕ
text_from zero due fs = []
text_from (suc k) due [] = []
text_from (suc k) due (v ∷ fs) =
    (shown (form_due due (v ∷ fs)) (v ∷ fs) ++ line_feed)
    ++ text_from k (due_after due (allows (form_due due (v ∷ fs)) loose_letter) v) (drop (count_of (form_due due (v ∷ fs))) (v ∷ fs))

-- every line says a field, so their number is enough
unfoldable pub book_text : List ℕ → List ℕ
book_text fs = text_from (length fs) first_due fs

-- ---- what a line says, behind the fields that were said before it

-- fields up to here, and whether numbers alone follow; it is passed over; it is not understood
pub data LineSaying : Type 0 where
  takes : List ℕ → Bool → LineSaying
  passes : LineSaying
  unclear : LineSaying

abbrev pub said_as : Saying → Bool → LineSaying
said_as (fields l) loose = takes l loose
said_as another loose = unclear

-- by one form, if that may stand there
unfoldable pub one_says : List ℕ → ℕ → List ℕ → List ℕ → LineSaying
one_says form letter s l = cond (allows form letter) (said_as (says form s l) (allows form loose_letter)) unclear

abbrev pub or_next : LineSaying → LineSaying → LineSaying
or_next (takes l loose) next = takes l loose
or_next passes next = passes
or_next unclear next = next

-- by the first form that the line has of those that may stand there
unfoldable pub first_says : List (List ℕ) → ℕ → List ℕ → List ℕ → LineSaying
first_says [] letter s l = unclear
first_says (form ∷ more) letter s l = or_next (one_says form letter s l) (first_says more letter s l)

-- a line with nothing in it, or a remark alone, is passed over
unfoldable pub line_says : ℕ → List ℕ → List ℕ → LineSaying
line_says letter line l = cond (ended line) passes (first_says forms letter (past_blanks true line) l)

-- ---- what a text says

-- its fields; the first line that is not understood, from 1; the first line with which there are more fields than asked for; the room is too small
pub data Telling : Type 0 where
  tells : List ℕ → Telling
  unclear_at : ℕ → Telling
  more_at : ℕ → Telling
  roomless : Telling

abbrev pub on_line : LineSaying → ℕ → ℕ → Due → List ℕ → (Due → List ℕ → Telling) → Telling
on_line (takes m loose) most number due l go = cond (ltb most (length m)) (more_at number) (go (due_after due loose (get_or m (length l) 0)) m)
on_line passes most number due l go = go due l
on_line unclear most number due l go = unclear_at number

unfoldable pub tells_from : ℕ → ℕ → Due → List ℕ → List (List ℕ) → Telling
tells_from most number due l [] = tells l
tells_from most number due l (line ∷ lines) =
    on_line (line_says (letter_of due.stage due.edition) line l) most number due l (λ next m. tells_from most (number + 1) next m lines)

-- up to so many fields
unfoldable pub telling : ℕ → List ℕ → Telling
telling most text = tells_from most 1 first_due [] (lines_of text)

-- a room has so many places more as a form has fields
unfoldable pub script_if_room : ℕ → ℕ → List ℕ → Telling
script_if_room most size text = cond (ltb size (most + most_fields)) roomless (telling most text)

-- ---- what the answers of the code stand for

abbrev pub found_in : Found → Finding
found_in (Goes rest) = goes rest.now
found_in (Speaks v rest) = speaks v rest.now
found_in Other = other

abbrev pub said_in : Option ℕ → List ℕ → Saying
said_in (Some n) room = fields (take n room)
said_in None room = another

abbrev pub line_in : Line → List ℕ → LineSaying
line_in (Takes n loose) room = takes (take n room) loose
line_in Passed room = passes
line_in Unclear room = unclear

abbrev pub unread : NotRead → Telling
unread (NotUnderstood n) = unclear_at n
unread (More n) = more_at n
unread NoRoom = roomless

abbrev pub script_in : Result ℕ NotRead → List ℕ → Telling
script_in (Ok n) room = tells (take n room)
script_in (Err why) room = unread why

-- this is the line of the fields by the form: its text, how many it says, and whether numbers alone follow
abbrev pub ShownBy : List ℕ → List ℕ → Shown → Type 0
ShownBy form fs r =
    (text_of r.text ≡ with_all [] (shown form fs ++ line_feed)) × ((r.fields ≡ count_of form) × (r.loose ≡ allows form loose_letter))

-- a text, or that the room is too small
pub data Print : Type 0 where
  text : List ℕ → Print
  too_small : Print

abbrev pub printed_in : Option ℕ → List ℕ → Print
printed_in (Some n) room = text (take n room)
printed_in None room = too_small

unfoldable pub printed_if_room : List ℕ → ℕ → Print
printed_if_room t size = cond (leb (length t) size) (text t) too_small
