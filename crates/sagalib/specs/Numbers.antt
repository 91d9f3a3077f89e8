-- The numbers in which an answer crosses to a program in C or Rust (docs/RULES.md, 5 Reading, opening, writing, unpacking): "It returns number, events accepted and
-- place", and "After success the answer is the number of bytes or fields written".
use Rattle.std.specs.Prelude.{ℕ, cond, List, [], ◌∷◌, get_or, Option, Result, Ok, Err, ok_or}
use Rattle.terms.specs.Refusals.{number_of, verdict_number}
use Rattle.terms.specs.declared.Refusal.TheVariants.{NoRoom}
use Rattle.packing.specs.Fields.{encodes}
use Rattle.replay.specs.Replay.{order_of, copy_answer}
use Rattle.tables.specs.Reading.{edition_of}
use Rattle.book.specs.Reading.{reading_of}
use Rattle.book.specs.Packing.{Outcome, unpack_outcome, write_outcome}
use Rattle.book.specs.declared.Reading.{Reading}
use Rattle.book.specs.declared.Refused.{Refused}
use Rattle.onward.specs.Onward.{refused_by}
use Rattle.onward.specs.declared.Judgement.{Judgement}
use Rattle.onward.specs.declared.No.{No}
use Rattle.share.specs.declared.Share.{Share}
use Rattle.totals.specs.declared.Totals.{Totals}
use Rattle.listing.specs.Lines.{listing_of, place_answer}
use Rattle.listing.specs.Texts.{put_answer}
use Rattle.listing.specs.declared.NotPlaced.{NotPlaced}
use Rattle.listing.specs.declared.NotPlaced.TheVariants.{NoRoom as NoRoomForLine, NoLine}
use Rattle.mend.specs.declared.Mending.{Mending}
use Rattle.mend.specs.declared.Mending.TheVariants.{Own, Wrote as WroteMended, Refuses as RefusesMending}
use Rattle.desk.specs.Ways.{circles_in, judged, reads_on}
use Rattle.desk.specs.Questions.{saga_numbers}

-- reading in the old way, to the first refusal, as unpacking, writing and the accepted opening go by it
abbrev pub reading : List ℕ → Reading
reading s = reading_of s

-- the events that are refused and passed over; a reading to the first refusal passes over none
unfoldable pub refused_in : ℕ → List ℕ → List No
refused_in way s = cond (reads_on way) (refused_by (circles_in way) (edition_of s) s) []

-- ---- the four numbers of an answer: the refusal's number, 0 if there is none; the events accepted; the refusal's place; and how many bytes or
-- fields were written, or events passed over

abbrev pub four : ℕ → ℕ → ℕ → ℕ → List ℕ
four refusal events place size = refusal ∷ events ∷ place ∷ size ∷ []

-- reading, with how many events were refused and passed over
unfoldable pub read_numbers : ℕ → List ℕ → List ℕ
read_numbers way s = four (verdict_number (judged way s).answer) (judged way s).events (judged way s).place (judged way s).refused

-- what was written for a book of so many accepted events; a refusal says by itself how many it came after
abbrev pub outcome_numbers : ℕ → Outcome → List ℕ
outcome_numbers events (Ok n) = four 0 events 0 n
outcome_numbers events (Err f) = four (number_of f.refusal) f.events f.place 0

unfoldable pub unpack_numbers : List ℕ → List ℕ → List ℕ
unpack_numbers s room = outcome_numbers (reading s).events (unpack_outcome s room)

unfoldable pub write_numbers : List ℕ → List ℕ → List ℕ
write_numbers fs room = outcome_numbers (reading (encodes fs)).events (write_outcome fs room)

-- a room is too small, after so many accepted events
abbrev pub no_room : ℕ → Refused
no_room events = record { refusal = NoRoom; events = events; place = 0 }

-- what came of putting something into a room
abbrev pub put_outcome : ℕ → Option ℕ → Outcome
put_outcome events put = ok_or put (no_room events)

-- the listing
unfoldable pub listing_in : ℕ → List ℕ → List ℕ
listing_in way s = listing_of (judged way s) (refused_in way s)

abbrev pub listing_outcome : ℕ → Option ℕ → Outcome
listing_outcome events put = put_outcome events put

unfoldable pub listing_numbers : ℕ → List ℕ → List ℕ → List ℕ
listing_numbers way s room = outcome_numbers (judged way s).events (listing_outcome (judged way s).events (put_answer (listing_in way s) room))

-- the order to replay in; that of a book whose tables are refused is empty
abbrev pub order_outcome : ℕ → Option ℕ → Outcome
order_outcome events put = put_outcome events put

abbrev pub order_in : ℕ → List ℕ → List ℕ
order_in way s = order_of (judged way s).state.ops

unfoldable pub replay_numbers : ℕ → List ℕ → List ℕ → List ℕ
replay_numbers way s room = outcome_numbers (judged way s).events (order_outcome (judged way s).events (copy_answer (order_in way s) room))

-- mending, with how many bytes were written: none where the caller's own book is handed back
abbrev pub mend_numbers : Mending → List ℕ
mend_numbers (Own kept) = four 0 kept 0 0
mend_numbers (WroteMended n kept dropped added) = four 0 kept 0 n
mend_numbers (RefusesMending r kept place) = four (number_of r) kept place 0

-- ---- the three numbers of a mended book: none (0), the caller's own (1) or the one at the front of the room (2); the bytes dropped; and the steps added

abbrev pub mended_numbers : Mending → List ℕ
mended_numbers (Own kept) = 1 ∷ 0 ∷ 0 ∷ []
mended_numbers (WroteMended n kept dropped added) = 2 ∷ dropped ∷ added ∷ []
mended_numbers (RefusesMending r kept place) = 0 ∷ 0 ∷ 0 ∷ []

-- what is to be done next for a saga
abbrev pub next_numbers : ℕ → List ℕ → ℕ → List ℕ
next_numbers way s saga = saga_numbers (judged way s).tables (judged way s).state saga

-- ---- from a desk that stands for what reading came to

-- the order to replay in
unfoldable pub desk_order : Judgement → List ℕ → List ℕ
desk_order j room = outcome_numbers j.events (order_outcome j.events (copy_answer (order_of j.state.ops) room))

-- a line of the listing; one that is not there has no bytes
abbrev pub line_outcome : ℕ → Result ℕ NotPlaced → Outcome
line_outcome events (Ok n) = Ok n
line_outcome events (Err NoRoomForLine) = Err (no_room events)
line_outcome events (Err NoLine) = Ok 0

unfoldable pub desk_line : Judgement → ℕ → List ℕ → List ℕ
desk_line j k room = outcome_numbers j.events (line_outcome j.events (place_answer j k room))

-- ---- the six numbers of a term's totals, and the two of a share

abbrev pub totals_in : List ℕ → Totals
totals_in l = record { books = get_or l 0 0; refused = get_or l 1 0; begun = get_or l 2 0; committed = get_or l 3 0; backed = get_or l 4 0; unsettled = get_or l 5 0 }

abbrev pub totals_numbers : Totals → List ℕ
totals_numbers t = t.books ∷ t.refused ∷ t.begun ∷ t.committed ∷ t.backed ∷ t.unsettled ∷ []

abbrev pub share_numbers : Share → List ℕ
share_numbers r = r.part ∷ r.whole ∷ []
