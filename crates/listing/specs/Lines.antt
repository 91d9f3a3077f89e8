-- The listing (docs/RULES.md, 7 The listing): "Line 1: events accepted; or `book refused`, number, events, place. `t`: number, state. `op`: number,
-- object, mark, responsible, state, and in edition 2 the pupil record. `saga`: index, outstanding, closing step and its transaction, or `none`. The kinds of line come in this order,
-- each by rising number. If the tables are refused only line 1 is printed." Refused tables are empty, so that no other line is left then.
use Rattle.std.specs.Prelude.{ℕ, zero, suc, ◌+◌, ◌-◌, cond, List, [], ◌∷◌, ◌++◌, ltb, leb, eqb, get_or, take, Option, Result, Err, ok_or}
use Rattle.terms.specs.Refusals.{number_of}
use Rattle.terms.specs.declared.Verdict.{Verdict}
use Rattle.terms.specs.declared.Verdict.TheVariants.{Accepted, Refused}
use Rattle.number.specs.declared.Edition.{Edition}
use Rattle.number.specs.declared.Edition.TheVariants.{First, Second}
use Rattle.ties.specs.Operations.{op_at, size}
use Rattle.terms.specs.declared.Mark.{Mark}
use Rattle.terms.specs.declared.Mark.TheVariants.{Read, Write}
use Rattle.ties.specs.declared.Fate.{Fate}
use Rattle.ties.specs.declared.Fate.TheVariants.{Aborted as FateAborted, Active as FateActive, Committed as FateCommitted}
use Rattle.ties.specs.declared.Operation.{Operation}
use Rattle.tables.specs.Counts.{transaction_count, saga_count}
use Rattle.rules.specs.States.{phase_of}
use Rattle.rules.specs.declared.Phase.{Phase}
use Rattle.rules.specs.declared.Phase.TheVariants.{Idle, Active, Committed, Aborted}
use Rattle.closing.specs.Closing.{outstanding, closing}
use Rattle.closing.specs.declared.NextStep.{NextStep}
use Rattle.closing.specs.declared.NextStep.TheVariants.{NoStep, ToBegin, ToCommit, ToAbort}
use Rattle.tables.specs.Reading.{edition_of}
use Rattle.tables.specs.declared.Circles.{Circles}
use Rattle.onward.specs.Onward.{judgement_by, refused_by}
use Rattle.onward.specs.declared.Judgement.{Judgement}
use Rattle.onward.specs.declared.No.{No}
use Rattle.listing.specs.declared.NotPlaced.{NotPlaced}
use Rattle.listing.specs.declared.NotPlaced.TheVariants.{NoRoom, NoLine}
use Rattle.listing.specs.Texts.{put_answer, put_room}
use Rattle.listing.specs.Words.{book_accepted, book_refused, transaction_word, operation_word, saga_word, no_word, idle_word, active_word, committed_word, aborted_word, read_word, write_word, none_word, begin_word, commit_word, abort_word, blank, line_feed, decimal}

-- ---- the words of states, marks and steps

abbrev pub phase_word : Phase → List ℕ
phase_word Idle = idle_word
phase_word Active = active_word
phase_word Committed = committed_word
phase_word Aborted = aborted_word

abbrev pub fate_word : Fate → List ℕ
fate_word FateAborted = aborted_word
fate_word FateActive = active_word
fate_word FateCommitted = committed_word

abbrev pub mark_word : Mark → List ℕ
mark_word Read = read_word
mark_word Write = write_word

-- "In edition 2 the `op` line ends with it"
abbrev pub record_words : Edition → ℕ → List ℕ
record_words First pu = []
record_words Second pu = blank ++ decimal pu

abbrev pub step_words : NextStep → List ℕ
step_words NoStep = none_word
step_words (ToBegin t) = begin_word ++ decimal t
step_words (ToCommit t) = commit_word ++ decimal t
step_words (ToAbort t) = abort_word ++ decimal t

-- ---- the lines: what became of the book, a transaction, an operation, a saga, a refused event

abbrev pub first_line_by : Verdict → ℕ → ℕ → List ℕ
first_line_by Accepted events place = book_accepted ++ (decimal events ++ line_feed)
first_line_by (Refused r) events place = book_refused ++ (decimal (number_of r) ++ (blank ++ (decimal events ++ (blank ++ (decimal place ++ line_feed)))))

abbrev pub transaction_line : Judgement → ℕ → List ℕ
transaction_line r t = transaction_word ++ (decimal t ++ (blank ++ (phase_word (phase_of r.state.transactions t) ++ line_feed)))

abbrev pub operation_line_of : Edition → ℕ → Operation → ℕ → List ℕ
operation_line_of ed q op pu =
    operation_word
    ++ (decimal q ++ (blank ++ (decimal op.object ++ (blank ++ (mark_word op.mark ++ (blank ++ (decimal op.responsible ++ (blank ++ (fate_word op.fate ++ (record_words ed pu ++ line_feed))))))))))

abbrev pub operation_line : Judgement → ℕ → List ℕ
operation_line r q = operation_line_of r.edition q (op_at r.state.ops q) (get_or r.records q 0)

abbrev pub saga_line : Judgement → ℕ → List ℕ
saga_line r i =
    saga_word ++ (decimal i ++ (blank ++ (decimal (outstanding r.tables r.state i) ++ (blank ++ (step_words (closing r.tables r.state i) ++ line_feed)))))

-- 'no 12 16': the event of index 12 was refused by 16
abbrev pub no_line : No → List ℕ
no_line x = no_word ++ (decimal x.index ++ (blank ++ (decimal (number_of x.refusal) ++ line_feed)))

-- those of refused events, one after another
unfoldable pub no_lines : List No → List ℕ
no_lines [] = []
no_lines (x ∷ xs) = no_line x ++ no_lines xs

-- ---- which line is which; the lines of refused events stand between the first and the later ones

unfoldable pub line_count : Judgement → ℕ
line_count r = 1 + (transaction_count r.tables + (size r.state.ops + saga_count r.tables))

-- the k-th of those after the first
unfoldable pub later_line : Judgement → ℕ → List ℕ
later_line r k =
    cond (ltb k (transaction_count r.tables)) (transaction_line r k)
    (cond (ltb (k - transaction_count r.tables) (size r.state.ops)) (operation_line r (k - transaction_count r.tables))
    (saga_line r (k - transaction_count r.tables - size r.state.ops)))

-- line k, counted from 0
unfoldable pub line_of : Judgement → ℕ → List ℕ
line_of r k = cond (eqb k 0) (first_line_by r.answer r.events r.place) (later_line r (k - 1))

-- ---- the whole listing: "The `no` lines follow line 1."

-- the later lines from the k-th on, so many of them
unfoldable pub lines_from : Judgement → ℕ → ℕ → List ℕ
lines_from r k zero = []
lines_from r k (suc n) = line_of r k ++ lines_from r (k + 1) n

unfoldable pub listing_of : Judgement → List No → List ℕ
listing_of r refused = line_of r 0 ++ (no_lines refused ++ lines_from r 1 (line_count r - 1))

-- which refused events of a book are listed: as many as the judgement counts
abbrev pub listed : Judgement → Circles → List ℕ → List No
listed r circles s = take r.refused (refused_by circles (edition_of s) s)

-- of a book, read on past its refused events
abbrev pub listing_by : Circles → Edition → List ℕ → List ℕ
listing_by circles ed s = listing_of (judgement_by circles ed s) (refused_by circles ed s)

-- no listing is longer: the `no` lines of at most 32,768 events have at most 12 bytes each, and at most 337 other lines at most 103 bytes each
abbrev pub most_listing : ℕ
most_listing = 427927

-- ---- into a lent room: the line at its front and the rest as it was; or nothing is touched

abbrev pub placed : Option ℕ → Result ℕ NotPlaced
placed put = ok_or put NoRoom

unfoldable pub place_answer : Judgement → ℕ → List ℕ → Result ℕ NotPlaced
place_answer r k room = cond (leb (line_count r) k) (Err NoLine) (placed (put_answer (line_of r k) room))

unfoldable pub place_room : Judgement → ℕ → List ℕ → List ℕ
place_room r k room = cond (leb (line_count r) k) room (put_room (line_of r k) room)
