-- The proved cases (docs/RULES.md, 8 Proved cases and easy wrong turns), P1 to P12, in one table with one statement; and a book for every refusal.
use Rattle.std.specs.Prelude.{◌≡◌, cond, ℕ, zero, suc, List, [], ◌∷◌, ◌++◌, map, replicate, Err, Ok}
use Rattle.terms.specs.Refusals.{number_of, verdict_number}
use Rattle.number.specs.declared.Edition.TheVariants.{First}
use Rattle.number.specs.Number.{ceiling_of, number_at, Field}
use Rattle.ties.specs.Operations.{is_committed, op_at}
use Rattle.tables.specs.declared.Circles.TheVariants.{Permitted}
use Rattle.closing.specs.Closing.{outstanding, closing}
use Rattle.closing.specs.declared.NextStep.{NextStep}
use Rattle.closing.specs.declared.NextStep.TheVariants.{NoStep, ToBegin, ToAbort}
use Rattle.book.specs.declared.Reading.{Reading}
use Rattle.book.specs.Reading.{reading_of, reading_by}
use Rattle.book.specs.Packing.{Outcome, write_outcome}

-- ---- questions in bytes, and answers in the rules' numbers

pub data Question : Type 0 where
  -- what these bytes are as a number
  number : List ℕ → Question
  -- what these bytes are as a book
  book : List ℕ → Question

pub data Answer : Type 0 where
  -- the value that is read
  reads : ℕ → Answer
  -- refused by this number
  refused : ℕ → Answer
  -- the book's number (0 for accepted), events and place, and what its first saga still owes and does next
  said : ℕ → ℕ → ℕ → ℕ → NextStep → Answer

abbrev pub of_field : Field → Answer
of_field (Ok (v, next)) = reads v
of_field (Err f) = refused (number_of f.refusal)

abbrev pub of_reading : Reading → Answer
of_reading r = said (verdict_number r.answer) r.events r.place (outstanding r.tables r.state 0) (closing r.tables r.state 0)

abbrev pub answer_to : Question → Answer
answer_to (number s) = of_field (number_at (ceiling_of First) s 0)
answer_to (book s) = of_reading (reading_of s)

pub record Case : Type 0 where
  pub question : Question
  pub answer : Answer

abbrev case : Question → Answer → Case
case q a = record { question = q; answer = a }

-- the listing's book
abbrev pub listed : List ℕ
listed =
    0x01 ∷ 0x01 ∷ 0x02 ∷ 0x01 ∷ 0x01 ∷ 0x00 ∷ 0x01 ∷ 0x00 ∷ 0x01 ∷ 0x01 ∷ 0x01 ∷ 0x04 ∷ 0x04 ∷ 0x01 ∷ 0x00 ∷ 0x01 ∷ 0x05 ∷ 0x01 ∷ 0x04 ∷ 0x00 ∷ 0x02 ∷ 0x01
    ∷ 0x03 ∷ 0x00 ∷ []

-- 16 sagas of 2 steps
abbrev sixteen : List ℕ
sixteen = 0x01 ∷ 0x10 ∷ replicate 16 0x02

-- plain 0 and 1, two objects, both active: 0 reads a, 1 reads b, 1 writes a, 0 writes b
abbrev crossed : List ℕ
crossed =
    0x01 ∷ 0x00 ∷ 0x02 ∷ 0x02 ∷ 0x00 ∷ 0x01 ∷ 0x00 ∷ 0x01 ∷ 0x01 ∷ 0x04 ∷ 0x00 ∷ 0x00 ∷ 0x00 ∷ 0x04 ∷ 0x01 ∷ 0x01 ∷ 0x00 ∷ 0x04 ∷ 0x01 ∷ 0x00 ∷ 0x01 ∷ 0x04
    ∷ 0x00 ∷ 0x01 ∷ 0x01 ∷ []

-- 0 writes a
abbrev written : List ℕ
written = 0x01 ∷ 0x00 ∷ 0x02 ∷ 0x01 ∷ 0x00 ∷ 0x01 ∷ 0x00 ∷ 0x01 ∷ 0x01 ∷ 0x04 ∷ 0x00 ∷ 0x00 ∷ 0x01 ∷ []

abbrev pub p_cases : List Case
p_cases =
    -- P1 to P3: numbers
    case (number (0x80 ∷ 0x00 ∷ [])) (refused 3)
    ∷ case (number (0xFF ∷ 0xFF ∷ 0x04 ∷ [])) (refused 3)
    ∷ case (number (0xFF ∷ 0xFF ∷ 0x03 ∷ [])) (reads 65535)
    -- P4: 16 sagas of 2 steps, p 0: taken; with p 1: 5
    ∷ case (book (sixteen ++ (0x00 ∷ 0x00 ∷ 0x00 ∷ []))) (said 0 0 0 0 NoStep)
    ∷ case (book (sixteen ++ (0x01 ∷ 0x00 ∷ 0x00 ∷ []))) (said 5 0 18 0 NoStep)
    -- P5: the listing's book, then begin 3, commit 3: accepted, outstanding 0
    ∷ case (book (listed ++ (0x01 ∷ 0x03 ∷ 0x02 ∷ 0x03 ∷ []))) (said 0 9 0 0 NoStep)
    -- P6: instead begin 2: 13, place 24
    ∷ case (book (listed ++ (0x01 ∷ 0x02 ∷ []))) (said 13 7 24 2 (ToBegin 3))
    -- P7: saga of 1 step, S and T1 active: outstanding 2, closing step abort S
    ∷ case (book (0x01 ∷ 0x01 ∷ 0x01 ∷ 0x00 ∷ 0x00 ∷ 0x00 ∷ 0x01 ∷ 0x00 ∷ 0x01 ∷ 0x01 ∷ [])) (said 0 2 0 2 (ToAbort 0))
    -- P8: crossed, then commit 0: 16
    ∷ case (book (crossed ++ (0x02 ∷ 0x00 ∷ []))) (said 16 6 25 0 NoStep)
    -- P9: after abort 1, commit 0: accepted
    ∷ case (book (crossed ++ (0x03 ∷ 0x01 ∷ 0x02 ∷ 0x00 ∷ []))) (said 0 8 0 0 NoStep)
    -- P10: 0 writes a, 1 reads a, commit 1: 15
    ∷ case (book (written ++ (0x04 ∷ 0x01 ∷ 0x00 ∷ 0x00 ∷ 0x02 ∷ 0x01 ∷ []))) (said 15 4 17 0 NoStep)
    -- P11: if 0 first delegates its write to 1: accepted, whether it does so before 1 reads or only before 1 commits
    ∷ case (book (written ++ (0x05 ∷ 0x00 ∷ 0x01 ∷ 0x00 ∷ 0x04 ∷ 0x01 ∷ 0x00 ∷ 0x00 ∷ 0x02 ∷ 0x01 ∷ []))) (said 0 6 0 0 NoStep)
    ∷ case (book (written ++ (0x04 ∷ 0x01 ∷ 0x00 ∷ 0x00 ∷ 0x05 ∷ 0x00 ∷ 0x01 ∷ 0x00 ∷ 0x02 ∷ 0x01 ∷ []))) (said 0 6 0 0 NoStep)
    -- P12: saga commit with Tn active: 13
    ∷ case (book (0x01 ∷ 0x01 ∷ 0x01 ∷ 0x00 ∷ 0x00 ∷ 0x00 ∷ 0x01 ∷ 0x00 ∷ 0x01 ∷ 0x01 ∷ 0x02 ∷ 0x00 ∷ [])) (said 13 2 10 2 (ToAbort 0))
    ∷ []

-- every case comes out as the table says
abbrev pub PCasesHold : Type 0
PCasesHold = map (λ (c : Case). answer_to c.question) p_cases ≡ map (λ (c : Case). c.answer) p_cases

-- ---- no line of the table of refusals is dead: for each number from 1 to 18, and for 20 to 22, a book that gets it

-- a saga of 2 steps, whose C1 is 3, and plain 4 to 6: 4 reads a; 5 writes a, writes b and commits; 3 reads b and writes c; 4 writes c
abbrev bars_undo : List ℕ
bars_undo = 0x01 ∷ 0x01 ∷ 0x02 ∷ 0x03 ∷ 0x03 ∷ 0x00 ∷ 0x01 ∷ 0x00 ∷ 0x01 ∷ 0x01 ∷ 0x02 ∷ 0x01 ∷ 0x03 ∷ 0x00 ∷ 0x01 ∷ 0x04 ∷ 0x01 ∷ 0x05 ∷ 0x04 ∷ 0x04 ∷ 0x00 ∷ 0x00 ∷ 0x04 ∷ 0x05 ∷ 0x00 ∷ 0x01 ∷ 0x04 ∷ 0x05 ∷ 0x01 ∷ 0x01 ∷ 0x02 ∷ 0x05 ∷ 0x01 ∷ 0x03 ∷ 0x04 ∷ 0x03 ∷ 0x01 ∷ 0x00 ∷ 0x04 ∷ 0x03 ∷ 0x02 ∷ 0x01 ∷ 0x04 ∷ 0x04 ∷ 0x02 ∷ 0x01 ∷ []

-- a plain transaction, one object, no dependencies
abbrev one_plain : List ℕ → List ℕ
one_plain events = 0x01 ∷ 0x00 ∷ 0x01 ∷ 0x01 ∷ 0x00 ∷ events

-- two plain transactions, one object
abbrev two_plain : List ℕ → List ℕ
two_plain events = 0x01 ∷ 0x00 ∷ 0x02 ∷ 0x01 ∷ 0x00 ∷ events

-- two plain transactions, of which 0 begins after 1, and 1 after 0
abbrev waiting : List ℕ
waiting = 0x01 ∷ 0x00 ∷ 0x02 ∷ 0x00 ∷ 0x02 ∷ 0x00 ∷ 0x01 ∷ 0x04 ∷ 0x01 ∷ 0x00 ∷ 0x04 ∷ []

-- the same bytes n times
unfoldable pub times : ℕ → List ℕ → List ℕ
times zero l = []
times (suc n) l = l ++ times n l

abbrev pub refused_books : List (List ℕ)
refused_books =
    -- 2: the empty book
    []
    -- 3: 80 00 for the edition
    ∷ (0x80 ∷ 0x00 ∷ [])
    -- 4: edition 3
    ∷ (0x03 ∷ [])
    -- 5: 17 sagas
    ∷ (0x01 ∷ 0x11 ∷ [])
    -- 6: a transaction depends on itself
    ∷ (0x01 ∷ 0x00 ∷ 0x01 ∷ 0x00 ∷ 0x01 ∷ 0x00 ∷ 0x00 ∷ 0x01 ∷ [])
    -- 7: event code 11
    ∷ one_plain (0x0B ∷ [])
    -- 8: begin of a transaction that is not there
    ∷ one_plain (0x01 ∷ 0x01 ∷ [])
    -- 9: a delegation to itself
    ∷ one_plain (0x01 ∷ 0x00 ∷ 0x04 ∷ 0x00 ∷ 0x00 ∷ 0x00 ∷ 0x05 ∷ 0x00 ∷ 0x00 ∷ 0x00 ∷ [])
    -- 10: begun twice
    ∷ one_plain (0x01 ∷ 0x00 ∷ 0x01 ∷ 0x00 ∷ [])
    -- 11: a commit of one that was not begun
    ∷ one_plain (0x02 ∷ 0x00 ∷ [])
    -- 12: 1 delegates what 0 is responsible for
    ∷ two_plain (0x01 ∷ 0x00 ∷ 0x01 ∷ 0x01 ∷ 0x04 ∷ 0x00 ∷ 0x00 ∷ 0x00 ∷ 0x05 ∷ 0x01 ∷ 0x00 ∷ 0x00 ∷ [])
    -- 13: a step before its saga
    ∷ (0x01 ∷ 0x01 ∷ 0x01 ∷ 0x00 ∷ 0x00 ∷ 0x00 ∷ 0x01 ∷ 0x01 ∷ [])
    -- 14: 1 begins only when 0 is begun
    ∷ (0x01 ∷ 0x00 ∷ 0x02 ∷ 0x00 ∷ 0x01 ∷ 0x01 ∷ 0x00 ∷ 0x04 ∷ 0x01 ∷ 0x01 ∷ [])
    -- 15 and 16: P10 and P8
    ∷ (written ++ (0x04 ∷ 0x01 ∷ 0x00 ∷ 0x00 ∷ 0x02 ∷ 0x01 ∷ []))
    ∷ (crossed ++ (0x02 ∷ 0x00 ∷ []))
    -- 17: after the listing's events 3 is begun, and 4 still holds its write on object 0
    ∷ (listed ++ (0x01 ∷ 0x03 ∷ 0x04 ∷ 0x03 ∷ 0x00 ∷ 0x00 ∷ []))
    -- 18: the 257th operation
    ∷ one_plain (0x01 ∷ 0x00 ∷ times 257 (0x04 ∷ 0x00 ∷ 0x00 ∷ 0x00 ∷ []))
    -- 20: an operation committed alone, and then aborted alone
    ∷ one_plain (0x01 ∷ 0x00 ∷ 0x04 ∷ 0x00 ∷ 0x00 ∷ 0x01 ∷ 0x06 ∷ 0x00 ∷ 0x00 ∷ 0x07 ∷ 0x00 ∷ 0x00 ∷ [])
    -- 21: 0 begins after 1, and 1 after 0
    ∷ waiting
    -- 22: 4 stands before 5, who is done and stands before the undo 3, and now 4 would stand after 3
    ∷ bars_undo
    ∷ []

abbrev pub outcome_number : Outcome → ℕ
outcome_number (Ok n) = 0
outcome_number (Err e) = number_of e.refusal

-- and 19: the fields of a book that declares nothing, written into no room
abbrev pub nothing_declared : List ℕ
nothing_declared = 1 ∷ 0 ∷ 0 ∷ 0 ∷ 0 ∷ []

-- and 1: so many zeros
abbrev pub too_long : List ℕ
too_long = replicate 65537 0

pub record NoLineDead : Type 0 where
  pub by_length : verdict_number (reading_of too_long).answer ≡ 1
  pub by_books : map (λ (s : List ℕ). verdict_number (reading_of s).answer) refused_books
      ≡ 2 ∷ 3 ∷ 4 ∷ 5 ∷ 6 ∷ 7 ∷ 8 ∷ 9 ∷ 10 ∷ 11 ∷ 12 ∷ 13 ∷ 14 ∷ 15 ∷ 16 ∷ 17 ∷ 18 ∷ 20 ∷ 21 ∷ 22 ∷ []
  pub by_writing : outcome_number (write_outcome nothing_declared []) ≡ 19

-- ---- tables that can never move, and tables that can

-- number, events and place
abbrev pub answer_of : Reading → List ℕ
answer_of r = verdict_number r.answer ∷ r.events ∷ r.place ∷ []

pub record CircleCases : Type 0 where
  -- 0 and 1 wait for each other: refused at the dependency count, and read where circles are permitted
  pub refused : answer_of (reading_of waiting) ≡ 21 ∷ 0 ∷ 4 ∷ []
  pub permitted : answer_of (reading_by Permitted First waiting) ≡ 0 ∷ 0 ∷ 0 ∷ []
  -- 0 waits for 1 by kind 5, 1 for 2 by kind 7, and 2 for 0 by kind 6: refused
  pub through_others : answer_of (reading_of (0x01 ∷ 0x00 ∷ 0x03 ∷ 0x00 ∷ 0x03 ∷ 0x00 ∷ 0x01 ∷ 0x05 ∷ 0x01 ∷ 0x02 ∷ 0x07 ∷ 0x02 ∷ 0x00 ∷ 0x06 ∷ [])) ≡ 21 ∷ 0 ∷ 4 ∷ []
  -- 0 begins after 1, and 1 doesn't commit when 0 is aborted, kind 3: accepted
  pub not_by_kind_3 : answer_of (reading_of (0x01 ∷ 0x00 ∷ 0x02 ∷ 0x00 ∷ 0x02 ∷ 0x00 ∷ 0x01 ∷ 0x04 ∷ 0x01 ∷ 0x00 ∷ 0x03 ∷ [])) ≡ 0 ∷ 0 ∷ 0 ∷ []

-- ---- committed changes count for order

pub record OrderCases : Type 0 where
  -- 0 reads a; 1 writes a, writes b and commits; 0 reads b: 0 stands before 1 and after it, and cannot commit
  pub through_committed : answer_of (reading_of (0x01 ∷ 0x00 ∷ 0x02 ∷ 0x02 ∷ 0x00 ∷ 0x01 ∷ 0x00 ∷ 0x01 ∷ 0x01 ∷ 0x04 ∷ 0x00 ∷ 0x00 ∷ 0x00 ∷ 0x04 ∷ 0x01 ∷ 0x00 ∷ 0x01 ∷ 0x04 ∷ 0x01 ∷ 0x01 ∷ 0x01 ∷ 0x02 ∷ 0x01 ∷ 0x04 ∷ 0x00 ∷ 0x01 ∷ 0x00 ∷ 0x02 ∷ 0x00 ∷ [])) ≡ 16 ∷ 7 ∷ 27 ∷ []
  pub bars_undo : answer_of (reading_of bars_undo) ≡ 22 ∷ 13 ∷ 42 ∷ []
  -- S begins, T1 writes and commits, S aborts, C1 begins and writes what T1 wrote: a kept change is not waited for
  pub after_kept : answer_of (reading_of (0x01 ∷ 0x01 ∷ 0x02 ∷ 0x00 ∷ 0x01 ∷ 0x00 ∷ 0x01 ∷ 0x00 ∷ 0x01 ∷ 0x01 ∷ 0x04 ∷ 0x01 ∷ 0x00 ∷ 0x01 ∷ 0x02 ∷ 0x01 ∷ 0x03 ∷ 0x00 ∷ 0x01 ∷ 0x03 ∷ 0x04 ∷ 0x03 ∷ 0x00 ∷ 0x01 ∷ [])) ≡ 0 ∷ 7 ∷ 0 ∷ []
  -- 0 and 1 read a, 1 and 0 read b, 0 commits: reads do not conflict with reads
  pub reads_apart : answer_of (reading_of (0x01 ∷ 0x00 ∷ 0x02 ∷ 0x02 ∷ 0x00 ∷ 0x01 ∷ 0x00 ∷ 0x01 ∷ 0x01 ∷ 0x04 ∷ 0x00 ∷ 0x00 ∷ 0x00 ∷ 0x04 ∷ 0x01 ∷ 0x00 ∷ 0x00 ∷ 0x04 ∷ 0x01 ∷ 0x01 ∷ 0x00 ∷ 0x04 ∷ 0x00 ∷ 0x01 ∷ 0x00 ∷ 0x02 ∷ 0x00 ∷ [])) ≡ 0 ∷ 7 ∷ 0 ∷ []

-- ---- helpers under a clerk

abbrev pub helper_books : List (List ℕ)
helper_books =
    -- a clerk spawns a helper, who writes and commits; the clerk commits
    (0x01 ∷ 0x00 ∷ 0x02 ∷ 0x01 ∷ 0x00 ∷ 0x01 ∷ 0x00 ∷ 0x08 ∷ 0x00 ∷ 0x01 ∷ 0x04 ∷ 0x01 ∷ 0x00 ∷ 0x01 ∷ 0x02 ∷ 0x01 ∷ 0x02 ∷ 0x00 ∷ [])
    -- the clerk commits while the helper is at work
    ∷ (0x01 ∷ 0x00 ∷ 0x02 ∷ 0x01 ∷ 0x00 ∷ 0x01 ∷ 0x00 ∷ 0x08 ∷ 0x00 ∷ 0x01 ∷ 0x04 ∷ 0x01 ∷ 0x00 ∷ 0x01 ∷ 0x02 ∷ 0x00 ∷ [])
    -- the helper commits once the clerk has ended
    ∷ (0x01 ∷ 0x00 ∷ 0x02 ∷ 0x01 ∷ 0x00 ∷ 0x01 ∷ 0x00 ∷ 0x08 ∷ 0x00 ∷ 0x01 ∷ 0x03 ∷ 0x00 ∷ 0x02 ∷ 0x01 ∷ [])
    -- the helper's helper is at work, and its own clerk was broken off: it bars nobody
    ∷ (0x01 ∷ 0x00 ∷ 0x03 ∷ 0x01 ∷ 0x00 ∷ 0x01 ∷ 0x00 ∷ 0x08 ∷ 0x00 ∷ 0x01 ∷ 0x08 ∷ 0x01 ∷ 0x02 ∷ 0x03 ∷ 0x01 ∷ 0x02 ∷ 0x00 ∷ [])
    -- but it can't commit itself any more
    ∷ (0x01 ∷ 0x00 ∷ 0x03 ∷ 0x01 ∷ 0x00 ∷ 0x01 ∷ 0x00 ∷ 0x08 ∷ 0x00 ∷ 0x01 ∷ 0x08 ∷ 0x01 ∷ 0x02 ∷ 0x03 ∷ 0x01 ∷ 0x02 ∷ 0x02 ∷ [])
    -- a helper keeps no single operation
    ∷ (0x01 ∷ 0x00 ∷ 0x02 ∷ 0x01 ∷ 0x00 ∷ 0x01 ∷ 0x00 ∷ 0x08 ∷ 0x00 ∷ 0x01 ∷ 0x04 ∷ 0x01 ∷ 0x00 ∷ 0x01 ∷ 0x06 ∷ 0x01 ∷ 0x00 ∷ [])
    -- it drops one
    ∷ (0x01 ∷ 0x00 ∷ 0x02 ∷ 0x01 ∷ 0x00 ∷ 0x01 ∷ 0x00 ∷ 0x08 ∷ 0x00 ∷ 0x01 ∷ 0x04 ∷ 0x01 ∷ 0x00 ∷ 0x01 ∷ 0x07 ∷ 0x01 ∷ 0x00 ∷ [])
    -- a helper that read what another has not finished commits; its clerk, who answers for the read now, can't
    ∷ (0x01 ∷ 0x00 ∷ 0x03 ∷ 0x01 ∷ 0x00 ∷ 0x01 ∷ 0x02 ∷ 0x04 ∷ 0x02 ∷ 0x00 ∷ 0x01 ∷ 0x01 ∷ 0x00 ∷ 0x08 ∷ 0x00 ∷ 0x01 ∷ 0x04 ∷ 0x01 ∷ 0x00 ∷ 0x00 ∷ 0x02 ∷ 0x01 ∷ 0x02 ∷ 0x00 ∷ [])
    -- a clerk spawns itself: it is at work already
    ∷ (0x01 ∷ 0x00 ∷ 0x02 ∷ 0x01 ∷ 0x00 ∷ 0x01 ∷ 0x00 ∷ 0x08 ∷ 0x00 ∷ 0x00 ∷ [])
    -- one who has not begun spawns
    ∷ (0x01 ∷ 0x00 ∷ 0x02 ∷ 0x01 ∷ 0x00 ∷ 0x08 ∷ 0x00 ∷ 0x01 ∷ [])
    -- a step spawns
    ∷ (0x01 ∷ 0x01 ∷ 0x02 ∷ 0x02 ∷ 0x01 ∷ 0x00 ∷ 0x01 ∷ 0x00 ∷ 0x01 ∷ 0x01 ∷ 0x08 ∷ 0x01 ∷ 0x04 ∷ [])
    -- a step is spawned
    ∷ (0x01 ∷ 0x01 ∷ 0x02 ∷ 0x02 ∷ 0x01 ∷ 0x00 ∷ 0x01 ∷ 0x04 ∷ 0x08 ∷ 0x04 ∷ 0x01 ∷ [])
    -- one who is in no table spawns
    ∷ (0x01 ∷ 0x01 ∷ 0x02 ∷ 0x02 ∷ 0x01 ∷ 0x00 ∷ 0x08 ∷ 0x06 ∷ 0x04 ∷ [])
    -- one who is in no table is spawned
    ∷ (0x01 ∷ 0x01 ∷ 0x02 ∷ 0x02 ∷ 0x01 ∷ 0x00 ∷ 0x01 ∷ 0x04 ∷ 0x08 ∷ 0x04 ∷ 0x06 ∷ [])
    -- the helper is to begin only when another has begun, kind 4
    ∷ (0x01 ∷ 0x00 ∷ 0x03 ∷ 0x01 ∷ 0x01 ∷ 0x01 ∷ 0x02 ∷ 0x04 ∷ 0x01 ∷ 0x00 ∷ 0x08 ∷ 0x00 ∷ 0x01 ∷ [])
    -- the helper is to commit only when another has ended, kind 1
    ∷ (0x01 ∷ 0x00 ∷ 0x03 ∷ 0x01 ∷ 0x01 ∷ 0x01 ∷ 0x02 ∷ 0x01 ∷ 0x01 ∷ 0x00 ∷ 0x08 ∷ 0x00 ∷ 0x01 ∷ 0x02 ∷ 0x01 ∷ [])
    -- a helper that has ended keeps no single operation either
    ∷ (0x01 ∷ 0x00 ∷ 0x02 ∷ 0x01 ∷ 0x00 ∷ 0x01 ∷ 0x00 ∷ 0x08 ∷ 0x00 ∷ 0x01 ∷ 0x04 ∷ 0x01 ∷ 0x00 ∷ 0x01 ∷ 0x02 ∷ 0x01 ∷ 0x06 ∷ 0x01 ∷ 0x00 ∷ [])
    -- a clerk keeps a single change that an undo overwrites; its helper reads the undo's: if it were the clerk's, the undo would stand between
    ∷ (0x01 ∷ 0x01 ∷ 0x02 ∷ 0x02 ∷ 0x01 ∷ 0x00 ∷ 0x01 ∷ 0x00 ∷ 0x01 ∷ 0x01 ∷ 0x02 ∷ 0x01 ∷ 0x03 ∷ 0x00 ∷ 0x01 ∷ 0x04 ∷ 0x04 ∷ 0x04 ∷ 0x00 ∷ 0x01 ∷ 0x06 ∷ 0x04 ∷ 0x00 ∷ 0x01 ∷ 0x03 ∷ 0x04 ∷ 0x03 ∷ 0x00 ∷ 0x01 ∷ 0x08 ∷ 0x04 ∷ 0x05 ∷ 0x04 ∷ 0x05 ∷ 0x00 ∷ 0x00 ∷ 0x02 ∷ 0x05 ∷ [])
    ∷ []

-- a clerk spawns a helper, who writes; the helper commits; the clerk does
abbrev pub helper_writes : List (List ℕ)
helper_writes =
    (0x01 ∷ 0x00 ∷ 0x02 ∷ 0x01 ∷ 0x00 ∷ 0x01 ∷ 0x00 ∷ 0x08 ∷ 0x00 ∷ 0x01 ∷ 0x04 ∷ 0x01 ∷ 0x00 ∷ 0x01 ∷ [])
    ∷ (0x01 ∷ 0x00 ∷ 0x02 ∷ 0x01 ∷ 0x00 ∷ 0x01 ∷ 0x00 ∷ 0x08 ∷ 0x00 ∷ 0x01 ∷ 0x04 ∷ 0x01 ∷ 0x00 ∷ 0x01 ∷ 0x02 ∷ 0x01 ∷ [])
    ∷ (0x01 ∷ 0x00 ∷ 0x02 ∷ 0x01 ∷ 0x00 ∷ 0x01 ∷ 0x00 ∷ 0x08 ∷ 0x00 ∷ 0x01 ∷ 0x04 ∷ 0x01 ∷ 0x00 ∷ 0x01 ∷ 0x02 ∷ 0x01 ∷ 0x02 ∷ 0x00 ∷ [])
    ∷ []

abbrev pub answers_for : Reading → List ℕ
answers_for r = (op_at r.state.ops 0).responsible ∷ cond (is_committed (op_at r.state.ops 0).fate) 1 0 ∷ []

pub record HelperCases : Type 0 where
  pub answers : map (λ (s : List ℕ). answer_of (reading_of s)) helper_books
      ≡ (0 ∷ 5 ∷ 0 ∷ []) ∷ (14 ∷ 3 ∷ 14 ∷ []) ∷ (14 ∷ 3 ∷ 12 ∷ []) ∷ (0 ∷ 5 ∷ 0 ∷ []) ∷ (14 ∷ 4 ∷ 15 ∷ []) ∷ (9 ∷ 3 ∷ 14 ∷ []) ∷ (0 ∷ 4 ∷ 0 ∷ []) ∷ (15 ∷ 6 ∷ 22 ∷ []) ∷ (10 ∷ 1 ∷ 7 ∷ []) ∷ (11 ∷ 0 ∷ 5 ∷ [])
      ∷ (9 ∷ 2 ∷ 10 ∷ []) ∷ (9 ∷ 1 ∷ 8 ∷ []) ∷ (8 ∷ 0 ∷ 6 ∷ []) ∷ (8 ∷ 1 ∷ 8 ∷ []) ∷ (14 ∷ 1 ∷ 10 ∷ []) ∷ (14 ∷ 2 ∷ 13 ∷ []) ∷ (9 ∷ 4 ∷ 16 ∷ []) ∷ (22 ∷ 11 ∷ 36 ∷ []) ∷ []
  -- who answers for the helper's write, and whether it is finished (0 is no): the helper; once it has committed, the clerk; and the clerk keeps it
  pub handed : map (λ (s : List ℕ). answers_for (reading_of s)) helper_writes ≡ (1 ∷ 0 ∷ []) ∷ (0 ∷ 0 ∷ []) ∷ (0 ∷ 1 ∷ []) ∷ []

-- ---- both editions

-- the listing's book in edition 2, with the largest record beside its operation
abbrev pub listed_two : List ℕ
listed_two =
    0x02 ∷ 0x01 ∷ 0x02 ∷ 0x01 ∷ 0x01 ∷ 0x00 ∷ 0x01 ∷ 0x00 ∷ 0x01 ∷ 0x01 ∷ 0x01 ∷ 0x04 ∷ 0x04 ∷ 0x01 ∷ 0x00 ∷ 0x01 ∷ 0xFF ∷ 0xFF ∷ 0x7F ∷ 0x05 ∷ 0x01 ∷ 0x04 ∷ 0x00 ∷ 0x02
    ∷ 0x01 ∷ 0x03 ∷ 0x00 ∷ []

abbrev pub outcome_of : Outcome → List ℕ
outcome_of (Ok n) = 0 ∷ n ∷ []
outcome_of (Err e) = number_of e.refusal ∷ e.events ∷ e.place ∷ []

pub record EditionCases : Type 0 where
  pub accepted : answer_of (reading_of listed_two) ≡ 0 ∷ 7 ∷ 0 ∷ []
  -- editions 0 and 3: 4; the bytes of 70,000 in its place: 3, and not 4; a full third group behind edition 2: 3
  pub no_edition : map (λ (s : List ℕ). answer_of (reading_of s)) ((0x00 ∷ []) ∷ (0x03 ∷ []) ∷ (0xF0 ∷ 0xA2 ∷ 0x04 ∷ []) ∷ (0x02 ∷ 0xFF ∷ 0xFF ∷ 0xFF ∷ []) ∷ [])
      ≡ (4 ∷ 0 ∷ 0 ∷ []) ∷ (4 ∷ 0 ∷ 0 ∷ []) ∷ (3 ∷ 0 ∷ 0 ∷ []) ∷ (3 ∷ 0 ∷ 1 ∷ []) ∷ []
  -- 65,536 sagas: no number of edition 1, and a count out of its range in edition 2
  pub large_count : map (λ (s : List ℕ). answer_of (reading_of s)) ((0x01 ∷ 0x80 ∷ 0x80 ∷ 0x04 ∷ []) ∷ (0x02 ∷ 0x80 ∷ 0x80 ∷ 0x04 ∷ []) ∷ []) ≡ (3 ∷ 0 ∷ 1 ∷ []) ∷ (5 ∷ 0 ∷ 1 ∷ []) ∷ []
  -- an operation of edition 2 without its record is torn
  pub no_record : answer_of (reading_of (0x02 ∷ 0x00 ∷ 0x01 ∷ 0x01 ∷ 0x00 ∷ 0x01 ∷ 0x00 ∷ 0x04 ∷ 0x00 ∷ 0x00 ∷ 0x01 ∷ [])) ≡ 2 ∷ 1 ∷ 11 ∷ []
  -- written: places count in fields, and what three groups cannot say is refused where it stands
  pub written : map (λ (fs : List ℕ). outcome_of (write_outcome fs (replicate 16 0)))
      ((2 ∷ 0 ∷ 1 ∷ 1 ∷ 0 ∷ 1 ∷ 0 ∷ 4 ∷ 0 ∷ 0 ∷ 1 ∷ 2097151 ∷ []) ∷ (2 ∷ 0 ∷ 1 ∷ 1 ∷ 0 ∷ 1 ∷ 0 ∷ 4 ∷ 0 ∷ 0 ∷ 1 ∷ 2097152 ∷ []) ∷ (1 ∷ 0 ∷ 1 ∷ 1 ∷ 0 ∷ 1 ∷ 70000 ∷ []) ∷ (70000 ∷ []) ∷ (4294967295 ∷ []) ∷ [])
      ≡ (0 ∷ 14 ∷ []) ∷ (3 ∷ 1 ∷ 11 ∷ []) ∷ (3 ∷ 0 ∷ 6 ∷ []) ∷ (3 ∷ 0 ∷ 0 ∷ []) ∷ (3 ∷ 0 ∷ 0 ∷ []) ∷ []
