-- What is promised of texts that grow part by part, of numbers in decimal, and of the words of the listing, letter by letter.
use Rattle.std.specs.Prelude.{ℕ, ◌+◌, ◌*◌, ◌-◌, ◌^◌, ◌≤◌, ◌<◌, ◌≡◌, List, [], ◌∷◌, ◌++◌, map, length}
use Rattle.terms.specs.declared.Mark.TheVariants.{Read, Write}
use Rattle.terms.specs.declared.Refusal.TheVariants.{SagaRule}
use Rattle.terms.specs.declared.Verdict.TheVariants.{Accepted, Refused}
use Rattle.number.specs.declared.Edition.{Edition}
use Rattle.number.specs.declared.Edition.TheVariants.{First, Second}
use Rattle.ties.specs.Operations.{op_at}
use Rattle.ties.specs.declared.Operation.{Operation}
use Rattle.ties.specs.declared.Fate.TheVariants.{Aborted as FateAborted, Active as FateActive, Committed as FateCommitted}
use Rattle.rules.specs.declared.Phase.TheVariants.{Aborted, Active, Committed, Idle}
use Rattle.tables.specs.declared.Circles.{Circles}
use Rattle.closing.specs.declared.NextStep.TheVariants.{NoStep, ToAbort, ToBegin, ToCommit}
use Rattle.onward.specs.Onward.{judgement_up_to}
use Rattle.onward.specs.declared.Judgement.{Judgement}
use Rattle.listing.specs.Lines.{fate_word, first_line_by, line_count, line_of, listing_by, listing_of, mark_word, most_listing, operation_line_of, phase_word, saga_line, step_words, transaction_line}
use Rattle.listing.specs.Texts.{most_text, with_all}
use Rattle.listing.specs.Words.{blank, decimal, line_feed, operation_word}

-- what digits say, behind a number that was said before
unfoldable pub value_from : ℕ → List ℕ → ℕ
value_from v [] = v
value_from v (d ∷ ds) = value_from (v * 10 + (d - 48)) ds

pub record TextPromises : Type 0 where
  -- part after part is the same as all at once
  pub parts : (l xs ys : List ℕ) → with_all l (xs ++ ys) ≡ with_all (with_all l xs) ys
  -- as long as all fits, all is there
  pub fits : (l xs : List ℕ) → length l + length xs ≤ most_text → with_all l xs ≡ l ++ xs
  -- a number has at most 20 digits
  pub digits : (n : ℕ) → length (decimal n) ≤ 20
  -- which say that number
  pub value : (n : ℕ) → n < 2 ^ 64 → value_from 0 (decimal n) ≡ n

-- ---- the words, as they are read

pub record Spelled : Type 0 where
  -- 'idle', 'active', 'committed', 'aborted'
  pub phases : map phase_word (Idle ∷ Active ∷ Committed ∷ Aborted ∷ [])
      ≡ (105 ∷ 100 ∷ 108 ∷ 101 ∷ []) ∷ (97 ∷ 99 ∷ 116 ∷ 105 ∷ 118 ∷ 101 ∷ []) ∷ (99 ∷ 111 ∷ 109 ∷ 109 ∷ 105 ∷ 116 ∷ 116 ∷ 101 ∷ 100 ∷ []) ∷ (97 ∷ 98 ∷ 111 ∷ 114 ∷ 116 ∷ 101 ∷ 100 ∷ []) ∷ []
  -- of an operation: 'active', 'committed', 'aborted'
  pub fates : map fate_word (FateActive ∷ FateCommitted ∷ FateAborted ∷ [])
      ≡ (97 ∷ 99 ∷ 116 ∷ 105 ∷ 118 ∷ 101 ∷ []) ∷ (99 ∷ 111 ∷ 109 ∷ 109 ∷ 105 ∷ 116 ∷ 116 ∷ 101 ∷ 100 ∷ []) ∷ (97 ∷ 98 ∷ 111 ∷ 114 ∷ 116 ∷ 101 ∷ 100 ∷ []) ∷ []
  -- 'read', 'write'
  pub marks : map mark_word (Read ∷ Write ∷ []) ≡ (114 ∷ 101 ∷ 97 ∷ 100 ∷ []) ∷ (119 ∷ 114 ∷ 105 ∷ 116 ∷ 101 ∷ []) ∷ []
  -- 'none', 'begin 13', 'commit 0', 'abort 60'
  pub steps : map step_words (NoStep ∷ ToBegin 13 ∷ ToCommit 0 ∷ ToAbort 60 ∷ [])
      ≡ (110 ∷ 111 ∷ 110 ∷ 101 ∷ []) ∷ (98 ∷ 101 ∷ 103 ∷ 105 ∷ 110 ∷ 32 ∷ 49 ∷ 51 ∷ []) ∷ (99 ∷ 111 ∷ 109 ∷ 109 ∷ 105 ∷ 116 ∷ 32 ∷ 48 ∷ []) ∷ (97 ∷ 98 ∷ 111 ∷ 114 ∷ 116 ∷ 32 ∷ 54 ∷ 48 ∷ []) ∷ []
  -- 'book accepted 12' and 'book refused 13 9 30', each with its line feed
  pub accepted : first_line_by Accepted 12 0 ≡ 98 ∷ 111 ∷ 111 ∷ 107 ∷ 32 ∷ 97 ∷ 99 ∷ 99 ∷ 101 ∷ 112 ∷ 116 ∷ 101 ∷ 100 ∷ 32 ∷ 49 ∷ 50 ∷ 10 ∷ []
  pub refused : first_line_by (Refused SagaRule) 9 30 ≡ 98 ∷ 111 ∷ 111 ∷ 107 ∷ 32 ∷ 114 ∷ 101 ∷ 102 ∷ 117 ∷ 115 ∷ 101 ∷ 100 ∷ 32 ∷ 49 ∷ 51 ∷ 32 ∷ 57 ∷ 32 ∷ 51 ∷ 48 ∷ 10 ∷ []

-- ---- the record: the lines of two judgements that have the same answer, tables and state are the same up to the last number of `op` lines

-- the line of an operation but for what edition 2 adds to it; and all of it in edition 1
abbrev pub operation_front : ℕ → Operation → List ℕ
operation_front q op =
    operation_word
    ++ (decimal q ++ (blank ++ (decimal op.object ++ (blank ++ (mark_word op.mark ++ (blank ++ (decimal op.responsible ++ (blank ++ fate_word op.fate))))))))

pub record RecordsLast (r u : Judgement) : Type 0 where
  pub first_edition : (q : ℕ) (op : Operation) (pu : ℕ) → operation_line_of First q op pu ≡ operation_front q op ++ line_feed
  pub second_edition : (q : ℕ) (op : Operation) (pu : ℕ) → operation_line_of Second q op pu ≡ operation_front q op ++ (blank ++ (decimal pu ++ line_feed))
  pub first_line : r.answer ≡ u.answer → r.events ≡ u.events → r.place ≡ u.place → line_of r 0 ≡ line_of u 0
  pub transactions : r.state ≡ u.state → (t : ℕ) → transaction_line r t ≡ transaction_line u t
  pub operations : r.state ≡ u.state → (q : ℕ) → operation_front q (op_at r.state.ops q) ≡ operation_front q (op_at u.state.ops q)
  pub sagas : r.tables ≡ u.tables → r.state ≡ u.state → (i : ℕ) → saga_line r i ≡ saga_line u i
  -- and as many of each
  pub count : r.tables ≡ u.tables → r.state ≡ u.state → line_count r ≡ line_count u

abbrev pub RecordsEndLines : Type 0
RecordsEndLines = (r u : Judgement) → RecordsLast r u

-- ---- a room of this size holds every listing, in both ways

pub record ListingFits (circles : Circles) (ed : Edition) (s : List ℕ) : Type 0 where
  pub read_on : length (listing_by circles ed s) ≤ most_listing
  pub to_first_refusal : length (listing_of (judgement_up_to circles s) []) ≤ most_listing

abbrev pub ListingsFit : Type 0
ListingsFit = (circles : Circles) (ed : Edition) (s : List ℕ) → ListingFits circles ed s
