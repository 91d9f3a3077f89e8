-- The numbers of each answer, from what the functions below answered.
use Prim.Native.Nat.{ℕ, zero, suc, ◌/◌, ◌≤◌}
use native.Mathlib.Omega.{arith}
use mathlib.Core.Path.{◌≡◌, refl, sym, ap, ap₂, ◌∙◌}
use mathlib.Core.Bool.{true, false}
use mathlib.Core.List.{List, []}
use lib.ListN.{get_or, length, take, length-take, drop_of_length-le}
use Rattle.std.specs.Prelude.{Option, Result, Ok, Err}
use Rattle.laws.proofs.Bools.{bool_cases}
use Rattle.terms.specs.Refusals.{verdict_number}
use Rattle.packing.specs.Fields.{encodes, fields_before}
use Rattle.replay.specs.Replay.{order_of, copy_answer}
use Rattle.book.specs.Packing.{Outcome, unpack_outcome, write_outcome, written_room}
use Rattle.book.specs.declared.Reading.{Reading}
use Rattle.book.specs.declared.Refused.{Refused}
use Rattle.book.proofs.PackingLaws.{wrote-all}
use Rattle.tables.specs.Reading.{edition_of}
use Rattle.tables.specs.declared.Circles.{Circles}
use Rattle.onward.specs.Onward.{fitting, flat, judgement_by, judgement_up_to, listed_in, refused_by}
use Rattle.onward.specs.declared.Judgement.{Judgement}
use Rattle.onward.specs.declared.No.{No}
use Rattle.listing.specs.Lines.{listed, listing_by, listing_of, place_answer}
use Rattle.listing.specs.Texts.{put_answer}
use Rattle.listing.specs.declared.NotPlaced.{NotPlaced}
use Rattle.listing.proofs.WholeLaws.{all_listed}
use Rattle.desk.specs.Ways.{circles_in, judged, reads_on}
use Rattle.desk.specs.Desk.{Desk, DeskStands, counts_by, counts_of}
use Rattle.desk.specs.Questions.{saga_numbers}
use Rattle.desk.proofs.WayLaws.{judged-on, judged-to}
use Rattle.left.specs.Left.{left_in}
use Rattle.sagalib.specs.Numbers.{reading, refused_in, four, read_numbers, outcome_numbers, unpack_numbers, write_numbers, line_outcome, listing_in, listing_outcome, listing_numbers, order_outcome, replay_numbers, next_numbers, desk_order, desk_line}

-- ---- one of the ways of reading, and what rests on it

take_none : (n : ℕ) → ◌≡◌ {A = List No} (take n []) []
take_none zero = refl
take_none (suc n) = refl

-- of no events none fit a list
none-fit : (skip room : ℕ) → fitting skip room [] ≡ []
none-fit skip room = ap (take (room / 2)) (drop_of_length-le {A = No} [] {i = skip} (omega arith)) ∙ take_none (room / 2)

refused-to : (way : ℕ) (s : List ℕ) → reads_on way ≡ false → refused_in way s ≡ []
unfolding refused_in
refused-to way s to = rw to

-- a reading to the first refusal passes over none
pub none_refused : (way : ℕ) (s : List ℕ) → reads_on way ≡ false → (skip : ℕ) (list : List ℕ)
    → (0 ≡ length (fitting skip (length list) (refused_in way s))) × (list ≡ listed_in list (fitting skip (length list) (refused_in way s)))
unfolding flat
none_refused way s to skip list =
    let none = ap (fitting skip (length list)) (refused-to way s to) ∙ none-fit skip (length list) in
    (ap length (sym none), ap (listed_in list) (sym none))

module _ (way : ℕ) (s : List ℕ) (circles : Circles) (c : circles ≡ circles_in way) where
  -- on past refused events
  module _ (on : reads_on way ≡ true) where
    pub refused-on : refused_by circles (edition_of s) s ≡ refused_in way s
    unfolding refused_in
    refused-on = rw (on, c)

    listing-on : listing_by circles (edition_of s) s ≡ listing_in way s
    unfolding listing_in
    listing-on = ap₂ listing_of (judged-on way s circles c on) refused-on

  -- to the first refusal
  module _ (to : reads_on way ≡ false) where
    listing-to : listing_of (judgement_up_to circles s) [] ≡ listing_in way s
    unfolding listing_in
    listing-to = ap₂ listing_of (judged-to way s circles c to) (sym (refused-to way s to))

  -- the listing lists as many refused events as the judgement counts
  pub listing-told : listing_of (judged way s) (listed (judged way s) circles s) ≡ listing_in way s
  unfolding judgement_up_to
  listing-told =
      bool_cases (reads_on way)
      (λ on.
      ap (λ (r : Judgement). listing_of r (listed r circles s)) (sym (judged-on way s circles c on))
      ∙ ap (listing_of (judgement_by circles (edition_of s) s)) (all_listed circles (edition_of s) s) ∙ listing-on on)
      (λ to. ap (λ (r : Judgement). listing_of r (listed r circles s)) (sym (judged-to way s circles c to)) ∙ listing-to to)

module _ (way : ℕ) (s : List ℕ) (r : Judgement) (read : r ≡ judged way s) where
  pub read_is : (number : ℕ) → number ≡ verdict_number r.answer → four number r.events r.place r.refused ≡ read_numbers way s
  unfolding read_numbers
  read_is number e = rw (e, read)

  pub listing-is : (room : List ℕ) (put : Option ℕ) → put ≡ put_answer (listing_in way s) room → (o : Outcome) → o ≡ listing_outcome r.events put
      → (l : List ℕ) → l ≡ outcome_numbers r.events o → l ≡ listing_numbers way s room
  unfolding listing_numbers
  listing-is room put p o q l e = rw (e, q, p, read)

  pub replay-is : (room : List ℕ) (copied : Option ℕ) → copied ≡ copy_answer (order_of r.state.ops) room → (o : Outcome) → o ≡ order_outcome r.events copied
      → (l : List ℕ) → l ≡ outcome_numbers r.events o → l ≡ replay_numbers way s room
  unfolding replay_numbers
  replay-is room copied p o q l e = rw (e, q, p, read)

  pub next-is : (saga : ℕ) (l : List ℕ) → l ≡ saga_numbers r.tables r.state saga → l ≡ next_numbers way s saga
  next-is saga l e = e ∙ ap (λ (x : Judgement). saga_numbers x.tables x.state saga) read

-- ---- from a desk

module _ (j : Judgement) (d : Desk) (st : DeskStands j d) where
  counts-are : d.counts ≡ counts_by j (left_in j.tables j.state)
  unfolding counts_of
  counts-are = st.counts

  events-are : get_or d.counts 1 0 ≡ j.events
  events-are = ap (λ (l : List ℕ). get_or l 1 0) counts-are

  -- the answer of an opening stands in its counts
  pub opened-is : (way : ℕ) (s : List ℕ) → j ≡ judged way s
      → four (get_or d.counts 4 0) (get_or d.counts 1 0) (get_or d.counts 5 0) (get_or d.counts 2 0) ≡ read_numbers way s
  unfolding read_numbers
  opened-is way s e = rw (counts-are, e)

  pub order_is : (room : List ℕ) (copied : Option ℕ) → copied ≡ copy_answer (order_of j.state.ops) room → (o : Outcome) → o ≡ order_outcome (get_or d.counts 1 0) copied
      → (l : List ℕ) → l ≡ outcome_numbers (get_or d.counts 1 0) o → l ≡ desk_order j room
  unfolding desk_order
  order_is room copied p o q l e = rw (e, q, p, events-are)

  pub line_is : (k : ℕ) (room : List ℕ) (placed : Result ℕ NotPlaced) → placed ≡ place_answer j k room → (o : Outcome) → o ≡ line_outcome (get_or d.counts 1 0) placed
      → (l : List ℕ) → l ≡ outcome_numbers (get_or d.counts 1 0) o → l ≡ desk_line j k room
  unfolding desk_line
  line_is k room placed p o q l e = rw (e, q, p, events-are)

-- ---- unpacking

module _ (s : List ℕ) (r : Reading) (read : r ≡ reading s) where
  pub unpack-is : (room : List ℕ) (o : Outcome) → o ≡ unpack_outcome s room → (l : List ℕ) → l ≡ outcome_numbers r.events o
      → l ≡ unpack_numbers s room
  unfolding unpack_numbers
  unpack-is room o q l e = rw (e, q, read)

-- ---- writing

module _ (fs room : List ℕ) (o : Outcome) (told : o ≡ write_outcome fs room) where
  -- a refusal says by itself how many events it came after
  pub refused-is : (f : Refused) → o ≡ Err f → (events : ℕ) (l : List ℕ) → l ≡ outcome_numbers events o
      → l ≡ write_numbers fs room
  unfolding write_numbers
  refused-is f q events l e = rw (e, q, sym told ∙ q)

  module _ (n : ℕ) (q : o ≡ Ok n) (after : List ℕ) (left : after ≡ written_room fs room) where
    -- what was written is the whole book, at the front of the room
    wrote : (n ≡ length (encodes fs)) × (take n after ≡ encodes fs)
    unfolding write_outcome written_room
    wrote =
        let all = wrote-all (reading (encodes fs)).answer (reading (encodes fs)).events (fields_before fs (reading (encodes fs)).place) (encodes fs) room n
        (sym told ∙ q) in
        (all.1, ap (take n) left ∙ all.2)

    pub wrote-inside : n ≤ length after
    wrote-inside = omega (arith, wrote.0, sym (length-take n after) ∙ ap length wrote.1)

    -- so reading it back tells its events
    pub wrote-is : (r : Reading) → r ≡ reading (take n after) → (l : List ℕ) → l ≡ outcome_numbers r.events (Ok n) → l ≡ write_numbers fs room
    unfolding write_numbers
    wrote-is r read l e = rw (e, read, wrote.1, sym told ∙ q)
