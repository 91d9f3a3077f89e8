-- What is promised of a desk: asking and taking give what reading the book with that event behind it gives, on past refused events and to the first refusal.
use Rattle.std.specs.Prelude.{ℕ, ◌+◌, ◌≤◌, ◌<◌, ◌≡◌, ◌↔◌, List, [], ◌∷◌, ◌++◌, get_or, length, take, Err}
use Rattle.terms.specs.Limits.{most_bytes}
use Rattle.terms.specs.Refusals.{verdict_number}
use Rattle.terms.specs.declared.Event.{Event}
use Rattle.terms.specs.declared.Refusal.{Refusal}
use Rattle.terms.specs.declared.Refusal.TheVariants.{NotInTables}
use Rattle.terms.specs.declared.Verdict.TheVariants.{Accepted, Refused}
use Rattle.number.specs.Number.{ceiling_of}
use Rattle.number.specs.declared.Edition.{Edition}
use Rattle.packing.specs.Fields.{encodes}
use Rattle.packing.specs.Promises.{Under}
use Rattle.items.specs.Items.{event_fields, fields_of_event, item_at, Noted, record_in}
use Rattle.items.specs.declared.Item.{Item}
use Rattle.items.specs.declared.Item.TheVariants.{BadMark, Takes}
use Rattle.tables.specs.Reading.{edition_of}
use Rattle.tables.specs.declared.Circles.{Circles}
use Rattle.judge.specs.Judge.{judged}
use Rattle.closing.specs.Closing.{outstanding}
use Rattle.onward.specs.Onward.{judgement_by, judgement_up_to, no_by, refused_by}
use Rattle.onward.specs.declared.Judgement.{Judgement}
use Rattle.desk.specs.Desk.{Desk, DeskStands, Named, asked_by, named_by, says, taken_by}
use Rattle.desk.specs.Questions.{saga_numbers}
use Rattle.desk.specs.declared.Unnamed.TheVariants.{NoMark}

-- ---- an event is named by its own fields, and by no others

-- by its code and what follows it, its record among them where it has one
abbrev pub NamesFields : Type 0
NamesFields = (ed : Edition) (code a b c d : ℕ) (e : Event) (pu : ℕ)
    → (named_by ed code a b c d ≡ says e pu)
    ↔ ((take (length (fields_of_event ed e pu)) (code ∷ a ∷ b ∷ c ∷ d ∷ []) ≡ fields_of_event ed e pu) × ((record_in ed e pu ≡ pu) × (pu ≤ ceiling_of ed)))

-- ---- one item behind a book

-- the bytes x are one item, which starts where the book s ends and ends where they end
abbrev pub OneBehind : Edition → List ℕ → List ℕ → Item → Type 0
OneBehind ed s x item = item_at ed (s ++ x) (length s) ≡ item

-- an event with its record
abbrev pub EventBehind : Edition → List ℕ → List ℕ → Event → ℕ → Type 0
EventBehind ed s x e pu = OneBehind ed s x (Takes e pu (length (s ++ x)))

abbrev pub MarkBehind : Edition → List ℕ → List ℕ → Type 0
MarkBehind ed s x = OneBehind ed s x (BadMark (length (s ++ x)))

-- a refusal that ends the reading, at this place
abbrev pub ended_by : Refusal → ℕ → Judgement → Judgement
ended_by r place j =
    record {
      answer = Refused r;
      events = j.events;
      refused = j.refused;
      place = place;
      edition = j.edition;
      tables = j.tables;
      state = j.state;
      records = j.records;
    }

-- a book that is read to its end, on past refused events, with x behind it
pub record ReadsOnBehind (circles : Circles) (ed : Edition) (s x : List ℕ) : Type 0 where
  -- reading both is reading the book and taking the event
  pub event : (e : Event) (pu : ℕ) → EventBehind ed s x e pu → judgement_by circles ed (s ++ x) ≡ taken_by (judgement_by circles ed s) (says e pu)
  -- and its refusal, which is what asking answers, is listed behind the book's own
  pub listed : (e : Event) (pu : ℕ) → EventBehind ed s x e pu
      → refused_by circles ed (s ++ x)
      ≡ refused_by circles ed s
      ++ no_by (judged (judgement_by circles ed s).tables (judgement_by circles ed s).state e).verdict ((judgement_by circles ed s).events + (judgement_by circles ed s).refused) []
  pub asked : (e : Event) (pu : ℕ)
      → asked_by (judgement_by circles ed s) (says e pu) ≡ verdict_number (judged (judgement_by circles ed s).tables (judgement_by circles ed s).state e).verdict
  -- the same of one whose mark is none
  pub bad_mark : MarkBehind ed s x → judgement_by circles ed (s ++ x) ≡ taken_by (judgement_by circles ed s) (Err NoMark)

-- a book that is accepted whole in the old way, with x behind it
pub record ReadsToBehind (circles : Circles) (s x : List ℕ) : Type 0 where
  -- an accepted event is taken
  pub accepted : (e : Event) (pu : ℕ) → EventBehind (edition_of s) s x e pu → (judged (judgement_up_to circles s).tables (judgement_up_to circles s).state e).verdict ≡ Accepted
      → judgement_up_to circles (s ++ x) ≡ taken_by (judgement_up_to circles s) (says e pu)
  -- a refused one ends the reading, at its own place and with nothing changed
  pub refused : (e : Event) (pu : ℕ) (r : Refusal) → EventBehind (edition_of s) s x e pu
      → (judged (judgement_up_to circles s).tables (judgement_up_to circles s).state e).verdict ≡ Refused r
      → judgement_up_to circles (s ++ x) ≡ ended_by r (length s) (judgement_up_to circles s)
  -- and what asking answers is the answer of reading both
  pub asked : (e : Event) (pu : ℕ) → EventBehind (edition_of s) s x e pu
      → asked_by (judgement_up_to circles s) (says e pu) ≡ verdict_number (judgement_up_to circles (s ++ x)).answer
  -- the same of one whose mark is none
  pub bad_mark : MarkBehind (edition_of s) s x → judgement_up_to circles (s ++ x) ≡ ended_by NotInTables (length s) (judgement_up_to circles s)

-- ---- what is to be done next for a saga, asked and taken

-- what the saga's numbers name
abbrev pub next_named : Judgement → ℕ → Named
next_named j i = named_by j.edition (get_or (saga_numbers j.tables j.state i) 0 0) (get_or (saga_numbers j.tables j.state i) 1 0) 0 0 0

pub record NextTaken (j : Judgement) (i : ℕ) : Type 0 where
  -- it is accepted
  pub accepted : asked_by j (next_named j i) ≡ 0
  -- and taking it leaves one less
  pub less : outstanding (taken_by j (next_named j i)).tables (taken_by j (next_named j i)).state i + 1 ≡ outstanding j.tables j.state i

-- for every desk that stands for a reading without a refusal, and every saga that owes something
abbrev pub NextAccepted : Type 0
NextAccepted = (j : Judgement) (d : Desk) → DeskStands j d → j.answer ≡ Accepted → (i : ℕ) → 0 < outstanding j.tables j.state i → NextTaken j i

-- ---- all of it

pub record TakingReads : Type 0 where
  pub names : NamesFields
  -- the bytes of an event's fields are that event, with its record, behind any book
  pub bytes : (ed : Edition) (s : List ℕ) (x : Noted) → record_in ed x.event x.pupil ≡ x.pupil → Under (ceiling_of ed) (event_fields ed x)
      → EventBehind ed s (encodes (event_fields ed x)) x.event x.pupil
  pub on : (circles : Circles) (ed : Edition) (s x : List ℕ) → length (s ++ x) ≤ most_bytes → (judgement_by circles ed s).answer ≡ Accepted → ReadsOnBehind circles ed s x
  pub to : (circles : Circles) (s x : List ℕ) → length (s ++ x) ≤ most_bytes → (judgement_up_to circles s).answer ≡ Accepted → ReadsToBehind circles s x
