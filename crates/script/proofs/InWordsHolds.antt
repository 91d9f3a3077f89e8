-- Fields in the order of a book are shown in words.
use mathlib.Core.Path.{◌≡◌, refl, ap}
use mathlib.Core.List.{List, [], ◌∷◌, ◌++◌, append-nil, append_assoc}
use Prim.Native.Nat.{ℕ, zero, suc, ◌≤◌}
use native.Mathlib.Omega.{arith}
use lib.ListN.{length, drop}
use Rattle.terms.specs.declared.Event.{Event}
use Rattle.terms.specs.declared.Event.TheVariants.{Begin, Commit, Abort, Operation as Invoke, Delegate, CommitOne, AbortOne, Spawn}
use Rattle.terms.specs.declared.Mark.TheVariants.{Read, Write}
use Rattle.number.specs.Number.{edition_number}
use Rattle.number.specs.declared.Edition as Numbers
use Rattle.number.specs.declared.Edition.TheVariants.{First, Second}
use Rattle.plan.specs.Lines.{lines_of}
use Rattle.tables.specs.Dependencies.{kind_number}
use Rattle.tables.specs.Written.{entries_fields}
use Rattle.tables.specs.declared.Dependency.{Dependency}
use Rattle.items.specs.Items.{Noted, events_fields, fields_of_event}
use Rattle.listing.specs.Words.{decimal, line_feed}
use Rattle.script.specs.declared.Due.{Due}
use Rattle.script.specs.declared.Stage.{Stage}
use Rattle.script.specs.declared.Stage.TheVariants.{Sagas, Steps, Plain, Objects, Dependencies, Entries, Events}
use Rattle.script.specs.Forms.{table, forms, sign_of, allows, loose_letter, takes, is_own, count_of, fits, piece_of, shown, form_for}
use Rattle.script.specs.Stages.{first_due, counted_due, due_after}
use Rattle.script.specs.Scripts.{form_due, text_from, book_text}
use Rattle.script.specs.InWords.{edition_word, sagas_word, steps_word, plain_word, objects_word, dependencies_word, count, steps_text, entry_line, entries_text, event_line, events_text, InWords}

-- the text of these fields, where this is due
Says : Due → List ℕ → List ℕ → Type 0
Says due fs t = (k : ℕ) → length fs ≤ k → text_from k due fs ≡ t

none-says : (due : Due) → Says due [] []
unfolding Says text_from
none-says due zero h = refl
none-says due (suc k) h = refl

-- a line, and what follows it
line-says : (due next : Due) (v : ℕ) (rest left x t : List ℕ)
    → shown (form_due due (v ∷ rest)) (v ∷ rest) ≡ x
    → due_after due (allows (form_due due (v ∷ rest)) loose_letter) v ≡ next
    → drop (count_of (form_due due (v ∷ rest))) (v ∷ rest) ≡ left
    → length left ≤ length rest
    → Says next left t
    → Says due (v ∷ rest) ((x ++ line_feed) ++ t)
unfolding Says text_from
line-says due next v rest left x t p q r l h zero n = absurd (omega arith)
line-says due next v rest left x t p q r l h (suc k) n = rw (p, q, r) (ap ((x ++ line_feed) ++◌) (h k (omega arith)))

abbrev at : Numbers.Edition → Stage → ℕ → Due
at ed stage left = record { stage = stage; left = left; edition = ed }

-- ---- events

event-says : (ed : Numbers.Edition) (e : Event) (r : ℕ) (rest t : List ℕ) → Says (at ed Events 0) rest t
    → Says (at ed Events 0) (fields_of_event ed e r ++ rest) ((event_line ed e r ++ line_feed) ++ t)
unfolding forms table lines_of form_for allows fits is_own takes sign_of shown piece_of count_of due_after
event-says First (Begin a) r rest t h = line-says _ _ _ _ _ (event_line First (Begin a) r) t (rw (append-nil (decimal a))) refl refl (omega arith) h
event-says First (Commit a) r rest t h = line-says _ _ _ _ _ (event_line First (Commit a) r) t (rw (append-nil (decimal a))) refl refl (omega arith) h
event-says First (Abort a) r rest t h = line-says _ _ _ _ _ (event_line First (Abort a) r) t (rw (append-nil (decimal a))) refl refl (omega arith) h
event-says First (Invoke a b Read) r rest t h = line-says _ _ _ _ _ (event_line First (Invoke a b Read) r) t (rw (append-nil (decimal b))) refl refl (omega arith) h
event-says First (Invoke a b Write) r rest t h = line-says _ _ _ _ _ (event_line First (Invoke a b Write) r) t (rw (append-nil (decimal b))) refl refl (omega arith) h
event-says First (Delegate a b c) r rest t h = line-says _ _ _ _ _ (event_line First (Delegate a b c) r) t (rw (append-nil (decimal c))) refl refl (omega arith) h
event-says First (CommitOne a b) r rest t h = line-says _ _ _ _ _ (event_line First (CommitOne a b) r) t (rw (append-nil (decimal b))) refl refl (omega arith) h
event-says First (AbortOne a b) r rest t h = line-says _ _ _ _ _ (event_line First (AbortOne a b) r) t (rw (append-nil (decimal b))) refl refl (omega arith) h
event-says First (Spawn a b) r rest t h = line-says _ _ _ _ _ (event_line First (Spawn a b) r) t (rw (append-nil (decimal b))) refl refl (omega arith) h
event-says Second (Begin a) r rest t h = line-says _ _ _ _ _ (event_line Second (Begin a) r) t (rw (append-nil (decimal a))) refl refl (omega arith) h
event-says Second (Commit a) r rest t h = line-says _ _ _ _ _ (event_line Second (Commit a) r) t (rw (append-nil (decimal a))) refl refl (omega arith) h
event-says Second (Abort a) r rest t h = line-says _ _ _ _ _ (event_line Second (Abort a) r) t (rw (append-nil (decimal a))) refl refl (omega arith) h
event-says Second (Invoke a b Read) r rest t h = line-says _ _ _ _ _ (event_line Second (Invoke a b Read) r) t (rw (append-nil (decimal r))) refl refl (omega arith) h
event-says Second (Invoke a b Write) r rest t h = line-says _ _ _ _ _ (event_line Second (Invoke a b Write) r) t (rw (append-nil (decimal r))) refl refl (omega arith) h
event-says Second (Delegate a b c) r rest t h = line-says _ _ _ _ _ (event_line Second (Delegate a b c) r) t (rw (append-nil (decimal c))) refl refl (omega arith) h
event-says Second (CommitOne a b) r rest t h = line-says _ _ _ _ _ (event_line Second (CommitOne a b) r) t (rw (append-nil (decimal b))) refl refl (omega arith) h
event-says Second (AbortOne a b) r rest t h = line-says _ _ _ _ _ (event_line Second (AbortOne a b) r) t (rw (append-nil (decimal b))) refl refl (omega arith) h
event-says Second (Spawn a b) r rest t h = line-says _ _ _ _ _ (event_line Second (Spawn a b) r) t (rw (append-nil (decimal b))) refl refl (omega arith) h

events-say : (ed : Numbers.Edition) (xs : List Noted) → Says (at ed Events 0) (events_fields ed xs) (events_text ed xs)
unfolding events_fields events_text
events-say ed [] = none-says (at ed Events 0)
events-say ed (x ∷ xs) = event-says ed x.event x.pupil (events_fields ed xs) (events_text ed xs) (events-say ed xs)

-- ---- tables

module _ (ed : Numbers.Edition) (rest t : List ℕ) where
  -- the entries that are left, and the events behind them
  entry-says : (x : Dependency) (more : List ℕ) (u : List ℕ) (next : Due) (left : ℕ) → counted_due (at ed Entries left) left Entries Events ≡ next → Says next more u
      → Says (at ed Entries left) (x.dependent ∷ x.base ∷ kind_number x.kind ∷ more) ((entry_line x ++ line_feed) ++ u)
  unfolding forms table lines_of form_for allows fits is_own takes sign_of shown piece_of count_of due_after
  entry-says x more u next left e h = line-says _ _ _ _ _ (entry_line x) u (rw (append-nil (decimal (kind_number x.kind)))) e refl (omega arith) h

  entries-say : (x : Dependency) (xs : List Dependency) → Says (at ed Events 0) rest t
      → Says (at ed Entries (length xs)) (entries_fields (x ∷ xs) ++ rest) (entries_text (x ∷ xs) ++ t)
  unfolding entries_fields entries_text
  entries-say x [] h = rw (append_assoc (entry_line x ++ line_feed) [] t) (entry-says x rest t (at ed Events 0) 0 refl h)
  entries-say x (y ∷ xs) h =
      rw (append_assoc (entry_line x ++ line_feed) (entries_text (y ∷ xs)) t)
      (entry-says x (entries_fields (y ∷ xs) ++ rest) (entries_text (y ∷ xs) ++ t) (at ed Entries (length xs)) (length (y ∷ xs)) refl (entries-say y xs h))

  step_says : (n : ℕ) (more : List ℕ) (u : List ℕ) (next : Due) (left : ℕ) → counted_due (at ed Steps left) left Steps Plain ≡ next → Says next more u
      → Says (at ed Steps left) (n ∷ more) ((count steps_word n ++ line_feed) ++ u)
  unfolding forms table lines_of form_for allows fits is_own takes sign_of shown piece_of count_of due_after
  step_says n more u next left e h = line-says _ _ _ _ _ (count steps_word n) u (rw (append-nil (decimal n))) e refl (omega arith) h

  steps-say : (n : ℕ) (ns : List ℕ) → Says (at ed Plain 0) rest t → Says (at ed Steps (length ns)) ((n ∷ ns) ++ rest) (steps_text (n ∷ ns) ++ t)
  unfolding steps_text
  steps-say n [] h = rw (append_assoc (count steps_word n ++ line_feed) [] t) (step_says n rest t (at ed Plain 0) 0 refl h)
  steps-say n (m ∷ ns) h =
      rw (append_assoc (count steps_word n ++ line_feed) (steps_text (m ∷ ns)) t)
      (step_says n ((m ∷ ns) ++ rest) (steps_text (m ∷ ns) ++ t) (at ed Steps (length ns)) (length (m ∷ ns)) refl (steps-say m ns h))

  plain-says : (n : ℕ) → Says (at ed Objects 0) rest t → Says (at ed Plain 0) (n ∷ rest) ((count plain_word n ++ line_feed) ++ t)
  unfolding forms table lines_of form_for allows fits is_own takes sign_of shown piece_of count_of due_after
  plain-says n h = line-says _ _ _ _ _ (count plain_word n) t (rw (append-nil (decimal n))) refl refl (omega arith) h

  objects-say : (n : ℕ) → Says (at ed Dependencies 0) rest t → Says (at ed Objects 0) (n ∷ rest) ((count objects_word n ++ line_feed) ++ t)
  unfolding forms table lines_of form_for allows fits is_own takes sign_of shown piece_of count_of due_after
  objects-say n h = line-says _ _ _ _ _ (count objects_word n) t (rw (append-nil (decimal n))) refl refl (omega arith) h

  dependencies-say : (n : ℕ) → Says (counted_due (at ed Dependencies 0) n Entries Events) rest t → Says (at ed Dependencies 0) (n ∷ rest) ((count dependencies_word n ++ line_feed) ++ t)
  unfolding forms table lines_of form_for allows fits is_own takes sign_of shown piece_of count_of due_after
  dependencies-say n h = line-says _ _ _ _ _ (count dependencies_word n) t (rw (append-nil (decimal n))) refl refl (omega arith) h

  sagas-say : (n : ℕ) → Says (counted_due (at ed Sagas 0) n Steps Plain) rest t → Says (at ed Sagas 0) (n ∷ rest) ((count sagas_word n ++ line_feed) ++ t)
  unfolding forms table lines_of form_for allows fits is_own takes sign_of shown piece_of count_of due_after
  sagas-say n h = line-says _ _ _ _ _ (count sagas_word n) t (rw (append-nil (decimal n))) refl refl (omega arith) h

edition-says : (ed : Numbers.Edition) (rest t : List ℕ) → Says (at ed Sagas 0) rest t → Says first_due (edition_number ed ∷ rest) ((count edition_word (edition_number ed) ++ line_feed) ++ t)
unfolding forms table lines_of form_for allows fits is_own takes sign_of shown piece_of count_of due_after
edition-says First rest t h = line-says _ _ _ _ _ (count edition_word 1) t (rw (append-nil (decimal 1))) refl refl (omega arith) h
edition-says Second rest t h = line-says _ _ _ _ _ (count edition_word 2) t (rw (append-nil (decimal 2))) refl refl (omega arith) h

-- all sagas, or none; all entries, or none
all-steps : (ed : Numbers.Edition) (ns rest t : List ℕ) → Says (at ed Plain 0) rest t → Says (counted_due (at ed Sagas 0) (length ns) Steps Plain) (ns ++ rest) (steps_text ns ++ t)
unfolding steps_text
all-steps ed [] rest t h = h
all-steps ed (n ∷ ns) rest t h = steps-say ed rest t n ns h

all-entries : (ed : Numbers.Edition) (xs : List Dependency) (rest t : List ℕ) → Says (at ed Events 0) rest t
    → Says (counted_due (at ed Dependencies 0) (length xs) Entries Events) (entries_fields xs ++ rest) (entries_text xs ++ t)
unfolding entries_fields entries_text
all-entries ed [] rest t h = h
all-entries ed (x ∷ xs) rest t h = entries-say ed rest t x xs h

pub in_words : InWords
unfolding book_text Says
in_words ed sagas plain objects entries events =
    edition-says ed _ _
    (sagas-say ed _ _ (length sagas)
    (all-steps ed sagas _ _
    (plain-says ed _ _ plain
    (objects-say ed _ _ objects
    (dependencies-say ed _ _ (length entries)
    (all-entries ed entries _ _ (events-say ed events)))))))
    _ (omega arith)
