-- The text of a book in words, by what stands in the book (docs/RULES.md, 1 The book): a line for each count of the tables, each saga, each dependency and each event.
use Rattle.std.specs.Prelude.{ℕ, ◌≡◌, List, [], ◌∷◌, ◌++◌, length}
use Rattle.terms.specs.declared.Event.{Event}
use Rattle.terms.specs.declared.Event.TheVariants.{Begin, Commit, Abort, Operation as Invoke, Delegate, CommitOne, AbortOne, Spawn}
use Rattle.number.specs.Number.{edition_number}
use Rattle.number.specs.declared.Edition.{Edition}
use Rattle.number.specs.declared.Edition.TheVariants.{First, Second}
use Rattle.tables.specs.Dependencies.{kind_number}
use Rattle.tables.specs.Written.{entries_fields}
use Rattle.tables.specs.declared.Dependency.{Dependency}
use Rattle.items.specs.Items.{Noted, events_fields}
use Rattle.listing.specs.Words.{decimal, line_feed, begin_word, commit_word, abort_word, blank}
use Rattle.listing.specs.Lines.{mark_word}
use Rattle.script.specs.Scripts.{book_text}

-- 'edition '
abbrev pub edition_word : List ℕ
edition_word = 101 ∷ 100 ∷ 105 ∷ 116 ∷ 105 ∷ 111 ∷ 110 ∷ 32 ∷ []

-- 'sagas '
abbrev pub sagas_word : List ℕ
sagas_word = 115 ∷ 97 ∷ 103 ∷ 97 ∷ 115 ∷ 32 ∷ []

-- 'steps '
abbrev pub steps_word : List ℕ
steps_word = 115 ∷ 116 ∷ 101 ∷ 112 ∷ 115 ∷ 32 ∷ []

-- 'plain '
abbrev pub plain_word : List ℕ
plain_word = 112 ∷ 108 ∷ 97 ∷ 105 ∷ 110 ∷ 32 ∷ []

-- 'objects '
abbrev pub objects_word : List ℕ
objects_word = 111 ∷ 98 ∷ 106 ∷ 101 ∷ 99 ∷ 116 ∷ 115 ∷ 32 ∷ []

-- 'dependencies '
abbrev pub dependencies_word : List ℕ
dependencies_word = 100 ∷ 101 ∷ 112 ∷ 101 ∷ 110 ∷ 100 ∷ 101 ∷ 110 ∷ 99 ∷ 105 ∷ 101 ∷ 115 ∷ 32 ∷ []

-- 'depend '
abbrev pub depend_word : List ℕ
depend_word = 100 ∷ 101 ∷ 112 ∷ 101 ∷ 110 ∷ 100 ∷ 32 ∷ []

-- ' on '
abbrev pub on_word : List ℕ
on_word = 32 ∷ 111 ∷ 110 ∷ 32 ∷ []

-- ' kind '
abbrev pub kind_word : List ℕ
kind_word = 32 ∷ 107 ∷ 105 ∷ 110 ∷ 100 ∷ 32 ∷ []

-- ' object '
abbrev pub object_word : List ℕ
object_word = 32 ∷ 111 ∷ 98 ∷ 106 ∷ 101 ∷ 99 ∷ 116 ∷ 32 ∷ []

-- ' record '
abbrev pub record_word : List ℕ
record_word = 32 ∷ 114 ∷ 101 ∷ 99 ∷ 111 ∷ 114 ∷ 100 ∷ 32 ∷ []

-- 'delegate '
abbrev pub delegate_word : List ℕ
delegate_word = 100 ∷ 101 ∷ 108 ∷ 101 ∷ 103 ∷ 97 ∷ 116 ∷ 101 ∷ 32 ∷ []

-- ' to '
abbrev pub to_word : List ℕ
to_word = 32 ∷ 116 ∷ 111 ∷ 32 ∷ []

-- ' operation '
abbrev pub operation_word : List ℕ
operation_word = 32 ∷ 111 ∷ 112 ∷ 101 ∷ 114 ∷ 97 ∷ 116 ∷ 105 ∷ 111 ∷ 110 ∷ 32 ∷ []

-- 'spawn '
abbrev pub spawn_word : List ℕ
spawn_word = 115 ∷ 112 ∷ 97 ∷ 119 ∷ 110 ∷ 32 ∷ []

-- ' child '
abbrev pub child_word : List ℕ
child_word = 32 ∷ 99 ∷ 104 ∷ 105 ∷ 108 ∷ 100 ∷ 32 ∷ []

-- a number behind its word
abbrev pub count : List ℕ → ℕ → List ℕ
count word n = word ++ decimal n

-- ---- the tables

unfoldable pub steps_text : List ℕ → List ℕ
steps_text [] = []
steps_text (n ∷ ns) = (count steps_word n ++ line_feed) ++ steps_text ns

abbrev pub entry_line : Dependency → List ℕ
entry_line x = depend_word ++ (decimal x.dependent ++ (on_word ++ (decimal x.base ++ count kind_word (kind_number x.kind))))

unfoldable pub entries_text : List Dependency → List ℕ
entries_text [] = []
entries_text (x ∷ xs) = (entry_line x ++ line_feed) ++ entries_text xs

-- ---- the events

-- the record beside an operation, from edition 2 on
abbrev pub beside_words : Edition → ℕ → List ℕ
beside_words First r = []
beside_words Second r = count record_word r

abbrev pub event_line : Edition → Event → ℕ → List ℕ
event_line ed (Begin t) r = count begin_word t
event_line ed (Commit t) r = count commit_word t
event_line ed (Abort t) r = count abort_word t
event_line ed (Invoke t object mark) r = mark_word mark ++ (blank ++ (decimal t ++ (object_word ++ (decimal object ++ beside_words ed r))))
event_line ed (Delegate t receiver operation) r = delegate_word ++ (decimal t ++ (to_word ++ (decimal receiver ++ count operation_word operation)))
event_line ed (CommitOne t operation) r = commit_word ++ (decimal t ++ count operation_word operation)
event_line ed (AbortOne t operation) r = abort_word ++ (decimal t ++ count operation_word operation)
event_line ed (Spawn parent child) r = spawn_word ++ (decimal parent ++ count child_word child)

unfoldable pub events_text : Edition → List Noted → List ℕ
events_text ed [] = []
events_text ed (x ∷ xs) = (event_line ed x.event x.pupil ++ line_feed) ++ events_text ed xs

-- ---- the fields of tables and events in the order of a book, and their text

abbrev pub fields_in_order : Edition → List ℕ → ℕ → ℕ → List Dependency → List Noted → List ℕ
fields_in_order ed sagas plain objects entries events =
    edition_number ed ∷ length sagas ∷ (sagas ++ (plain ∷ objects ∷ length entries ∷ (entries_fields entries ++ events_fields ed events)))

abbrev pub text_in_order : Edition → List ℕ → ℕ → ℕ → List Dependency → List Noted → List ℕ
text_in_order ed sagas plain objects entries events =
    (count edition_word (edition_number ed) ++ line_feed)
    ++ ((count sagas_word (length sagas) ++ line_feed)
    ++ (steps_text sagas
    ++ ((count plain_word plain ++ line_feed)
    ++ ((count objects_word objects ++ line_feed)
    ++ ((count dependencies_word (length entries) ++ line_feed) ++ (entries_text entries ++ events_text ed events))))))

-- fields in this order are shown in these words, a line each: no number of a book's tables or events is shown as a mere number
abbrev pub InWords : Type 0
InWords =
    (ed : Edition) (sagas : List ℕ) (plain objects : ℕ) (entries : List Dependency) (events : List Noted)
    → book_text (fields_in_order ed sagas plain objects entries events) ≡ text_in_order ed sagas plain objects entries events
