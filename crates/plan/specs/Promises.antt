-- What is promised of plans.
use Rattle.std.specs.Prelude.{◌≡◌, Bool, true, false, cond, Ok, Err, List, [], ◌∷◌, ◌++◌, ◌⊎◌, ℕ, suc, ◌+◌, ◌≤◌, ◌<◌, length, get_or}
use Rattle.plan.specs.declared.Counts.{Counts}
use Rattle.plan.specs.declared.PlanUnread.TheVariants.{NotUnderstood, NoRoom, TooLong}
use Rattle.plan.specs.Lines.{lines_of, trimmed, move_word, step_word, list_word, Entry, passed, move, step, list, unclear, entry_of, entries_of, past_blanks}
use Rattle.plan.specs.Names.{name_at, move_name, step_name, list_name}
use Rattle.plan.specs.Reading.{is_unclear, first_unclear, joined, ends_from, move_above, plan_names, plan_ends, plan_steps, plan_lists, counts_of, read_answer}
use Rattle.plan.specs.Verdict.{plan_number, plan_verdict}

-- ---- judging

-- the first exactly when the second
abbrev pub Exactly : Type 0 → Type 0 → Type 0
Exactly A B = (A → B) × (B → A)

-- some move i has more than 16 steps
abbrev pub ManySteps : List ℕ → Type 0
ManySteps steps = (i : ℕ) × (16 < get_or steps i 0)

-- some k has a name longer than 24 bytes
abbrev pub LongNamed : List ℕ → List ℕ → Type 0
LongNamed names ends = (k : ℕ) × (24 < length (name_at names ends k))

-- some list j has a move whose number is not below the number of moves
abbrev pub Lost : List ℕ → List ℕ → Type 0
Lost steps lists = (j : ℕ) × (j < length lists) × (length steps ≤ get_or lists j 0)

-- each number is answered exactly when its line holds and none before it does
pub record Judging (names ends steps lists : List ℕ) : Type 0 where
  pub steps_25 : Exactly (plan_number (plan_verdict names ends steps lists) ≡ 25) (ManySteps steps)
  pub lists_26 : Exactly (plan_number (plan_verdict names ends steps lists) ≡ 26) ((ManySteps steps → ⊥) × (30 < length lists))
  pub name_27 : Exactly (plan_number (plan_verdict names ends steps lists) ≡ 27) ((ManySteps steps → ⊥) × (length lists ≤ 30) × LongNamed names ends)
  pub move_28 : Exactly (plan_number (plan_verdict names ends steps lists) ≡ 28)
      ((ManySteps steps → ⊥) × (length lists ≤ 30) × (LongNamed names ends → ⊥) × Lost steps lists)
  pub fits_0 : Exactly (plan_number (plan_verdict names ends steps lists) ≡ 0)
      ((ManySteps steps → ⊥) × (length lists ≤ 30) × (LongNamed names ends → ⊥) × (Lost steps lists → ⊥))

-- ---- lines

-- each byte is a blank, a tab or a carriage return
abbrev pub Blank : List ℕ → Type 0
Blank s = (i : ℕ) → i < length s → (get_or s i 0 ≡ 32) ⊎ ((get_or s i 0 ≡ 9) ⊎ (get_or s i 0 ≡ 13))

-- the entry has a name, which is not empty
abbrev pub Named : Entry → Type 0
Named passed = Unit {0}
Named (move x) = 0 < length x
Named (step x) = 0 < length x
Named (list x) = 0 < length x
Named unclear = Unit {0}

-- no byte is a line feed
abbrev pub NoFeed : List ℕ → Type 0
NoFeed line = (i : ℕ) → i < length line → get_or line i 0 ≡ 10 → ⊥

-- the line is the word, a blank or a tab, and x behind what blanks and tabs there are
pub record Says (word line x : List ℕ) : Type 0 where
  pub apart : ℕ
  pub rest : List ℕ
  pub line_is : line ≡ word ++ (apart ∷ rest)
  pub apart_is : (apart ≡ 32) ⊎ (apart ≡ 9)
  pub name_is : x ≡ past_blanks false (apart ∷ rest)

pub record Lines : Type 0 where
  -- a line feed ends a line, and the end of the text ends one that lacks it
  pub fed : (line rest : List ℕ) → NoFeed line → lines_of (line ++ (10 ∷ rest)) ≡ line ∷ lines_of rest
  pub last : (line : List ℕ) → NoFeed line → 0 < length line → lines_of line ≡ line ∷ []
  -- a name without blanks around it, behind its word and a blank
  pub written : (x : List ℕ) → trimmed x ≡ x → 0 < length x
      → (entry_of (move_word ++ (32 ∷ x)) ≡ move x) × (entry_of (step_word ++ (32 ∷ x)) ≡ step x) × (entry_of (list_word ++ (32 ∷ x)) ≡ list x)
  -- nothing else names a move, a step or a list
  pub move_says : (line x : List ℕ) → entry_of line ≡ move x → Says move_word (trimmed line) x
  pub step_says : (line x : List ℕ) → entry_of line ≡ step x → Says step_word (trimmed line) x
  pub list_says : (line x : List ℕ) → entry_of line ≡ list x → Says list_word (trimmed line) x
  -- and nothing is passed over but what is empty or starts with '#' (35)
  pub passed_when : (line : List ℕ) → Exactly (entry_of line ≡ passed) ((trimmed line ≡ []) ⊎ ((s : List ℕ) × (trimmed line ≡ 35 ∷ s)))
  -- what stands around a line counts for nothing
  pub around : (before line after : List ℕ) → Blank before → Blank after → entry_of (before ++ (line ++ after)) ≡ entry_of line
  -- a name has at least one byte
  pub named : (line : List ℕ) → Named (entry_of line)

-- ---- a plan that is read back

abbrev pub a_move : Entry → Bool
a_move passed = false
a_move (move x) = true
a_move (step x) = false
a_move (list x) = false
a_move unclear = false

abbrev pub a_step : Entry → Bool
a_step passed = false
a_step (move x) = false
a_step (step x) = true
a_step (list x) = false
a_step unclear = false

abbrev pub a_list : Entry → Bool
a_list passed = false
a_list (move x) = false
a_list (step x) = false
a_list (list x) = true
a_list unclear = false

-- of how many lines a test holds
unfoldable pub how_many : (Entry → Bool) → List Entry → ℕ
how_many f [] = 0
how_many f (e ∷ es) = cond (f e) (suc (how_many f es)) (how_many f es)

unfoldable pub total : List ℕ → ℕ
total [] = 0
total (n ∷ l) = n + total l

-- no line, or a move first
abbrev pub MoveFirst : List Entry → Type 0
MoveFirst [] = Unit {0}
MoveFirst (e ∷ es) = a_move e ≡ true

pub record ReadBack (es : List Entry) : Type 0 where
  -- moves, steps and lists are as many as there are lines of each
  pub moves : length (plan_steps es) ≡ how_many a_move es
  pub steps : total (plan_steps es) ≡ how_many a_step es
  pub lists : length (plan_lists es) ≡ how_many a_list es
  -- a move's name, and how many steps it has: the lines up to the next move, or to the end
  pub move_name : (above below : List Entry) (x : List ℕ) → es ≡ above ++ (move x ∷ below)
      → name_at (plan_names es) (plan_ends es) (move_name (plan_steps es) (how_many a_move above)) ≡ x
  pub move_steps : (above own below : List Entry) (x : List ℕ) → es ≡ above ++ (move x ∷ (own ++ below)) → how_many a_move own ≡ 0 → MoveFirst below
      → get_or (plan_steps es) (how_many a_move above) 0 ≡ how_many a_step own
  -- the name of a step, counted from 1 below its move
  pub step_name : (above own below : List Entry) (x y : List ℕ) → es ≡ above ++ (move x ∷ (own ++ (step y ∷ below))) → how_many a_move own ≡ 0
      → name_at (plan_names es) (plan_ends es) (step_name (plan_steps es) (how_many a_move above) (how_many a_step own + 1)) ≡ y
  -- the name of a list, and its move: the last one above it
  pub list_name : (above below : List Entry) (x : List ℕ) → es ≡ above ++ (list x ∷ below)
      → name_at (plan_names es) (plan_ends es) (list_name (plan_steps es) (how_many a_list above)) ≡ x
  pub list_move : (above below : List Entry) (x : List ℕ) → es ≡ above ++ (list x ∷ below)
      → get_or (plan_lists es) (how_many a_list above) 0 ≡ move_above (how_many a_move above)

-- the plan of these lines, in rooms of so many elements
abbrev pub RoomFor : List Entry → ℕ → ℕ → ℕ → ℕ → Type 0
RoomFor es names ends steps lists =
    (length (plan_names es) ≤ names) × (length (plan_ends es) ≤ ends) × (length (plan_steps es) ≤ steps) × (length (plan_lists es) ≤ lists)

-- each answer is given exactly when it is due: first the length, then lines that are not understood, then the rooms
pub record Answering (text : List ℕ) (names ends steps lists : ℕ) : Type 0 where
  pub too_long : Exactly (read_answer text names ends steps lists ≡ Err TooLong) (65536 < length text)
  pub not_understood : (n : ℕ)
      → Exactly (read_answer text names ends steps lists ≡ Err (NotUnderstood n)) ((length text ≤ 65536) × (1 ≤ n) × (first_unclear 1 0 (entries_of text) ≡ n))
  pub no_room : Exactly (read_answer text names ends steps lists ≡ Err NoRoom)
      ((length text ≤ 65536) × (first_unclear 1 0 (entries_of text) ≡ 0) × (RoomFor (entries_of text) names ends steps lists → ⊥))
  pub read : Exactly (read_answer text names ends steps lists ≡ Ok (counts_of (entries_of text)))
      ((length text ≤ 65536) × (first_unclear 1 0 (entries_of text) ≡ 0) × RoomFor (entries_of text) names ends steps lists)

pub record Reading : Type 0 where
  -- names one behind the other are told apart by where each ends
  pub names_apart : (before after : List (List ℕ)) (x : List ℕ)
      → name_at (joined (before ++ (x ∷ after))) (ends_from 0 (before ++ (x ∷ after))) (length before) ≡ x
  -- a plan that was read says what the lines of its text say
  pub read_back : (text : List ℕ) (names ends steps lists : ℕ) (counts : Counts) → read_answer text names ends steps lists ≡ Ok counts
      → ReadBack (entries_of text)
  -- the first line that is not understood is named by its number, from 1
  pub first_bad : (above below : List Entry) (e : Entry) → first_unclear 1 0 above ≡ 0 → is_unclear (how_many a_move above) e ≡ true
      → first_unclear 1 0 (above ++ (e ∷ below)) ≡ length above + 1
  -- and no line is named where all are understood
  pub none_bad : (above below : List Entry) (e : Entry) → first_unclear 1 0 (above ++ (e ∷ below)) ≡ 0 → is_unclear (how_many a_move above) e ≡ false
