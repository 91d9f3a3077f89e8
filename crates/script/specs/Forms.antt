-- The forms of lines: how a line is written by a form, and what it says by it.
use Rattle.std.specs.Prelude.{ℕ, ◌+◌, ◌-◌, ◌*◌, Bool, true, false, cond, ◌&&◌, List, [], ◌∷◌, ◌++◌, get_or, drop, ltb, leb, eqb}
use Rattle.plan.specs.Lines.{lines_of, is_blank, past_blanks}
use Rattle.listing.specs.Words.{decimal}
use Rattle.script.specs.declared.Sign.{Sign}
use Rattle.script.specs.declared.Sign.TheVariants.{Fixed, Number, Blank, Letter, Nothing}

-- ---- the table: one form a row. First the stages where it may stand, from one letter to another; then the line, where a figure is a field that has this value and is not
-- written (behind 9 come ':' for 10, ';' for 11 and so on), and '#' is a field that is written. The last row is for what has no other form.
unfoldable pub table : List ℕ
table =
    -- 'AAedition #'
    65 ∷ 65 ∷ 101 ∷ 100 ∷ 105 ∷ 116 ∷ 105 ∷ 111 ∷ 110 ∷ 32 ∷ 35 ∷ 10
    -- 'BBsagas #'
    ∷ 66 ∷ 66 ∷ 115 ∷ 97 ∷ 103 ∷ 97 ∷ 115 ∷ 32 ∷ 35 ∷ 10
    -- 'CCsteps #'
    ∷ 67 ∷ 67 ∷ 115 ∷ 116 ∷ 101 ∷ 112 ∷ 115 ∷ 32 ∷ 35 ∷ 10
    -- 'DDplain #'
    ∷ 68 ∷ 68 ∷ 112 ∷ 108 ∷ 97 ∷ 105 ∷ 110 ∷ 32 ∷ 35 ∷ 10
    -- 'EEobjects #'
    ∷ 69 ∷ 69 ∷ 111 ∷ 98 ∷ 106 ∷ 101 ∷ 99 ∷ 116 ∷ 115 ∷ 32 ∷ 35 ∷ 10
    -- 'FFdependencies #'
    ∷ 70 ∷ 70 ∷ 100 ∷ 101 ∷ 112 ∷ 101 ∷ 110 ∷ 100 ∷ 101 ∷ 110 ∷ 99 ∷ 105 ∷ 101 ∷ 115 ∷ 32 ∷ 35 ∷ 10
    -- 'GGdepend # on # kind #'
    ∷ 71 ∷ 71 ∷ 100 ∷ 101 ∷ 112 ∷ 101 ∷ 110 ∷ 100 ∷ 32 ∷ 35 ∷ 32 ∷ 111 ∷ 110 ∷ 32 ∷ 35 ∷ 32 ∷ 107 ∷ 105 ∷ 110 ∷ 100 ∷ 32 ∷ 35 ∷ 10
    -- 'HI1begin #'
    ∷ 72 ∷ 73 ∷ 49 ∷ 98 ∷ 101 ∷ 103 ∷ 105 ∷ 110 ∷ 32 ∷ 35 ∷ 10
    -- 'HI2commit #'
    ∷ 72 ∷ 73 ∷ 50 ∷ 99 ∷ 111 ∷ 109 ∷ 109 ∷ 105 ∷ 116 ∷ 32 ∷ 35 ∷ 10
    -- 'HI3abort #'
    ∷ 72 ∷ 73 ∷ 51 ∷ 97 ∷ 98 ∷ 111 ∷ 114 ∷ 116 ∷ 32 ∷ 35 ∷ 10
    -- 'HH4read # object #0'
    ∷ 72 ∷ 72 ∷ 52 ∷ 114 ∷ 101 ∷ 97 ∷ 100 ∷ 32 ∷ 35 ∷ 32 ∷ 111 ∷ 98 ∷ 106 ∷ 101 ∷ 99 ∷ 116 ∷ 32 ∷ 35 ∷ 48 ∷ 10
    -- 'HH4write # object #1'
    ∷ 72 ∷ 72 ∷ 52 ∷ 119 ∷ 114 ∷ 105 ∷ 116 ∷ 101 ∷ 32 ∷ 35 ∷ 32 ∷ 111 ∷ 98 ∷ 106 ∷ 101 ∷ 99 ∷ 116 ∷ 32 ∷ 35 ∷ 49 ∷ 10
    -- 'HH4operate # object # mark #'
    ∷ 72 ∷ 72 ∷ 52 ∷ 111 ∷ 112 ∷ 101 ∷ 114 ∷ 97 ∷ 116 ∷ 101 ∷ 32 ∷ 35 ∷ 32 ∷ 111 ∷ 98 ∷ 106 ∷ 101 ∷ 99 ∷ 116 ∷ 32 ∷ 35 ∷ 32 ∷ 109 ∷ 97 ∷ 114 ∷ 107 ∷ 32 ∷ 35 ∷ 10
    -- 'II4read # object #0 record #'
    ∷ 73 ∷ 73 ∷ 52 ∷ 114 ∷ 101 ∷ 97 ∷ 100 ∷ 32 ∷ 35 ∷ 32 ∷ 111 ∷ 98 ∷ 106 ∷ 101 ∷ 99 ∷ 116 ∷ 32 ∷ 35 ∷ 48 ∷ 32 ∷ 114 ∷ 101 ∷ 99 ∷ 111 ∷ 114 ∷ 100 ∷ 32 ∷ 35 ∷ 10
    -- 'II4write # object #1 record #'
    ∷ 73 ∷ 73 ∷ 52 ∷ 119 ∷ 114 ∷ 105 ∷ 116 ∷ 101 ∷ 32 ∷ 35 ∷ 32 ∷ 111 ∷ 98 ∷ 106 ∷ 101 ∷ 99 ∷ 116 ∷ 32 ∷ 35 ∷ 49 ∷ 32 ∷ 114 ∷ 101 ∷ 99 ∷ 111 ∷ 114 ∷ 100 ∷ 32 ∷ 35 ∷ 10
    -- 'II4operate # object # mark # record #'
    ∷ 73 ∷ 73 ∷ 52 ∷ 111 ∷ 112 ∷ 101 ∷ 114 ∷ 97 ∷ 116 ∷ 101 ∷ 32 ∷ 35 ∷ 32 ∷ 111 ∷ 98 ∷ 106 ∷ 101 ∷ 99 ∷ 116 ∷ 32 ∷ 35 ∷ 32 ∷ 109 ∷ 97 ∷ 114 ∷ 107 ∷ 32 ∷ 35 ∷ 32 ∷ 114 ∷ 101 ∷ 99 ∷ 111 ∷ 114 ∷ 100 ∷ 32 ∷ 35 ∷ 10
    -- 'HI5delegate # to # operation #'
    ∷ 72 ∷ 73 ∷ 53 ∷ 100 ∷ 101 ∷ 108 ∷ 101 ∷ 103 ∷ 97 ∷ 116 ∷ 101 ∷ 32 ∷ 35 ∷ 32 ∷ 116 ∷ 111 ∷ 32 ∷ 35 ∷ 32 ∷ 111 ∷ 112 ∷ 101 ∷ 114 ∷ 97 ∷ 116 ∷ 105 ∷ 111 ∷ 110 ∷ 32 ∷ 35 ∷ 10
    -- 'HI6commit # operation #'
    ∷ 72 ∷ 73 ∷ 54 ∷ 99 ∷ 111 ∷ 109 ∷ 109 ∷ 105 ∷ 116 ∷ 32 ∷ 35 ∷ 32 ∷ 111 ∷ 112 ∷ 101 ∷ 114 ∷ 97 ∷ 116 ∷ 105 ∷ 111 ∷ 110 ∷ 32 ∷ 35 ∷ 10
    -- 'HI7abort # operation #'
    ∷ 72 ∷ 73 ∷ 55 ∷ 97 ∷ 98 ∷ 111 ∷ 114 ∷ 116 ∷ 32 ∷ 35 ∷ 32 ∷ 111 ∷ 112 ∷ 101 ∷ 114 ∷ 97 ∷ 116 ∷ 105 ∷ 111 ∷ 110 ∷ 32 ∷ 35 ∷ 10
    -- 'HI8spawn # child #'
    ∷ 72 ∷ 73 ∷ 56 ∷ 115 ∷ 112 ∷ 97 ∷ 119 ∷ 110 ∷ 32 ∷ 35 ∷ 32 ∷ 99 ∷ 104 ∷ 105 ∷ 108 ∷ 100 ∷ 32 ∷ 35 ∷ 10
    -- 'AJfield #'
    ∷ 65 ∷ 74 ∷ 102 ∷ 105 ∷ 101 ∷ 108 ∷ 100 ∷ 32 ∷ 35 ∷ 10
    ∷ []

unfoldable pub forms : List (List ℕ)
forms = lines_of table

-- no form has more fields
abbrev pub most_fields : ℕ
most_fields = 6

-- what a byte of a form stands for
unfoldable pub sign_of : ℕ → Sign
sign_of b =
    cond (eqb b 35) Number
    (cond (eqb b 32) Blank (cond (leb 48 b && ltb b 64) (Fixed (b - 48)) (cond (leb 97 b && leb b 122) Letter Nothing)))

-- the form may stand at the stage that has this letter
unfoldable pub allows : List ℕ → ℕ → Bool
allows [] letter = false
allows (low ∷ []) letter = false
allows (low ∷ high ∷ line) letter = leb low letter && leb letter high

-- the stage of numbers alone, 'J'
abbrev pub loose_letter : ℕ
loose_letter = 74

-- how many fields a byte of a form says, and how many a form has
abbrev pub takes_by : Sign → ℕ
takes_by (Fixed v) = 1
takes_by Number = 1
takes_by Blank = 0
takes_by Letter = 0
takes_by Nothing = 0

unfoldable pub takes : ℕ → ℕ
takes b = takes_by (sign_of b)

unfoldable pub count_of : List ℕ → ℕ
count_of [] = 0
count_of (b ∷ form) = takes b + count_of form

-- ---- from fields to a line

-- the next field can be what a byte of a form says: it is there, and has its value
abbrev pub own_by : Sign → List ℕ → Bool
own_by (Fixed v) [] = false
own_by (Fixed v) (x ∷ fs) = eqb x v
own_by Number [] = false
own_by Number (x ∷ fs) = true
own_by Blank fs = true
own_by Letter fs = true
own_by Nothing fs = true

unfoldable pub is_own : ℕ → List ℕ → Bool
is_own b fs = own_by (sign_of b) fs

-- the form says the first of these fields
unfoldable pub fits : List ℕ → List ℕ → Bool
fits [] fs = true
fits (b ∷ form) fs = is_own b fs && fits form (drop (takes b) fs)

-- what a byte of a form writes, where the next field is v
abbrev pub piece_by : Sign → ℕ → ℕ → List ℕ
piece_by (Fixed w) b v = []
piece_by Number b v = decimal v
piece_by Blank b v = b ∷ []
piece_by Letter b v = b ∷ []
piece_by Nothing b v = []

unfoldable pub piece_of : ℕ → ℕ → List ℕ
piece_of b v = piece_by (sign_of b) b v

-- the line of these fields
unfoldable pub shown : List ℕ → List ℕ → List ℕ
shown [] fs = []
shown (b ∷ form) fs = piece_of b (get_or fs 0 0) ++ shown form (drop (takes b) fs)

-- the first form that may stand there and fits; the last one, if none does
unfoldable pub form_for : List (List ℕ) → ℕ → List ℕ → List ℕ
form_for [] letter fs = []
form_for (form ∷ []) letter fs = form
form_for (form ∷ next ∷ more) letter fs = cond (allows form letter && fits form fs) form (form_for (next ∷ more) letter fs)

-- ---- from a line to fields

-- what a byte of a form finds at the front of a line: it goes on with what is left; it says a field, and goes on; something else stands there
pub data Finding : Type 0 where
  goes : List ℕ → Finding
  speaks : ℕ → List ℕ → Finding
  other : Finding

-- a blank, a tab or a carriage return stands first
abbrev pub blank_first : List ℕ → Bool
blank_first [] = false
blank_first (b ∷ s) = is_blank true b

abbrev pub first_is : ℕ → List ℕ → Bool
first_is b [] = false
first_is b (x ∷ s) = eqb x b

-- nothing more stands in the line, or a remark, which starts with '#'
abbrev pub remark_first : List ℕ → Bool
remark_first [] = true
remark_first (b ∷ s) = eqb b 35

unfoldable pub ended : List ℕ → Bool
ended s = remark_first (past_blanks true s)

abbrev pub is_figure : ℕ → Bool
is_figure b = leb 48 b && ltb b 58

-- the largest number that a line can say: a field has 32 bits
abbrev pub largest : ℕ
largest = 4294967295

-- the figures at the front, behind those that say v
abbrev pub with_figure : ℕ → (ℕ → Finding) → Finding
with_figure v go = cond (ltb largest v) other (go v)

unfoldable pub figures_from : ℕ → List ℕ → Finding
figures_from v [] = speaks v []
figures_from v (b ∷ s) = cond (is_figure b) (with_figure (10 * v + (b - 48)) (λ n. figures_from n s)) (speaks v (b ∷ s))

abbrev pub figure_first : List ℕ → Bool
figure_first [] = false
figure_first (b ∷ s) = is_figure b

unfoldable pub numeral_of : List ℕ → Finding
numeral_of s = cond (figure_first s) (figures_from 0 s) other

abbrev pub found_as : Sign → ℕ → List ℕ → Finding
found_as (Fixed v) b s = speaks v s
found_as Number b s = numeral_of s
found_as Blank b s = cond (blank_first s) (goes (past_blanks true s)) other
found_as Letter b s = cond (first_is b s) (goes (drop 1 s)) other
found_as Nothing b s = goes s

unfoldable pub found_by : ℕ → List ℕ → Finding
found_by b s = found_as (sign_of b) b s

-- what a line says by a form, behind the fields that were said before it; or it is of another form
pub data Saying : Type 0 where
  fields : List ℕ → Saying
  another : Saying

abbrev pub on_finding : Finding → (List ℕ → List ℕ → Saying) → List ℕ → Saying
on_finding (goes s) go l = go s l
on_finding (speaks v s) go l = go s (l ++ (v ∷ []))
on_finding other go l = another

unfoldable pub says : List ℕ → List ℕ → List ℕ → Saying
says [] s l = cond (ended s) (fields l) another
says (b ∷ form) s l = on_finding (found_by b s) (says form) l
