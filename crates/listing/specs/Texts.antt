-- A text of at most so many bytes, and what is added to it. What does not fit is left off; no line of the listing comes to that.
use Rattle.std.specs.Prelude.{ℕ, cond, List, [], ◌∷◌, ◌++◌, ltb, length, take, drop, Option, Some, None}
use Rattle.listing.specs.declared.Text.{Text}

-- enough for every line
abbrev pub most_text : ℕ
most_text = 104

-- the bytes of a text
abbrev pub text_of : Text → List ℕ
text_of t = take t.len t.bytes

-- one byte more, if there is room for it
abbrev pub with_byte : List ℕ → ℕ → List ℕ
with_byte l b = cond (ltb (length l) most_text) (l ++ (b ∷ [])) l

-- and many
unfoldable pub with_all : List ℕ → List ℕ → List ℕ
with_all l [] = l
with_all l (b ∷ bs) = with_all (with_byte l b) bs

-- ---- into a lent room: the bytes at its front and the rest as it was; or nothing is touched

-- how many bytes were put; none where the room is too small
unfoldable pub put_answer : List ℕ → List ℕ → Option ℕ
put_answer l room = cond (ltb (length room) (length l)) None (Some (length l))

unfoldable pub put_room : List ℕ → List ℕ → List ℕ
put_room l room = cond (ltb (length room) (length l)) room (l ++ drop (length l) room)
