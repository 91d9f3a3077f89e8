-- The words of the listing, letter by letter, and numbers in decimal.
use Rattle.std.specs.Prelude.{ℕ, zero, suc, ◌+◌, ◌/◌, ◌%◌, cond, List, [], ◌∷◌, ◌++◌, ltb}

-- 'book accepted '
abbrev pub book_accepted : List ℕ
book_accepted = 98 ∷ 111 ∷ 111 ∷ 107 ∷ 32 ∷ 97 ∷ 99 ∷ 99 ∷ 101 ∷ 112 ∷ 116 ∷ 101 ∷ 100 ∷ 32 ∷ []

-- 'book refused '
abbrev pub book_refused : List ℕ
book_refused = 98 ∷ 111 ∷ 111 ∷ 107 ∷ 32 ∷ 114 ∷ 101 ∷ 102 ∷ 117 ∷ 115 ∷ 101 ∷ 100 ∷ 32 ∷ []

-- 't '
abbrev pub transaction_word : List ℕ
transaction_word = 116 ∷ 32 ∷ []

-- 'op '
abbrev pub operation_word : List ℕ
operation_word = 111 ∷ 112 ∷ 32 ∷ []

-- 'no '
abbrev pub no_word : List ℕ
no_word = 110 ∷ 111 ∷ 32 ∷ []

-- 'saga '
abbrev pub saga_word : List ℕ
saga_word = 115 ∷ 97 ∷ 103 ∷ 97 ∷ 32 ∷ []

-- 'idle'
abbrev pub idle_word : List ℕ
idle_word = 105 ∷ 100 ∷ 108 ∷ 101 ∷ []

-- 'active'
abbrev pub active_word : List ℕ
active_word = 97 ∷ 99 ∷ 116 ∷ 105 ∷ 118 ∷ 101 ∷ []

-- 'committed'
abbrev pub committed_word : List ℕ
committed_word = 99 ∷ 111 ∷ 109 ∷ 109 ∷ 105 ∷ 116 ∷ 116 ∷ 101 ∷ 100 ∷ []

-- 'aborted'
abbrev pub aborted_word : List ℕ
aborted_word = 97 ∷ 98 ∷ 111 ∷ 114 ∷ 116 ∷ 101 ∷ 100 ∷ []

-- 'read'
abbrev pub read_word : List ℕ
read_word = 114 ∷ 101 ∷ 97 ∷ 100 ∷ []

-- 'write'
abbrev pub write_word : List ℕ
write_word = 119 ∷ 114 ∷ 105 ∷ 116 ∷ 101 ∷ []

-- 'none'
abbrev pub none_word : List ℕ
none_word = 110 ∷ 111 ∷ 110 ∷ 101 ∷ []

-- 'begin '
abbrev pub begin_word : List ℕ
begin_word = 98 ∷ 101 ∷ 103 ∷ 105 ∷ 110 ∷ 32 ∷ []

-- 'commit '
abbrev pub commit_word : List ℕ
commit_word = 99 ∷ 111 ∷ 109 ∷ 109 ∷ 105 ∷ 116 ∷ 32 ∷ []

-- 'abort '
abbrev pub abort_word : List ℕ
abort_word = 97 ∷ 98 ∷ 111 ∷ 114 ∷ 116 ∷ 32 ∷ []

-- one blank between the parts of a line, and a line feed at its end
abbrev pub blank : List ℕ
blank = 32 ∷ []

abbrev pub line_feed : List ℕ
line_feed = 10 ∷ []

-- ---- numbers in decimal, without leading zeros, of at most k digits

unfoldable pub digits_from : ℕ → ℕ → List ℕ
digits_from zero n = []
digits_from (suc k) n = cond (ltb n 10) ((48 + n) ∷ []) (digits_from k (n / 10) ++ ((48 + n % 10) ∷ []))

-- 20 digits say every number of 64 bits
unfoldable pub decimal : ℕ → List ℕ
decimal n = digits_from 20 n
