-- Three texts and what they say.
use Rattle.std.specs.Prelude.{◌≡◌, List, [], ◌∷◌, ℕ}
use Rattle.script.specs.Scripts.{telling, tells, unclear_at, more_at}

-- tab, ' edition  1 # old', carriage return, line feed; line feed; 'sagas 0'
abbrev pub hand : List ℕ
hand = 9 ∷ 32 ∷ 101 ∷ 100 ∷ 105 ∷ 116 ∷ 105 ∷ 111 ∷ 110 ∷ 32 ∷ 32 ∷ 49 ∷ 32 ∷ 35 ∷ 32 ∷ 111 ∷ 108 ∷ 100 ∷ 13 ∷ 10 ∷ 10 ∷ 115 ∷ 97 ∷ 103 ∷ 97 ∷ 115 ∷ 32 ∷ 48 ∷ []

-- 'edition 1', line feed; '#', line feed; 'saga 0', line feed
abbrev pub strange : List ℕ
strange = 101 ∷ 100 ∷ 105 ∷ 116 ∷ 105 ∷ 111 ∷ 110 ∷ 32 ∷ 49 ∷ 10 ∷ 35 ∷ 10 ∷ 115 ∷ 97 ∷ 103 ∷ 97 ∷ 32 ∷ 48 ∷ 10 ∷ []

pub record WorkedTexts : Type 0 where
  -- blanks, empty lines and remarks count for nothing
  pub by_hand : telling 2 hand ≡ tells (1 ∷ 0 ∷ [])
  -- lines are counted from 1, those that are passed over too: the one that is not understood, and the one with which there are more fields than asked for
  pub third : telling 2 strange ≡ unclear_at 3
  pub too_many : telling 1 hand ≡ more_at 3
