-- The ways of reading, by number.
use Prim.Native.Nat.{ℕ}
use mathlib.Core.Path.{◌≡◌}
use mathlib.Core.Bool.{true, false}
use mathlib.Core.List.{List}
use Rattle.tables.specs.Reading.{edition_of}
use Rattle.tables.specs.declared.Circles.{Circles}
use Rattle.onward.specs.Onward.{judgement_by, judgement_up_to}
use Rattle.desk.specs.Ways.{circles_in, judged, reads_on}

module _ (way : ℕ) (s : List ℕ) (circles : Circles) (c : circles ≡ circles_in way) where
  -- on past refused events
  pub judged-on : reads_on way ≡ true → judgement_by circles (edition_of s) s ≡ judged way s
  unfolding judged
  judged-on on = rw (on, c)

  -- to the first refusal
  pub judged-to : reads_on way ≡ false → judgement_up_to circles s ≡ judged way s
  unfolding judged
  judged-to to = rw (to, c)
