use mathlib.Core.Path.{◌≡◌}
use lib.ListN.{take}
use Rattle.listing.specs.Texts.{text_of, with_all}
use Rattle.listing.proofs.Text.word.Given as goal

abbrev pub invariant-loop-b : goal.invariant-loop-b
invariant-loop-b l = text_of l.text ≡ with_all (text_of l.initial.text) (take l.b-index l.letters)
