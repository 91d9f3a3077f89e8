use mathlib.Core.Path.{◌∙◌, ap}
use Prim.Native.Nat.{ℕ}
use Rattle.listing.specs.Texts.{text_of, with_all}
use Rattle.listing.specs.Words.{decimal}
use Rattle.moves.proofs.SaidLaws.{first, then}
use Rattle.moves.proofs.plan_line.Goals as goal

pub returns : goal.returns
returns c = let number = c.number.ensures ∙ ap (λ (n : ℕ). with_all (text_of c.word.result) (decimal n)) c.number-n.ensures in first _ c.empty.ensures (then _ _ _ c.word.ensures (then _ _ _ number (then _ _ _ c.word-2.ensures c.end.ensures)))
