use mathlib.Core.Path.{◌∙◌, ap}
use Rattle.listing.specs.Texts.{text_of, with_all}
use Rattle.moves.proofs.SaidLaws.{first, then}
use Rattle.plan.specs.Names.{name_at}
use Rattle.moves.proofs.list_line.Goals as goal

pub returns : goal.returns
returns c = let a = c.args in let name = c.word-text.ensures ∙ ap (with_all (text_of c.word.result)) (c.name-name.ensures ∙ ap (name_at a.plan.names.now a.plan.ends.now) c.list_name-at.ensures) in first _ c.empty.ensures (then _ _ _ c.word.ensures (then _ _ _ name (then _ _ _ c.with_word.ensures c.end.ensures)))
