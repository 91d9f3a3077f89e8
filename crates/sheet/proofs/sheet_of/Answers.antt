use borrow.Author.Rules.{rules}
use mathlib.Core.Path.{◌≡◌, ap, ◌∙◌}
use lib.ListN.{length}
use Rattle.terms.specs.Limits.{most_sagas}
use Rattle.terms.specs.declared.Saga.{Saga}
use Rattle.tables.proofs.SortLaws.{owned-past}
use Rattle.sheet.specs.Sheet.{sort_in}
use Rattle.sheet.proofs.HeldLaws.{counted-holds}
use Rattle.sheet.proofs.sheet_of.Goals as goal

pub returns : goal.returns
returns c few =
    let tables = c.args.tables in
    let sorts = c.put_sorts in
    let entries = c.put_dependencies in
    let full : length tables.steps ≡ most_sagas = search rules in
    counted-holds tables few entries.new.sheet entries.ensures.0
    c.object_count-objects.result c.dependency_count-declared.result c.saga_at-past.result.first
    (λ t h. ap sort_in (entries.ensures.1.1 t h) ∙ sorts.ensures.1 few t h)
    entries.ensures.1.0
    c.object_count-objects.ensures
    c.dependency_count-declared.ensures
    (ap (λ (s : Saga). s.first) c.saga_at-past.ensures ∙ owned-past tables full)
