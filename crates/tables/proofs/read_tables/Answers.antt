use mathlib.Core.Path.{sym, ap, ◌∙◌}
use Rattle.terms.specs.Limits.{most_sagas}
use Rattle.terms.specs.declared.Refusal.TheVariants.{BadCount}
use Rattle.number.proofs.FieldLaws.{within-range, within-next}
use Rattle.tables.specs.declared.SagasRead.{SagasRead}
use Rattle.tables.proofs.AcceptedWellHolds.{sagas-read}
use Rattle.tables.proofs.read_tables.Goals as goal

pub sagas_from-s-requires : goal.sagas_from-s-requires
sagas_from-s-requires c =
    let sagas = c.in-Ok-within.field in
    (within-range c.most-most.result c.args.book.now c.in-Ok.field.1 0 most_sagas BadCount sagas.0 sagas.1 (sym c.within-2.ensures ∙ c.in-Ok-within.is)).1

pub rest_from-requires : goal.rest_from-requires
rest_from-requires c =
    let m = c.most-most.result in
    let book = c.args.book.now in
    let sagas = c.in-Ok-within.field in
    let owned = c.in-Ok-answer.owned in
    let read = sym c.within-2.ensures ∙ c.in-Ok-within.is in
    let few = (within-range m book c.in-Ok.field.1 0 most_sagas BadCount sagas.0 sagas.1 read).1 in
    let place = (within-next m book c.in-Ok.field.1 0 most_sagas BadCount sagas.0 sagas.1 read).1 in
    let n = c.sagas_from-s in
    let answer = ap (λ (x : SagasRead). x.answer) (sym n.ensures) ∙ c.in-Ok-answer.is in
    let q = sagas-read m book sagas.0 sagas.1 owned.0 owned.1 few place answer in (
      q.fits,
      ap (λ (x : SagasRead). x.tables.declared) n.ensures ∙ q.bare,
    )
