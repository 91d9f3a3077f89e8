use Prim.Native.Nat.{◌+◌}
use mathlib.Core.Path.{ap, ◌∙◌, subst⁻¹}
use Rattle.laws.specs.Index.{one}
use Rattle.totals.specs.Figures.{grown, with_book}
use Rattle.totals.specs.declared.SagaCounts.{SagaCounts}
use Rattle.totals.proofs.CountLaws.{from-one}
use Rattle.totals.proofs.FiguresLaws.{Small, counts-small}
use Rattle.totals.proofs.with_book.Goals as goal

pub grown-begun-requires : goal.grown-begun-requires
grown-begun-requires c = (subst⁻¹ Small c.counts_of-counts.ensures (counts-small _ _)).begun

pub grown-committed-requires : goal.grown-committed-requires
grown-committed-requires c = (subst⁻¹ Small c.counts_of-counts.ensures (counts-small _ _)).committed

pub grown-backed-requires : goal.grown-backed-requires
grown-backed-requires c = (subst⁻¹ Small c.counts_of-counts.ensures (counts-small _ _)).backed

pub grown-unsettled-requires : goal.grown-unsettled-requires
grown-unsettled-requires c = (subst⁻¹ Small c.counts_of-counts.ensures (counts-small _ _)).unsettled

pub returns : goal.returns
unfolding with_book
returns c =
    let t = c.args.totals in
    let counts = c.counts_of-counts.ensures in
    λ k.
    record {
      books = t.books + 1;
      refused = (c.grown-refused.ensures ∙ ap (grown t.refused) (c.from.ensures ∙ from-one _ ∙ ap one c.is_refused.ensures)) k;
      begun = (c.grown-begun.ensures ∙ ap (λ (n : SagaCounts). grown t.begun n.begun) counts) k;
      committed = (c.grown-committed.ensures ∙ ap (λ (n : SagaCounts). grown t.committed n.committed) counts) k;
      backed = (c.grown-backed.ensures ∙ ap (λ (n : SagaCounts). grown t.backed n.backed) counts) k;
      unsettled = (c.grown-unsettled.ensures ∙ ap (λ (n : SagaCounts). grown t.unsettled n.unsettled) counts) k;
    }
