use Prim.Native.Nat.{◌<◌}
use mathlib.Core.Path.{◌≡◌, sym, ap, ◌∙◌}
use mathlib.Core.Bool.{Bool, false, not, ◌&&◌}
use Rattle.sets.specs.Sets.{mem}
use Rattle.sets.proofs.SetLaws.{mem-alone, less-members}
use Rattle.ties.specs.Ties.{is_gone}
use Rattle.ties.proofs.TieLaws.{kept_small}
use Rattle.rows.proofs.SweepLaws.{swept-gone, swept-live}
use Rattle.ties.specs.declared.Operation.{Operation}
use Rattle.rows.proofs.Sweep.sweep_one.Goals as goal

-- it counts for the order, so its numbers are within the limits
small : (p : Operation) (gone : Bool) → gone ≡ is_gone p → gone ≡ false → (p.responsible < 64) × (p.object < 32)
small p gone e f = kept_small p (sym e ∙ f)

pub returns-then-is_gone : goal.returns-then-is_gone
returns-then-is_gone c n op i l at s =
    let a = c.args in
    swept-gone n op i l a.p at a.self.now s (sym c.is_gone.ensures ∙ c.if-is_gone.true)

pub bounds-self-o : goal.bounds-self-o
bounds-self-o c = (small c.args.p c.is_gone.result c.is_gone.ensures c.if-is_gone.false).1

pub bounds-self-o-2 : goal.bounds-self-o-2
bounds-self-o-2 c = (small c.args.p c.is_gone.result c.is_gone.ensures c.if-is_gone.false).1

pub bounds-self-a : goal.bounds-self-a
bounds-self-a c = (small c.args.p c.is_gone.result c.is_gone.ensures c.if-is_gone.false).0

pub bounds-self-a-2 : goal.bounds-self-a-2
bounds-self-a-2 c = (small c.args.p c.is_gone.result c.is_gone.ensures c.if-is_gone.false).0

pub bounds-self-o-3 : goal.bounds-self-o-3
bounds-self-o-3 c = (small c.args.p c.is_gone.result c.is_gone.ensures c.if-is_gone.false).1

pub bounds-self-o-4 : goal.bounds-self-o-4
bounds-self-o-4 c = (small c.args.p c.is_gone.result c.is_gone.ensures c.if-is_gone.false).1

pub returns : goal.returns
returns c n op i l at s =
    let a = c.args in
    let tied = c.tied_later-tied in
    let own = c.with_member-own in
    let others = c.without-others in
    swept-live n op i l a.p at a.self.now s (sym c.is_gone.ensures ∙ c.if-is_gone.false) tied.result others.result c.with_member.result c.with_writer.result
    tied.ensures
    (λ k. less-members tied.result own.result others.result others.ensures k ∙ ap (λ (b : Bool). mem tied.result k && not b) (ap (λ (x : _). mem x k) own.ensures ∙ mem-alone a.p.responsible k (small c.args.p c.is_gone.result c.is_gone.ensures c.if-is_gone.false).0))
    c.with_member.ensures c.with_writer.ensures
