use Prim.Native.Nat.{ℕ}
use mathlib.Core.Path.{ap₂, ◌∙◌}
use mathlib.Core.Bool.{Bool, ◌&&◌, ◌||◌}
use lib.Dec.{eqb}
use Rattle.closing.proofs.ReturnLaws.{settled-unlisted, settled_at}
use Rattle.closing.proofs.settled.Goals as goal

pub returns-then-not-is_listed : goal.returns-then-not-is_listed
returns-then-not-is_listed c = settled-unlisted c.args.tables c.args.state c.args.saga c.is_listed.ensures c.if-not-is_listed.true

pub returns : goal.returns
returns c =
    let a = c.args in
    let s = c.saga_at-s in
    let p = c.own-phase in
    ap₂ (λ (x y : Bool). x || y)
    c.is_committed.ensures
    (ap₂ (λ (x y : Bool). x && y)
    c.is_aborted.ensures
    (ap₂ (λ (k : ℕ) (y : Bool). eqb k 0 && y) c.active_step-active.ensures c.all_undone-undone.ensures))
    ∙ settled_at a.tables a.state a.saga c.is_listed.ensures c.if-not-is_listed.false s.result s.ensures p.result p.ensures
