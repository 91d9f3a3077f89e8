use native.Mathlib.Omega.{arith}
use Prim.Native.Nat.{ℕ}
use mathlib.Core.Path.{◌≡◌, sym, ap, ◌∙◌}
use borrow.Author.Rules.{rules}
use Rattle.ties.specs.Operations.{all_held_by, ended_as, rewritten}
use Rattle.cells.specs.Cells.{fits, ops_in}
use Rattle.cells.proofs.CellLaws.{ended-fits, size_in}
use Rattle.cells.proofs.ended.Goals as goal

pub rewritten-requires-clause-kept : goal.rewritten-requires-clause-kept
rewritten-requires-clause-kept c op made f p =
    let a = c.args in
    let accepted = c.size-all.result in
    let is : made ≡ ended_as a.fate accepted op = search rules in
    ap fits is ∙ ended-fits a.fate accepted op (omega arith) f

pub returns : goal.returns
returns c =
    let a = c.args in
    c.rewritten.ensures (ended_as a.fate c.size-all.result) (λ op made f p. search rules)
    ∙ ap (λ (k : ℕ). rewritten (all_held_by a.t) (ended_as a.fate k) (ops_in a.ops.now a.n)) (c.size-all.ensures ∙ sym (size_in a.ops.now a.n))
