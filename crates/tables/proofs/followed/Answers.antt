use borrow.Author.Rules.{rules}
use native.Mathlib.Omega.{arith}
use Prim.Native.Nat.{ℕ, ◌+◌, ◌<◌}
use mathlib.Core.Path.{◌≡◌, sym, ◌∙◌, subst⁻¹}
use mathlib.Core.List.{List}
use lib.ListN.{length, length-set, get_or}
use Rattle.std.proofs.lemmas.List.{set-get_or}
use Rattle.terms.specs.Limits.{most_transactions}
use Rattle.sets.proofs.RowLaws.{Holds, table_of, partly, rows-first, rows_none, rows_more, rows_last, partly_none, partly-all, partly-in, partly-out}
use Rattle.tables.proofs.followed.Goals as goal
use Rattle.tables.proofs.followed.Goals.{then-member, else-member}

-- after a turn of the inner loop
abbrev Kept : ℕ → List ℕ → ℕ → List ℕ → Type 0
Kept k before a rows = (length rows ≡ most_transactions) × Holds rows (partly k (table_of before) (a + 1))

pub loop-k-init : goal.loop-k-init
loop-k-init c = (search rules, rows_none c.args.links)

pub loop-row-init : goal.loop-row-init
loop-row-init c = (c.loop-k.invariant.0, partly_none c.loop-k.k (table_of c.loop-k.rows) c.loop-k.rows (rows-first c.loop-k.rows))

pub loop-row-preserved : goal.loop-row-preserved
loop-row-preserved c =
    let l = c.loop-row in
    let o = c.loop-k in
    let low : o.k < most_transactions = omega arith in
    let told = c.member.ensures in
    elim c.if-member.branch [
      | then-member w ↦
          subst⁻¹ (Kept o.k o.rows l.row-index) w.row-items-is (
            length-set l.row-items l.row-index _ ∙ l.invariant.0,
            partly-in o.k (table_of o.rows) l.row-items l.row-index (omega arith) l.invariant.1 low l.invariant.0 (sym told ∙ w.if-member.true)
                (get_or o.rows o.k 0) (λ b m. rows-first o.rows o.k b low m),
          )
      | else-member w ↦
          subst⁻¹ (Kept o.k o.rows l.row-index) (w.row-items-is ∙ set-get_or l.row-items l.row-index 0)
          (l.invariant.0, partly-out o.k (table_of o.rows) l.row-items l.row-index (omega arith) l.invariant.1 low (sym told ∙ w.if-member.false))
    ]

pub loop-k-preserved : goal.loop-k-preserved
loop-k-preserved c =
    let o = c.loop-k in
    let l = c.loop-row in (
      l.invariant.0,
      rows_more o.k (omega arith) (table_of c.args.links) o.rows l.row-items o.invariant.1
          (partly-all o.k (table_of o.rows) l.row-items l.row-index (omega arith) l.invariant.1),
    )

pub returns : goal.returns
returns c = rows_last c.args.links c.loop-k.rows c.loop-k.k (omega arith) c.loop-k.invariant.1
