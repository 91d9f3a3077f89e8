-- A state put into lent numbers, place by place.
use Prim.Native.Nat.{ℕ, ◌+◌, ◌≤◌, ◌<◌}
use native.Mathlib.Omega.{arith}
use mathlib.Core.Path.{◌≡◌, refl, sym, ap, ◌∙◌}
use mathlib.Core.Bool.{true, cond}
use mathlib.Core.List.{List}
use lib.Dec.{eqb}
use lib.ListN.{length, replicate}
use lib.Seq.{ext_get_or}
use borrow.Author.Tests.{eq-eqb, ne_eqb}
use Rattle.laws.proofs.Decisions.{lt-or, same_or}
use Rattle.ties.specs.Operations.{made, most_operations, no_operation, op_at, size}
use Rattle.ties.specs.declared.Operation.{Operation}
use Rattle.ties.specs.declared.Ops.{Ops}
use Rattle.ties.proofs.OpsLaws.{length-made, made_at, made-room}
use Rattle.cells.specs.Cells.{WholeOps, fits, made_in, ops_in}
use Rattle.cells.proofs.CellLaws.{count-in, none_yet}
use Rattle.judge.proofs.ChangeLaws.{empty-whole, made-fits}

-- the first i operations are put, and behind them nothing stands
abbrev pub Put : Ops → ℕ → List ℕ → ℕ → Type 0
Put all i l n =
    (n ≡ i) × (length (ops_in l n).all ≡ most_operations) × ((k : ℕ) → k < i → op_at (ops_in l n) k ≡ op_at all k)
    × ((k : ℕ) → i ≤ k → op_at (ops_in l n) k ≡ no_operation)

pub put-none : (all : Ops) → Put all 0 (replicate most_operations 0) 0
put-none all = (
  refl,
  ap (λ (x : Ops). length x.all) none_yet ∙ empty-whole.1.0,
  λ k h. absurd (omega arith),
  λ k h. ap (λ (x : Ops). op_at x k) none_yet ∙ empty-whole.1.1 k (omega arith),
)

module _ (all : Ops) (i : ℕ) (l l' : List ℕ) (n n' : ℕ) (op : Operation) (low : i < most_operations) (is : op ≡ op_at all i) (fit : fits op ≡ true) (e : ops_in l' n' ≡ made_in op (ops_in l n)) (p : Put all i l n) where
  count : (ops_in l n).count ≡ i
  count = count-in l n ∙ p.0

  now-made : ops_in l' n' ≡ made op (ops_in l n)
  now-made = e ∙ made-fits op (ops_in l n) fit

  small : (ops_in l n).count < most_operations
  small = omega (arith, count)

  put-at : (k : ℕ) → op_at (ops_in l' n') k ≡ cond (eqb k (ops_in l n).count) op (op_at (ops_in l n) k)
  put-at k = ap (λ (x : Ops). op_at x k) now-made ∙ made_at op (ops_in l n) p.1 small k

  pub put-more : Put all (i + 1) l' n'
  put-more = (
    sym (count-in l' n') ∙ ap (λ (x : Ops). x.count) (now-made ∙ made-room op (ops_in l n) small) ∙ ap (λ (m : ℕ). m + 1) count,
    ap (λ (x : Ops). length x.all) now-made ∙ length-made op (ops_in l n) ∙ p.1,
    λ k h.
        same_or k i
        (λ q. put-at k ∙ rw (eq-eqb k (ops_in l n).count (q ∙ sym count)) (is ∙ ap (op_at all) (sym q)))
        (λ q. put-at k ∙ rw (ne_eqb k (ops_in l n).count (λ x. q (x ∙ count))) (p.2 k (omega arith))),
    λ k h. put-at k ∙ rw (ne_eqb k (ops_in l n).count (λ x. absurd (omega (arith, count)))) (p.3 k (omega arith)),
  )

pub put_all : (all : Ops) (i : ℕ) (l : List ℕ) (n : ℕ) → Put all i l n → i ≡ size all → WholeOps all → all.count ≤ most_operations → ops_in l all.count ≡ all
put_all all i l n p e w few =
    let there : n ≡ all.count = omega (arith, p.0) in
    ap (ops_in l) (sym there) ∙ (λ j. record { all = ext_get_or no_operation (ops_in l n).all all.all (p.1 ∙ sym w.0) same j; count = (count-in l n ∙ there) j })
  where
    same : (k : ℕ) → k < length (ops_in l n).all → op_at (ops_in l n) k ≡ op_at all k
    same k h = lt-or k i (λ a. p.2 k a) (λ a. p.3 k a ∙ sym (w.1 k (omega arith)))
