-- The dirty-read rule as a line and in words: every write tied before a read that t answers for is clean for t.
use Prim.Native.Nat.{ℕ, ◌<◌}
use mathlib.Core.Path.{◌≡◌}
use mathlib.Core.Bool.{true, false, not, ◌&&◌}
use lib.Dec.{eqb}
use borrow.Author.Tests.{eq-eqb, eqb-true}
use Rattle.laws.specs.Index.{any_below}
use Rattle.laws.proofs.Bools.{and-off, and-rest, not-off, off-not, on_and, on-not}
use Rattle.laws.proofs.IndexLaws.{any-elim, any-off, off-any}
use Rattle.terms.specs.Events.{is_write}
use Rattle.ties.specs.Operations.{is_aborted, op_at, size}
use Rattle.ties.specs.Ties.{clean_for, dirties, dirty_at, read_by, tied, tied_to}
use Rattle.ties.specs.declared.Operation.{Operation}
use Rattle.ties.specs.declared.Ops.{Ops}
use Rattle.ties.proofs.TieLaws.{tie-made, tie_parts}

-- a read that t answers for, by its parts
pub read_on : (t : ℕ) (q : Operation) → q.responsible ≡ t → is_write q.mark ≡ false → is_aborted q.fate ≡ false → read_by t q ≡ true
read_on t q own read there = rw (eq-eqb q.responsible t own, read, there)

pub read-parts : (t : ℕ) (q : Operation) → read_by t q ≡ true → (q.responsible ≡ t) × ((is_write q.mark ≡ false) × (is_aborted q.fate ≡ false))
read-parts t q h =
    let own = on_and (eqb q.responsible t) (not (is_write q.mark) && not (is_aborted q.fate)) h in
    let rest = on_and (not (is_write q.mark)) (not (is_aborted q.fate)) own.1 in
    (eqb-true q.responsible t own.0, (on-not (is_write q.mark) rest.0, on-not (is_aborted q.fate) rest.1))

module _ (ops : Ops) (t q : ℕ) where
  abbrev pub CleanBefore : Type 0
  CleanBefore = (p : ℕ) → is_write (op_at ops p).mark ≡ true → tied ops p q ≡ true → clean_for t (op_at ops p) ≡ true

  pub dirty-clean : dirty_at ops t q ≡ false → read_by t (op_at ops q) ≡ true → CleanBefore
  unfolding dirty_at
  dirty-clean d r p w tie =
      let parts = tie_parts ops p q tie in
      let none = and-rest (read_by t (op_at ops q)) (any_below q (λ i. dirties t (op_at ops q) q (op_at ops i))) d r in
      let at_p = off-any q (λ i. dirties t (op_at ops q) q (op_at ops i)) none p parts.earlier in
      let tied-p = and-rest (is_write (op_at ops p).mark) (tied_to (op_at ops p) (op_at ops q) q && not (clean_for t (op_at ops p))) at_p w in
      off-not (clean_for t (op_at ops p)) (and-rest (tied_to (op_at ops p) (op_at ops q) q) (not (clean_for t (op_at ops p))) tied-p parts.holds)

  pub clean-dirty : q < size ops → (read_by t (op_at ops q) ≡ true → CleanBefore) → dirty_at ops t q ≡ false
  unfolding dirty_at
  clean-dirty accepted clean =
      and-off (read_by t (op_at ops q)) (any_below q (λ i. dirties t (op_at ops q) q (op_at ops i)))
      (λ r.
      any-off q (λ i. dirties t (op_at ops q) q (op_at ops i))
      (λ i l.
      and-off (is_write (op_at ops i).mark) (tied_to (op_at ops i) (op_at ops q) q && not (clean_for t (op_at ops i)))
      (λ w.
      and-off (tied_to (op_at ops i) (op_at ops q) q) (not (clean_for t (op_at ops i)))
      (λ tie. not-off (clean_for t (op_at ops i)) (clean r i w (tie-made ops i q (record { accepted = accepted; earlier = l; holds = tie })))))))

  -- the write that makes it dirty
  pub dirty-by : q < size ops → dirty_at ops t q ≡ true
      → (read_by t (op_at ops q) ≡ true) × ((p : ℕ) × (is_write (op_at ops p).mark ≡ true) × (tied ops p q ≡ true) × (clean_for t (op_at ops p) ≡ false))
  unfolding dirty_at
  dirty-by accepted d =
      let both = on_and (read_by t (op_at ops q)) (any_below q (λ i. dirties t (op_at ops q) q (op_at ops i))) d in
      let w = any-elim q (λ i. dirties t (op_at ops q) q (op_at ops i)) both.1 in
      let x = on_and (is_write (op_at ops w.0).mark) (tied_to (op_at ops w.0) (op_at ops q) q && not (clean_for t (op_at ops w.0))) w.2 in
      let y = on_and (tied_to (op_at ops w.0) (op_at ops q) q) (not (clean_for t (op_at ops w.0))) x.1 in (
        both.0,
        (w.0, x.0, tie-made ops w.0 q (record { accepted = accepted; earlier = w.1; holds = y.0 }), on-not (clean_for t (op_at ops w.0)) y.1),
      )
