-- Ties, those that count for the order of transactions and what they say of who stands before whom; dirty reads.
use Prim.Native.Nat.{ℕ, ◌<◌}
use native.Mathlib.Omega.{arith}
use mathlib.Core.Path.{◌≡◌, sym, ap₂, fun_ext}
use mathlib.Core.Bool.{true, false, ◌&&◌, ◌||◌}
use mathlib.Core.Logic.{◌≢◌}
use lib.Dec.{ltb, leb, eqb}
use borrow.Author.Tests.{ltb-true, leb-false, eqb-true, eq-eqb, ne_eqb, lt-ltb}
use Rattle.laws.specs.Index.{any_below}
use Rattle.laws.proofs.Bools.{and_on, on_and, or_off, off-or, not_on, on-not, together, clash}
use Rattle.laws.proofs.IndexLaws.{any-intro, any-elim, any_same}
use Rattle.terms.specs.Limits.{most_transactions, most_objects}
use Rattle.sets.specs.Reach.{among}
use Rattle.ties.specs.declared.Operation.{Operation}
use Rattle.ties.specs.declared.Ops.{Ops}
use Rattle.ties.specs.Operations.{is_aborted, op_at, size}
use Rattle.ties.specs.Ties.{conflict, is_gone, neither_gone, apart, tied_to, tied, counts, edge, ties_of}

-- the parts of a tie
pub record Tie (ops : Ops) (p q : ℕ) : Type 0 where
  pub accepted : q < size ops
  pub earlier : p < q
  pub holds : tied_to (op_at ops p) (op_at ops q) q ≡ true

pub tie_parts : (ops : Ops) (p q : ℕ) → tied ops p q ≡ true → Tie ops p q
unfolding tied
tie_parts ops p q h =
    let x = on_and (ltb q (size ops)) (ltb p q && tied_to (op_at ops p) (op_at ops q) q) h in
    let y = on_and (ltb p q) (tied_to (op_at ops p) (op_at ops q) q) x.1 in
    record { accepted = ltb-true q (size ops) x.0; earlier = ltb-true p q y.0; holds = y.1 }

pub tie-made : (ops : Ops) (p q : ℕ) → Tie ops p q → tied ops p q ≡ true
unfolding tied
tie-made ops p q w = rw (lt-ltb q (size ops) w.accepted, lt-ltb p q w.earlier) w.holds

-- ---- ties that count for the order of transactions

-- what counts for the order has numbers within the limits
pub kept_small : (op : Operation) → is_gone op ≡ false → (op.responsible < most_transactions) × (op.object < most_objects)
kept_small op h =
    let past = (off-or (is_aborted op.fate) (leb most_transactions op.responsible || leb most_objects op.object) h).1 in
    let both = off-or (leb most_transactions op.responsible) (leb most_objects op.object) past in
    (leb-false most_transactions op.responsible both.0, leb-false most_objects op.object both.1)

pub record Counted (p q : Operation) : Type 0 where
  pub conflicts : conflict p q.object q.mark ≡ true
  pub here : is_gone p ≡ false
  pub there : is_gone q ≡ false
  pub other : p.responsible ≢ q.responsible

module _ (p q : Operation) where
  pub counted : counts p q ≡ true → Counted p q
  unfolding counts
  counted h =
      let x = on_and (conflict p q.object q.mark) (neither_gone p q && apart p q) h in
      let y = on_and (neither_gone p q) (apart p q) x.1 in
      let d = off-or (is_gone p) (is_gone q) (on-not (is_gone p || is_gone q) y.0) in
      record {
        conflicts = x.0;
        here = d.0;
        there = d.1;
        other = λ e. clash (eq-eqb p.responsible q.responsible e) (on-not (eqb p.responsible q.responsible) y.1);
      }

  pub counts-on : Counted p q → counts p q ≡ true
  unfolding counts
  counts-on w =
      and_on (conflict p q.object q.mark) (neither_gone p q && apart p q) w.conflicts
      (and_on (neither_gone p q) (apart p q)
      (not_on (is_gone p || is_gone q) (or_off (is_gone p) (is_gone q) w.here w.there))
      (not_on (eqb p.responsible q.responsible) (ne_eqb p.responsible q.responsible w.other)))

  -- such a tie is between transactions
  pub counts-small : counts p q ≡ true → (p.responsible < most_transactions) × (q.responsible < most_transactions)
  counts-small h = let w = counted h in ((kept_small p w.here).0, (kept_small q w.there).0)

-- the tie by which a stands before b
pub record Between (n : ℕ) (op : ℕ → Operation) (a b : ℕ) : Type 0 where
  pub p : ℕ
  pub q : ℕ
  pub earlier : p < q
  pub below : q < n
  pub tie : Counted (op p) (op q)
  pub first : (op p).responsible ≡ a
  pub second : (op q).responsible ≡ b

module _ (n : ℕ) (op : ℕ → Operation) (a b : ℕ) where
  pub between : ties_of n op a b ≡ true → Between n op a b
  unfolding ties_of edge
  between h =
      let far = any-elim n (λ q. any_below q (λ p. edge (op p) (op q) a b)) h in
      let q = far.0 in
      let near = any-elim q (λ p. edge (op p) (op q) a b) far.2 in
      let p = near.0 in
      let parts = on_and (counts (op p) (op q)) (eqb a (op p).responsible && eqb b (op q).responsible) near.2 in
      let names = on_and (eqb a (op p).responsible) (eqb b (op q).responsible) parts.1 in
      record {
        p = p;
        q = q;
        earlier = near.1;
        below = far.1;
        tie = counted (op p) (op q) parts.0;
        first = sym (eqb-true a (op p).responsible names.0);
        second = sym (eqb-true b (op q).responsible names.1);
      }

  pub ties-on : Between n op a b → ties_of n op a b ≡ true
  unfolding ties_of edge
  ties-on w =
      let p = w.p in
      let q = w.q in
      any-intro n (λ j. any_below j (λ i. edge (op i) (op j) a b)) q w.below
      (any-intro q (λ i. edge (op i) (op q) a b) p w.earlier
      (and_on (counts (op p) (op q)) (eqb a (op p).responsible && eqb b (op q).responsible) (counts-on (op p) (op q) w.tie)
      (and_on (eqb a (op p).responsible) (eqb b (op q).responsible)
      (eq-eqb a (op p).responsible (sym w.first)) (eq-eqb b (op q).responsible (sym w.second)))))

  pub ties-small : ties_of n op a b ≡ true → (a < most_transactions) × (b < most_transactions)
  ties-small h =
      let w = between h in
      let x = (kept_small (op w.p) w.tie.here).0 in
      let y = (kept_small (op w.q) w.tie.there).0 in
      (omega (arith, x, w.first), omega (arith, y, w.second))

  -- so nothing is lost among the numbers of transactions
  pub ties-among : among most_transactions (ties_of n op) a b ≡ ties_of n op a b
  ties-among =
      together (among most_transactions (ties_of n op) a b) (ties_of n op a b)
      (λ h. (on_and (ltb b most_transactions) (ties_of n op a b) (on_and (ltb a most_transactions) (ltb b most_transactions && ties_of n op a b) h).1).1)
      (λ h.
      let small = ties-small h in
      and_on (ltb a most_transactions) (ltb b most_transactions && ties_of n op a b) (lt-ltb a most_transactions small.0)
      (and_on (ltb b most_transactions) (ties_of n op a b) (lt-ltb b most_transactions small.1) h))

-- the same operations, the same ties
pub ties-same : (n : ℕ) (f g : ℕ → Operation) → ((i : ℕ) → i < n → f i ≡ g i) → ties_of n f ≡ ties_of n g
unfolding ties_of
ties-same n f g h =
    fun_ext (λ a. fun_ext (λ b.
    any_same n (λ q. any_below q (λ p. edge (f p) (f q) a b)) (λ q. any_below q (λ p. edge (g p) (g q) a b))
    (λ q l.
    any_same q (λ p. edge (f p) (f q) a b) (λ p. edge (g p) (g q) a b)
    (λ p m. ap₂ (λ (x y : Operation). edge x y a b) (h p (omega arith)) (h q l)))))
