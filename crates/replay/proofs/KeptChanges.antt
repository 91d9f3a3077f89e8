-- How ties between committed operations change with the operations: where none becomes committed there are no more of them than before, and where
-- some of t's do, whatever is added begins or ends at t.
use Prim.Native.Nat.{ℕ, ◌<◌}
use native.Mathlib.Omega.{arith}
use mathlib.Core.Path.{◌≡◌, sym, ap, ◌∙◌}
use mathlib.Core.Bool.{Bool, true, false}
use mathlib.Core.Logic.{◌⊎◌, inl, inr, ⊎_elim}
use lib.ListN.{length}
use borrow.Author.Tests.{eq-eqb, lt-ltb, ne_eqb}
use Rattle.laws.proofs.Bools.{bool_cases, clash}
use Rattle.laws.proofs.Decisions.{lt-or, same_or}
use Rattle.sets.proofs.ReachLaws.{AddsAt}
use Rattle.ties.specs.Operations.{is_committed, made, most_operations, no_operation, op_at, rewritten, size}
use Rattle.ties.specs.declared.Operation.{Operation}
use Rattle.ties.specs.declared.Ops.{Ops}
use Rattle.ties.proofs.OpsLaws.{made_at, made-full, rewritten-at, size-made}
use Rattle.replay.specs.Replay.{comes_before}
use Rattle.replay.proofs.KeptTies.{KeptTie, of-tie, tie-of}

-- p was accepted before, and is as it was
pub record Same (old new : Ops) (p : ℕ) : Type 0 where
  pub low : p < size old
  pub same : op_at new p ≡ op_at old p

-- what is committed was so before
abbrev pub Unmoved : Ops → Ops → Type 0
Unmoved old new = (p : ℕ) → p < size new → is_committed (op_at new p).fate ≡ true → Same old new p

-- what is committed was so before, or is t's
abbrev pub CommittedBy : ℕ → Ops → Ops → Type 0
CommittedBy t old new = (p : ℕ) → p < size new → is_committed (op_at new p).fate ≡ true → Same old new p ⊎ ((op_at new p).responsible ≡ t)

module _ (old new : Ops) where
  -- a tie of two that are as they were was there before
  still : (a b : ℕ) (w : KeptTie new a b) → Same old new w.way.p → Same old new w.way.q → comes_before old a b ≡ true
  still a b w p q =
      of-tie old a b
      (record {
        way =
            record {
              p = w.way.p;
              q = w.way.q;
              earlier = w.way.earlier;
              below = q.low;
              tie = rw (p.same, q.same) at w.way.tie;
              first = rw p.same at w.way.first;
              second = rw q.same at w.way.second;
            };
        here = rw p.same at w.here;
        there = rw q.same at w.there;
      })

  early : {a b : ℕ} (w : KeptTie new a b) → w.way.p < size new
  early w = omega (arith, w.way.earlier, w.way.below)

  pub unmoved-ties : Unmoved old new → (a b : ℕ) → comes_before new a b ≡ true → comes_before old a b ≡ true
  unmoved-ties unmoved a b h =
      let w = tie-of new a b h in
      still a b w (unmoved w.way.p (early w) w.here) (unmoved w.way.q w.way.below w.there)

  pub committed-ties : (t : ℕ) → CommittedBy t old new → AddsAt (comes_before old) (comes_before new) t
  committed-ties t by a b h =
      let w = tie-of new a b h in
      ⊎_elim
      (λ p.
      ⊎_elim (λ q. inl (still a b w p q)) (λ e. inr (inr (sym w.way.second ∙ e))) (by w.way.q w.way.below w.there))
      (λ e. inr (inl (sym w.way.first ∙ e)))
      (by w.way.p (early w) w.here)

-- ---- operations rewritten

module _ (which : ℕ → Operation → Bool) (how : Operation → Operation) (quiet : (p : ℕ) → which p no_operation ≡ false) (ops : Ops) where
  abbrev after : Ops
  after = rewritten which how ops

  -- each that was accepted is rewritten, or is as it was
  by-chosen : {A : Type 0} (p : ℕ) → p < size ops → (which p (op_at ops p) ≡ true → op_at after p ≡ how (op_at ops p) → A)
      → (Same ops after p → A) → A
  by-chosen p l chosen other =
      bool_cases (which p (op_at ops p))
      (λ h. chosen h (rewritten-at which how quiet ops p ∙ rw (lt-ltb p (size ops) l, h)))
      (λ h. other (record { low = l; same = rewritten-at which how quiet ops p ∙ rw (lt-ltb p (size ops) l, h) }))

  -- what is rewritten is not committed
  pub rewritten-unmoved : ((p : ℕ) → which p (op_at ops p) ≡ true → is_committed (how (op_at ops p)).fate ≡ false) → Unmoved ops after
  unfolding rewritten
  rewritten-unmoved running p l c =
      by-chosen p l (λ h e. clash c (ap (λ (x : Operation). is_committed x.fate) e ∙ running p h)) (λ same. same)

  -- what is rewritten is t's
  pub rewritten-by : (t : ℕ) → ((p : ℕ) → which p (op_at ops p) ≡ true → (how (op_at ops p)).responsible ≡ t) → CommittedBy t ops after
  unfolding rewritten
  rewritten-by t mine p l c = by-chosen p l (λ h e. inr (ap (λ (x : Operation). x.responsible) e ∙ mine p h)) (λ same. inl same)

-- ---- one operation more

-- one that is not committed changes nothing of those that are
pub made-unmoved : (op : Operation) (ops : Ops) → is_committed op.fate ≡ false → length ops.all ≡ most_operations → Unmoved ops (made op ops)
made-unmoved op ops running whole p l c =
    lt-or ops.count most_operations
    (λ room.
    same_or p ops.count
    (λ e.
    let new : op_at (made op ops) p ≡ op = made_at op ops whole room p ∙ rw (eq-eqb p ops.count e) in
    clash c (ap (λ (x : Operation). is_committed x.fate) new ∙ running))
    (λ e. record { low = omega (arith, size-made op ops room); same = made_at op ops whole room p ∙ rw (ne_eqb p ops.count e) }))
    (λ full. record { low = rw (made-full op ops full) at l; same = ap (λ (x : Ops). op_at x p) (made-full op ops full) })
