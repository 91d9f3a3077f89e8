-- How the order of transactions changes with the operations: a new one adds pairs that end at its invoker, one that is given adds pairs of its
-- receiver, and an end adds none.
use Prim.Native.Nat.{ℕ, ◌+◌, ◌<◌}
use native.Mathlib.Omega.{arith}
use mathlib.Core.Path.{◌≡◌, refl, sym, ap, ◌∙◌}
use mathlib.Core.Bool.{Bool, true, false, cond, ◌||◌}
use mathlib.Core.Logic.{inl, inr}
use lib.Dec.{ltb, leb, eqb}
use lib.ListN.{length}
use borrow.Author.Tests.{eq-eqb, eqb-true, ne_eqb}
use Rattle.laws.proofs.Bools.{bool_cases, clash, off-or, on_and, or_off}
use Rattle.laws.proofs.Decisions.{lt-or}
use Rattle.terms.specs.Limits.{most_transactions, most_objects}
use Rattle.sets.proofs.ReachLaws.{AddsAt}
use Rattle.ties.specs.declared.Fate.{Fate}
use Rattle.ties.specs.declared.Fate.TheVariants.{Aborted, Active, Committed}
use Rattle.ties.specs.declared.Operation.{Operation}
use Rattle.ties.specs.declared.Ops.{Ops}
use Rattle.ties.specs.Operations.{all_held_by, ended_as, given, is_aborted, is_active, is_committed, made, most_operations, no_operation, only_active, op_at, passed_to, rewritten, size}
use Rattle.ties.specs.Ties.{before, before_given, before_handed, before_made, is_gone, op_with, ties_of}
use Rattle.ties.proofs.OpsLaws.{made_at, rewritten-at, size-made}
use Rattle.ties.proofs.TieLaws.{between, ties-on, ties-same}

-- what is active is not aborted
pub active-stands : (f : Fate) → is_active f ≡ true → is_aborted f ≡ false
active-stands Aborted h = clash h refl
active-stands Active h = refl
active-stands Committed h = clash h refl

pub aborted-idle : (f : Fate) → is_aborted f ≡ true → is_active f ≡ false
aborted-idle Aborted h = refl
aborted-idle Active h = clash h refl
aborted-idle Committed h = clash h refl

pub active-uncommitted : (f : Fate) → is_active f ≡ true → is_committed f ≡ false
active-uncommitted Aborted h = clash h refl
active-uncommitted Active h = refl
active-uncommitted Committed h = clash h refl

-- ---- one operation more

-- where there is room it is the order of the operations with it
pub made-order : (ops : Ops) (x : Operation) → length ops.all ≡ most_operations → ops.count < most_operations → before_made ops x ≡ before (made x ops)
made-order ops x e h =
    ap (λ (n : ℕ). ties_of n (op_with ops (size ops) x)) (sym (size-made x ops h))
    ∙ ties-same (size (made x ops)) (op_with ops (size ops) x) (op_at (made x ops))
    (λ i l. ap (λ (n : ℕ). cond (eqb i n) x (op_at ops i)) count ∙ sym (made_at x ops e h i))
  where
    count : size ops ≡ ops.count
    count = omega arith

pub made-adds : (ops : Ops) (x : Operation) → AddsAt (before ops) (before_made ops x) x.responsible
made-adds ops x a b h =
    let w = between (size ops + 1) (op_with ops (size ops) x) a b h in
    let low : (i : ℕ) → i < size ops → op_with ops (size ops) x i ≡ op_at ops i = λ i l. rw (ne_eqb i (size ops) (λ e. omega arith)) in
    lt-or w.q (size ops)
    (λ l.
    let fp = low w.p (omega (arith, w.earlier)) in
    let fq = low w.q l in
    inl
    (ties-on (size ops) (op_at ops) a b
    (record {
      p = w.p;
      q = w.q;
      earlier = w.earlier;
      below = l;
      tie = rw (← fp, ← fq) w.tie;
      first = rw (← fp) w.first;
      second = rw (← fq) w.second;
    })))
    (λ l.
    let last : w.q ≡ size ops = omega (arith, w.below) in
    let here : op_with ops (size ops) x w.q ≡ x = rw (eq-eqb w.q (size ops) last) in
    inr (inr (sym w.second ∙ ap (λ (op : Operation). op.responsible) here)))

-- ---- operations rewritten

module _ (which : ℕ → Operation → Bool) (how : Operation → Operation) (quiet : (p : ℕ) → which p no_operation ≡ false) (ops : Ops) where
  -- each is as it was, or was chosen and is what is made of it
  rewritten-cases : {A : Type 0} (p : ℕ) → (op_at (rewritten which how ops) p ≡ op_at ops p → A)
      → (which p (op_at ops p) ≡ true → op_at (rewritten which how ops) p ≡ how (op_at ops p) → A) → A
  rewritten-cases p same new =
      bool_cases (ltb p (size ops))
      (λ l.
      bool_cases (which p (op_at ops p))
      (λ h. new h (rewritten-at which how quiet ops p ∙ rw (l, h)))
      (λ h. same (rewritten-at which how quiet ops p ∙ rw (l, h))))
      (λ l. same (rewritten-at which how quiet ops p ∙ rw l))

-- active operations that end add no pair
module _ (which : ℕ → Operation → Bool) (running : (p : ℕ) (op : Operation) → which p op ≡ true → is_active op.fate ≡ true) (fate : Fate) (n : ℕ) (ops : Ops) where
  quiet : (p : ℕ) → which p no_operation ≡ false
  quiet p = bool_cases (which p no_operation) (λ h. clash (running p no_operation h) refl) (λ h. h)

  abbrev ended : Ops
  ended = rewritten which (ended_as fate n) ops

  -- what of an operation the order goes by
  record Alike (x y : Operation) : Type 0 where
    object : x.object ≡ y.object
    mark : x.mark ≡ y.mark
    responsible : x.responsible ≡ y.responsible
    there : is_gone y ≡ false

  alike : (p : ℕ) → is_gone (op_at ended p) ≡ false → Alike (op_at ended p) (op_at ops p)
  alike p h =
      rewritten-cases which (ended_as fate n) quiet ops p
      (λ e. record {
        object = ap (λ (x : Operation). x.object) e;
        mark = ap (λ (x : Operation). x.mark) e;
        responsible = ap (λ (x : Operation). x.responsible) e;
        there = ap is_gone (sym e) ∙ h;
      })
      (λ w e.
      let limits = (off-or (is_aborted fate) (leb most_transactions (op_at ops p).responsible || leb most_objects (op_at ops p).object) (ap is_gone (sym e) ∙ h)).1 in
      record {
        object = ap (λ (x : Operation). x.object) e;
        mark = ap (λ (x : Operation). x.mark) e;
        responsible = ap (λ (x : Operation). x.responsible) e;
        there = or_off (is_aborted (op_at ops p).fate) (leb most_transactions (op_at ops p).responsible || leb most_objects (op_at ops p).object)
            (active-stands (op_at ops p).fate (running p (op_at ops p) w)) limits;
      })

  pub ended-order : (a b : ℕ) → before ended a b ≡ true → before ops a b ≡ true
  unfolding rewritten
  ended-order a b h =
      let w = between (size ended) (op_at ended) a b h in
      let x = alike w.p w.tie.here in
      let y = alike w.q w.tie.there in
      ties-on (size ops) (op_at ops) a b
      (record {
        p = w.p;
        q = w.q;
        earlier = w.earlier;
        below = w.below;
        tie =
            record {
              conflicts = rw (← x.object, ← x.mark, ← y.object, ← y.mark) w.tie.conflicts;
              here = x.there;
              there = y.there;
              other = λ e. w.tie.other (x.responsible ∙ e ∙ sym y.responsible);
            };
        first = sym x.responsible ∙ w.first;
        second = sym y.responsible ∙ w.second;
      })

-- ---- operations that change hands: each pair that comes of it has the receiver at one end

module _ (which : ℕ → Operation → Bool) (quiet : (p : ℕ) → which p no_operation ≡ false) (ops : Ops) (r : ℕ) where
  passed-adds : AddsAt (before ops) (before (rewritten which (passed_to r) ops)) r
  unfolding rewritten
  passed-adds a b h =
      let w = between (size (rewritten which (passed_to r) ops)) (op_at (rewritten which (passed_to r) ops)) a b h in
      rewritten-cases which (passed_to r) quiet ops w.p
      (λ fp.
      rewritten-cases which (passed_to r) quiet ops w.q
      (λ fq.
      inl
      (ties-on (size ops) (op_at ops) a b
      (record {
        p = w.p;
        q = w.q;
        earlier = w.earlier;
        below = w.below;
        tie = rw (← fp, ← fq) w.tie;
        first = rw (← fp) w.first;
        second = rw (← fq) w.second;
      })))
      (λ z fq. inr (inr (sym w.second ∙ ap (λ (op : Operation). op.responsible) fq))))
      (λ z fp. inr (inl (sym w.first ∙ ap (λ (op : Operation). op.responsible) fp)))

-- all that t is at work on
pub handed-adds : (ops : Ops) (t r : ℕ) → AddsAt (before ops) (before_handed ops t r) r
handed-adds ops t r = passed-adds (all_held_by t) (λ p. refl) ops r

-- one operation
module _ (ops : Ops) (q r : ℕ) where
  -- one that has ended is not given at all
  pub given-ended : is_active (op_at ops q).fate ≡ false → before_given ops q r ≡ before ops
  unfolding rewritten
  given-ended h =
      ties-same (size ops) (op_at (given q r ops)) (op_at ops)
      (λ i l.
      rewritten-cases (only_active q) (passed_to r) (λ p. refl) ops i (λ e. e)
      (λ w e.
      let both = on_and (is_active (op_at ops i).fate) (eqb i q) w in
      clash both.0 (ap (λ (k : ℕ). is_active (op_at ops k).fate) (eqb-true i q both.1) ∙ h)))

  pub given-adds : AddsAt (before ops) (before_given ops q r) r
  given-adds = passed-adds (only_active q) (λ p. refl) ops r
