-- Operations as they are made, delegated and ended: what stands at each place afterwards, and how many there are.
use Prim.Native.Nat.{ℕ, zero, suc, ◌+◌, ◌≤◌, ◌<◌}
use native.Mathlib.Numerals.{add-one}
use native.Mathlib.Omega.{arith}
use mathlib.Core.Path.{◌≡◌, refl, sym, ap, ◌∙◌}
use mathlib.Core.Bool.{Bool, false, cond, and-true, and-false}
use mathlib.Core.List.{List}
use lib.Dec.{ltb, eqb}
use lib.ListN.{length, get_or, set, length-set, get_or-eq_default}
use lib.Seq.{set_out, ext_get_or, get_or-set_same, get_or-set_other}
use borrow.Author.Tests.{lt-ltb, le-ltb, eq-eqb, ne_eqb}
use Rattle.laws.proofs.Bools.{bool_cases}
use Rattle.laws.proofs.Decisions.{same_or, lt-or}
use Rattle.ties.specs.declared.Operation.{Operation}
use Rattle.ties.specs.declared.Ops.{Ops}
use Rattle.ties.specs.Operations.{most_operations, is_active, no_operation, op_at, size, made, changed, rewrites, rewritten, only_active}

-- what stands at p after a store at q
stored_at : (l : List Operation) (q : ℕ) (op : Operation) → q < length l → (p : ℕ) → get_or (set l q op) p no_operation ≡ cond (eqb p q) op (get_or l p no_operation)
stored_at l q op h p =
    same_or p q
    (λ e. rw (eq-eqb p q e, e) (get_or-set_same l q op no_operation h))
    (λ e. rw (ne_eqb p q e) (get_or-set_other l q p op no_operation e))

-- the same for a change that leaves what is no operation as it is: then it does not matter whether the list has a place q
stored-over : (f : Operation → Operation) → f no_operation ≡ no_operation
    → (l : List Operation) (q p : ℕ) → get_or (set l q (f (get_or l q no_operation))) p no_operation ≡ cond (eqb p q) (f (get_or l p no_operation)) (get_or l p no_operation)
stored-over f z l q p =
    same_or p q
    (λ e.
    rw (eq-eqb p q e, e)
    (lt-or q (length l)
    (λ h. get_or-set_same l q (f (get_or l q no_operation)) no_operation h)
    (λ h.
    let past : get_or l q no_operation ≡ no_operation = get_or-eq_default l no_operation {n = q} h in
    ap (λ (s : List Operation). get_or s q no_operation) (set_out l q (f (get_or l q no_operation)) h) ∙ past ∙ sym z ∙ ap f (sym past))))
    (λ e. rw (ne_eqb p q e) (get_or-set_other l q p (f (get_or l q no_operation)) no_operation e))

-- ---- one operation more

pub made-room : (op : Operation) (ops : Ops) → ops.count < most_operations
    → made op ops ≡ record { all = set ops.all ops.count op; count = ops.count + 1 }
unfolding made
made-room op ops h = rw (lt-ltb ops.count most_operations h)

pub made-full : (op : Operation) (ops : Ops) → most_operations ≤ ops.count → made op ops ≡ ops
unfolding made
made-full op ops h = rw (le-ltb ops.count most_operations h)

pub made_at : (op : Operation) (ops : Ops) → length ops.all ≡ most_operations → ops.count < most_operations
    → (p : ℕ) → op_at (made op ops) p ≡ cond (eqb p ops.count) op (op_at ops p)
made_at op ops e h p = rw (made-room op ops h) (stored_at ops.all ops.count op (omega arith) p)

pub size-made : (op : Operation) (ops : Ops) → ops.count < most_operations → size (made op ops) ≡ size ops + 1
size-made op ops h = rw (made-room op ops h) (omega arith)

pub length-made : (op : Operation) (ops : Ops) → length (made op ops).all ≡ length ops.all
length-made op ops =
    lt-or ops.count most_operations
    (λ h. rw (made-room op ops h) (length-set ops.all ops.count op))
    (λ h. rw (made-full op ops h))

-- with another operation at place i
abbrev pub stored : ℕ → Ops → Operation → Ops
stored i ops op = record { all = set ops.all i op; count = ops.count }

-- ---- operations rewritten

-- the first n are done: none, one more, all
pub changed-none : (f : ℕ → Operation → Operation) (l : List Operation) → l ≡ changed 0 f l
unfolding changed
changed-none f l = refl

pub changed-more : (n : ℕ) (f : ℕ → Operation → Operation) (l : List Operation) → set (changed n f l) n (f n (get_or l n no_operation)) ≡ changed (n + 1) f l
unfolding changed
changed-more n f l = rw add-one refl

changed-at : (n : ℕ) (f : ℕ → Operation → Operation) → ((p : ℕ) → f p no_operation ≡ no_operation)
    → (l : List Operation) (p : ℕ) → get_or (changed n f l) p no_operation ≡ cond (ltb p n) (f p (get_or l p no_operation)) (get_or l p no_operation)
unfolding changed
changed-at zero f z l p = rw (le-ltb p 0 (omega arith))
changed-at (suc n) f z l p =
    let here : get_or (changed n f l) n no_operation ≡ get_or l n no_operation = changed-at n f z l n ∙ rw (le-ltb n n (omega arith)) in
    ap (λ (x : Operation). get_or (set (changed n f l) n (f n x)) p no_operation) (sym here)
    ∙ stored-over (f n) (z n) (changed n f l) n p
    ∙ rw (changed-at n f z l p)
    (same_or p n
    (λ e. rw (eq-eqb p n e, le-ltb p n (omega arith), lt-ltb p (suc n) (omega arith)) (ap (λ (k : ℕ). f k (get_or l p no_operation)) (sym e)))
    (λ e.
    rw (ne_eqb p n e)
    (lt-or p n
    (λ h. rw (lt-ltb p n h, lt-ltb p (suc n) (omega arith)))
    (λ h. rw (le-ltb p n h, le-ltb p (suc n) (omega arith))))))

-- those that are not done yet are as they were
pub changed-above : (n : ℕ) (f : ℕ → Operation → Operation) (l : List Operation) (k : ℕ) → n ≤ k → get_or (changed n f l) k no_operation ≡ get_or l k no_operation
unfolding changed
changed-above zero f l k h = refl
changed-above (suc n) f l k h =
    get_or-set_other (changed n f l) n k (f n (get_or l n no_operation)) no_operation (λ e. absurd (omega arith))
    ∙ changed-above n f l k (omega arith)

pub changed-all : (which : ℕ → Operation → Bool) (how : Operation → Operation) (ops : Ops) (i : ℕ) (l : List Operation)
    → l ≡ changed i (rewrites which how) ops.all → i ≡ size ops → record { all = l; count = ops.count } ≡ rewritten which how ops
unfolding rewritten
changed-all which how ops i l e h = λ k. record { all = (e ∙ ap (λ (n : ℕ). changed n (rewrites which how) ops.all) h) k; count = ops.count }

length-changed : (n : ℕ) (f : ℕ → Operation → Operation) (l : List Operation) → length (changed n f l) ≡ length l
unfolding changed
length-changed zero f l = refl
length-changed (suc n) f l = length-set (changed n f l) n (f n (get_or l n no_operation)) ∙ length-changed n f l

-- what is no operation is left as it is
module _ (which : ℕ → Operation → Bool) (how : Operation → Operation) (quiet : (p : ℕ) → which p no_operation ≡ false) (ops : Ops) where
  pub rewritten-at : (p : ℕ) → op_at (rewritten which how ops) p ≡ cond (ltb p (size ops)) (rewrites which how p (op_at ops p)) (op_at ops p)
  unfolding rewritten
  rewritten-at p = changed-at (size ops) (rewrites which how) (λ k. rw (quiet k)) ops.all p

  pub length-rewritten : length (rewritten which how ops).all ≡ length ops.all
  unfolding rewritten
  length-rewritten = length-changed (size ops) (rewrites which how) ops.all

  pub count-rewritten : (rewritten which how ops).count ≡ ops.count
  unfolding rewritten
  count-rewritten = refl

  -- what has the same operations is it
  pub is-rewritten : (l : List Operation) → length l ≡ length ops.all → ((p : ℕ) → get_or l p no_operation ≡ op_at (rewritten which how ops) p)
      → record { all = l; count = ops.count } ≡ rewritten which how ops
  unfolding rewritten
  is-rewritten l e h = λ i. record { all = ext_get_or no_operation l (rewritten which how ops).all (e ∙ sym length-rewritten) (λ k b. h k) i; count = ops.count }

-- one operation: the store of it, and none where there is no such
module _ (q : ℕ) (how : Operation → Operation) (ops : Ops) where
  pub one-stored : q < size ops
      → stored q ops (cond (is_active (op_at ops q).fate) (how (op_at ops q)) (op_at ops q)) ≡ rewritten (only_active q) how ops
  one-stored l =
      is-rewritten (only_active q) how (λ p. refl) ops (set ops.all q after) (length-set ops.all q after)
      (λ p. stored-over alone refl ops.all q p ∙ sym (rewritten-at (only_active q) how (λ k. refl) ops p ∙ there p))
    where
      alone : Operation → Operation
      alone op = cond (is_active op.fate) (how op) op

      after : Operation
      after = alone (op_at ops q)

      there : (p : ℕ) → cond (ltb p (size ops)) (rewrites (only_active q) how p (op_at ops p)) (op_at ops p) ≡ cond (eqb p q) (alone (op_at ops p)) (op_at ops p)
      there p =
          same_or p q
          (λ g. rw (eq-eqb p q g, lt-ltb p (size ops) (omega arith), and-true (is_active (op_at ops p).fate)))
          (λ g. rw (ne_eqb p q g, and-false (is_active (op_at ops p).fate)) (bool_cases (ltb p (size ops)) (λ b. rw b) (λ b. rw b)))

  pub one-past : size ops ≤ q → ops ≡ rewritten (only_active q) how ops
  one-past l =
      is-rewritten (only_active q) how (λ p. refl) ops ops.all refl
      (λ p. sym (rewritten-at (only_active q) how (λ k. refl) ops p ∙ there p))
    where
      there : (p : ℕ) → cond (ltb p (size ops)) (rewrites (only_active q) how p (op_at ops p)) (op_at ops p) ≡ op_at ops p
      there p =
          lt-or p (size ops)
          (λ b. rw (lt-ltb p (size ops) b, ne_eqb p q (λ g. omega arith), and-false (is_active (op_at ops p).fate)))
          (λ b. rw (le-ltb p (size ops) b))
