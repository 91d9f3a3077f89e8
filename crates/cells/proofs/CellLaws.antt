-- What a number stands for as an operation, and what many numbers stand for after one of them was changed.
use Prim.Native.Nat.{ℕ, zero, suc, ◌+◌, ◌-◌, ◌*◌, ◌/◌, ◌%◌, ◌≤◌, ◌<◌, min}
use native.Mathlib.Omega.{arith}
use native.Mathlib.Nat.{add-zero}
use mathlib.Core.Path.{◌≡◌, refl, sym, ap, ap₂, ◌∙◌, subst, subst⁻¹}
use mathlib.Core.Bool.{true, false, cond, ◌&&◌}
use mathlib.Core.List.{List, ◌∷◌, map}
use lib.Dec.{ltb}
use lib.ListN.{length, get_or, set, replicate, length-set, length-replicate, get_or-replicate, get_or-map, get_or-eq_default}
use lib.Seq.{set-get_or, get_or-set_same, get_or-set_other, ext_get_or}
use borrow.Author.Tests.{lt-ltb, le-ltb, ltb-true}
use Rattle.laws.proofs.Bools.{and_on, on_and, bool_cases}
use Rattle.laws.proofs.ListLaws.{map-set}
use Rattle.laws.proofs.Decisions.{lt-or, same_or}
use Rattle.terms.specs.Limits.{most_transactions, most_objects}
use Rattle.terms.specs.declared.Mark.{Mark}
use Rattle.terms.specs.declared.Mark.TheVariants.{Read, Write}
use Rattle.ties.specs.declared.Fate.{Fate}
use Rattle.ties.specs.declared.Fate.TheVariants.{Aborted, Active, Committed}
use Rattle.ties.specs.declared.Operation.{Operation}
use Rattle.ties.specs.Operations.{most_operations, is_active, no_operation, no_ops, op_at, size, passed_to, given_to, held_by, ended_as, ended_alone, ended_one, changed, rewrites, rewritten, only_active, all_held_by}
use Rattle.ties.proofs.OpsLaws.{made-room, made-full, stored, one-stored, one-past, changed-none, changed-more, changed-above, changed-all}
use Rattle.cells.specs.Cells.{mark_in, fate_in, mark_code, fate_code, op_in, ops_in, fits, made_in, given_in, held_in, Next, WholeOps}

-- ---- one number

abbrev pub cell : ℕ → ℕ → ℕ → ℕ → ℕ → ℕ
cell a m f b e = a + 32 * m + 64 * f + 256 * b + 16384 * e

module _ (a m f b e : ℕ) (ha : a < 32) (hm : m < 2) (hf : f < 3) (hb : b < 64) (he : e < 512) where
  first_part : cell a m f b e % 32 ≡ a
  first_part = omega arith

  second-part : cell a m f b e / 32 % 2 ≡ m
  second-part = omega arith

  third-part : cell a m f b e / 64 % 4 ≡ f
  third-part = omega arith

  fourth-part : cell a m f b e / 256 % 64 ≡ b
  fourth-part = omega arith

  fifth-part : cell a m f b e / 16384 % 512 ≡ e
  fifth-part = omega arith

  cell_parts : op_in (cell a m f b e) ≡ record { object = a; mark = mark_in m; responsible = b; fate = fate_in f; ended = e }
  unfolding op_in
  cell_parts = rw (first_part, second-part, third-part, fourth-part, fifth-part)

mark-back : (mark : Mark) → mark_in (mark_code mark) ≡ mark
mark-back Read = refl
mark-back Write = refl

fate-back : (fate : Fate) → fate_in (fate_code fate) ≡ fate
fate-back Aborted = refl
fate-back Active = refl
fate-back Committed = refl

mark-small : (mark : Mark) → mark_code mark < 2
mark-small Read = omega arith
mark-small Write = omega arith

fate-small : (fate : Fate) → fate_code fate < 3
fate-small Aborted = omega arith
fate-small Active = omega arith
fate-small Committed = omega arith

-- the operation's numbers are within the limits
pub fit_parts : (op : Operation) → fits op ≡ true → (op.object < 32) × ((op.responsible < 64) × (op.ended < 512))
fit_parts op h =
    let x = on_and (ltb op.object most_objects) (ltb op.responsible most_transactions && ltb op.ended 512) h in
    let y = on_and (ltb op.responsible most_transactions) (ltb op.ended 512) x.1 in
    (ltb-true op.object most_objects x.0, (ltb-true op.responsible most_transactions y.0, ltb-true op.ended 512 y.1))

pub parts-fit : (op : Operation) → op.object < 32 → op.responsible < 64 → op.ended < 512 → fits op ≡ true
parts-fit op a b e =
    and_on (ltb op.object most_objects) (ltb op.responsible most_transactions && ltb op.ended 512) (lt-ltb op.object most_objects a)
    (and_on (ltb op.responsible most_transactions) (ltb op.ended 512) (lt-ltb op.responsible most_transactions b) (lt-ltb op.ended 512 e))

-- the number made of an operation stands for it
pub cell-back : (op : Operation) → fits op ≡ true → op_in (cell op.object (mark_code op.mark) (fate_code op.fate) op.responsible op.ended) ≡ op
cell-back op h =
    let s = fit_parts op h in
    cell_parts op.object (mark_code op.mark) (fate_code op.fate) op.responsible op.ended s.0 (mark-small op.mark) (fate-small op.fate) s.1.0 s.1.1
    ∙ (λ i. record { object = op.object; mark = mark-back op.mark i; responsible = op.responsible; fate = fate-back op.fate i; ended = op.ended })

pub op-numbers : (c : ℕ) → ((op_in c).object < 32) × ((op_in c).responsible < 64)
unfolding op_in
op-numbers c = (omega arith, omega arith)

op-ended : (c : ℕ) → (op_in c).ended < 512
unfolding op_in
op-ended c = omega arith

-- whatever a number stands for, a number can
pub op_fits : (c : ℕ) → fits (op_in c) ≡ true
op_fits c = parts-fit (op_in c) (op-numbers c).0 (op-numbers c).1 (op-ended c)

none_in : op_in 0 ≡ no_operation
unfolding op_in
none_in = refl

-- it still can with another responsible transaction, and ended
pub given-fits : (receiver : ℕ) (op : Operation) → receiver < 64 → fits op ≡ true → fits (given_to receiver op) ≡ true
given-fits receiver op l h =
    let s = fit_parts op h in
    bool_cases (is_active op.fate) (λ a. rw a (parts-fit (passed_to receiver op) s.0 l s.1.1)) (λ a. rw a h)

pub ended-fits : (fate : Fate) (accepted : ℕ) (op : Operation) → accepted < 512 → fits op ≡ true → fits (ended_as fate accepted op) ≡ true
ended-fits fate accepted op l h = let s = fit_parts op h in parts-fit (ended_as fate accepted op) s.0 s.1.0 l

pub alone-fits : (fate : Fate) (accepted : ℕ) (op : Operation) → accepted < 512 → fits op ≡ true → fits (ended_alone fate accepted op) ≡ true
alone-fits fate accepted op l h =
    bool_cases (is_active op.fate) (λ a. rw a (ended-fits fate accepted op l h)) (λ a. rw a h)

pub passed-fits : (receiver : ℕ) (op : Operation) → receiver < 64 → fits op ≡ true → fits (passed_to receiver op) ≡ true
passed-fits receiver op l h = let s = fit_parts op h in parts-fit (passed_to receiver op) s.0 l s.1.1

-- ---- many

mapped_at : (l : List ℕ) (q : ℕ) → get_or (map op_in l) q no_operation ≡ op_in (get_or l q 0)
mapped_at l q = rw (← none_in) (get_or-map op_in l q 0)

pub op-at : (l : List ℕ) (n q : ℕ) → op_at (ops_in l n) q ≡ op_in (get_or l q 0)
unfolding ops_in
op-at l n q = mapped_at l q

pub count-in : (l : List ℕ) (n : ℕ) → (ops_in l n).count ≡ n
unfolding ops_in
count-in l n = refl

pub size_in : (l : List ℕ) (n : ℕ) → size (ops_in l n) ≡ min n most_operations
unfolding ops_in
size_in l n = refl

-- numbers that are all 0 stand for no operation
pub none_yet : ops_in (replicate most_operations 0) 0 ≡ no_ops
unfolding ops_in
none_yet = λ i. record { all = (map-replicate most_operations ∙ ap (replicate most_operations) none_in) i; count = 0 }
  where
    map-replicate : (k : ℕ) → map op_in (replicate k 0) ≡ replicate k (op_in 0)
    map-replicate zero = refl
    map-replicate (suc k) = ap (λ (t : List Operation). op_in 0 ∷ t) (map-replicate k)

-- a store of x at q, where x stands for op
stored-in : (l : List ℕ) (q x n : ℕ) (op : Operation) → op_in x ≡ op → ops_in (set l q x) n ≡ stored q (ops_in l n) op
unfolding ops_in
stored-in l q x n op e = λ i. record { all = (map-set op_in l q x ∙ ap (set (map op_in l) q) e) i; count = n }

-- ---- one more

pub made-stored : (l : List ℕ) (n x : ℕ) (op : Operation) → fits op ≡ true → op_in x ≡ op → n < most_operations
    → ops_in (set l n x) (n + 1) ≡ made_in op (ops_in l n)
unfolding ops_in
made-stored l n x op f e h =
    rw f ((λ i. record { all = (map-set op_in l n x ∙ ap (set (map op_in l) n) e) i; count = n + 1 }) ∙ sym (made-room op (ops_in l n) h))

pub made_none : (l : List ℕ) (n : ℕ) (op : Operation) → fits op ≡ true → most_operations ≤ n → ops_in l n ≡ made_in op (ops_in l n)
unfolding ops_in
made_none l n op f h = rw f (sym (made-full op (ops_in l n) h))

pub made-unfit : (l : List ℕ) (n : ℕ) (op : Operation) → fits op ≡ false → ops_in l n ≡ made_in op (ops_in l n)
made-unfit l n op f = rw f

-- ---- one rewritten

module _ (l : List ℕ) (n q : ℕ) (how : Operation → Operation) where
  one_in : (x : ℕ) → q < min n most_operations → op_in x ≡ cond (is_active (op_in (get_or l q 0)).fate) (how (op_in (get_or l q 0))) (op_in (get_or l q 0))
      → ops_in (set l q x) n ≡ rewritten (only_active q) how (ops_in l n)
  one_in x h e =
      stored-in l q x n (alone (op_at (ops_in l n) q)) (e ∙ ap alone (sym (op-at l n q)))
      ∙ one-stored q how (ops_in l n) (omega (arith, size_in l n))
    where
      alone : Operation → Operation
      alone op = cond (is_active op.fate) (how op) op

  one_out : min n most_operations ≤ q → ops_in l n ≡ rewritten (only_active q) how (ops_in l n)
  one_out h = one-past q how (ops_in l n) (omega (arith, size_in l n))

module _ (l : List ℕ) (n q receiver : ℕ) where
  pub given-stored : (x : ℕ) → receiver < most_transactions → q < min n most_operations → op_in x ≡ given_to receiver (op_in (get_or l q 0))
      → ops_in (set l q x) n ≡ given_in q receiver (ops_in l n)
  given-stored x r h e = rw (lt-ltb receiver most_transactions r) (one_in l n q (passed_to receiver) x h e)

  pub given-past : receiver < most_transactions → min n most_operations ≤ q → ops_in l n ≡ given_in q receiver (ops_in l n)
  given-past r h = rw (lt-ltb receiver most_transactions r) (one_out l n q (passed_to receiver) h)

  pub given-none : most_transactions ≤ receiver → ops_in l n ≡ given_in q receiver (ops_in l n)
  given-none r = rw (le-ltb receiver most_transactions r)

module _ (l : List ℕ) (n q : ℕ) (fate : Fate) where
  pub ended-one-stored : (all x : ℕ) → all ≡ min n most_operations → q < all → op_in x ≡ ended_alone fate all (op_in (get_or l q 0))
      → ops_in (set l q x) n ≡ ended_one q fate (ops_in l n)
  ended-one-stored all x s h e =
      one_in l n q (ended_as fate (size (ops_in l n))) x (omega arith)
      (e ∙ ap (λ (k : ℕ). ended_alone fate k (op_in (get_or l q 0))) (s ∙ sym (size_in l n)))

  pub ended-one-past : min n most_operations ≤ q → ops_in l n ≡ ended_one q fate (ops_in l n)
  ended-one-past h = one_out l n q (ended_as fate (size (ops_in l n))) h

-- ---- those that t is responsible for are rewritten

-- the first i of the numbers stand for what is made of those that stood there
module _ (t : ℕ) (how : Operation → Operation) (l₀ : List ℕ) where
  abbrev pub makes : ℕ → Operation → Operation
  makes = rewrites (all_held_by t) how

  abbrev pub Done : ℕ → List ℕ → Type 0
  Done i l = map op_in l ≡ changed i makes (map op_in l₀)

  pub done_none : Done 0 l₀
  done_none = changed-none makes (map op_in l₀)

  module _ (i : ℕ) (l : List ℕ) (h : Done i l) (op : Operation) (e : op ≡ op_in (get_or l i 0)) where
    here : op ≡ get_or (map op_in l₀) i no_operation
    here =
        e
        ∙ sym (mapped_at l i)
        ∙ ap (λ (s : List Operation). get_or s i no_operation) h
        ∙ changed-above i makes (map op_in l₀) i (omega arith)

    more : (x : ℕ) → op_in x ≡ makes i op → Done (i + 1) (set l i x)
    more x g =
        map-set op_in l i x
        ∙ ap₂ (λ (s : List Operation) (o : Operation). set s i o) h (g ∙ ap (makes i) here)
        ∙ changed-more i makes (map op_in l₀)

    -- one that t holds, and any other
    pub done_held : (x : ℕ) → held_by t op ≡ true → op_in x ≡ how op → Done (i + 1) (set l i x)
    done_held x b g = more x (g ∙ rw b)

    pub done-free : held_by t op ≡ false → Done (i + 1) l
    done-free b = ap (map op_in) (sym (set-get_or l i 0)) ∙ more (get_or l i 0) (sym e ∙ rw b)

  -- the next that t holds, past all that it does not
  pub done_next : (i to r : ℕ) (l : List ℕ) → Done i l → Next (held_in l t) i to r → Done r l
  done_next i to r l h x =
      subst (λ (k : ℕ). Done k l) (omega (arith, x.low)) (on (r - i) (omega arith))
    where
      on : (k : ℕ) → i + k ≤ r → Done (i + k) l
      on zero b = subst⁻¹ (λ (m : ℕ). Done m l) (add-zero i) h
      on (suc k) b =
          subst (λ (m : ℕ). Done m l) (omega arith)
          (done-free (i + k) l (on k (omega arith)) (op_in (get_or l (i + k) 0)) refl (x.none (i + k) (omega arith) (omega arith)))

pub done_all : (t : ℕ) (how : Operation → Operation) (l₀ : List ℕ) (n i : ℕ) (l : List ℕ) → Done t how l₀ i l → i ≡ min n most_operations
    → ops_in l n ≡ rewritten (all_held_by t) how (ops_in l₀ n)
unfolding ops_in
done_all t how l₀ n i l h e = changed-all (all_held_by t) how (ops_in l₀ n) i (map op_in l) h e

-- ---- the operations by value

-- the first i of a full list are those that the numbers stand for, and behind them nothing stands
abbrev pub Copied : List ℕ → ℕ → List Operation → Type 0
Copied l i all =
    (length all ≡ most_operations) × ((k : ℕ) → k < i → get_or all k no_operation ≡ op_in (get_or l k 0)) × ((k : ℕ) → i ≤ k → get_or all k no_operation ≡ no_operation)

pub copied_none : (l : List ℕ) (none : Operation) → none ≡ no_operation → Copied l 0 (replicate most_operations none)
copied_none l none e = (
  length-replicate most_operations none,
  λ k h. absurd (omega arith),
  λ k h.
      ap (λ (x : Operation). get_or (replicate most_operations x) k no_operation) e
      ∙ lt-or k most_operations (λ b. get_or-replicate most_operations k no_operation no_operation b)
      (λ b. get_or-eq_default (replicate most_operations no_operation) no_operation {n = k} (omega (arith, length-replicate most_operations no_operation))),
)

pub copied_more : (l : List ℕ) (i : ℕ) (all : List Operation) (op : Operation) → Copied l i all → i < most_operations → op ≡ op_in (get_or l i 0)
    → Copied l (i + 1) (set all i op)
copied_more l i all op h b e = (
  length-set all i op ∙ h.0,
  λ k g.
      same_or k i
      (λ s. rw s (get_or-set_same all i op no_operation (omega (arith, h.0)) ∙ e))
      (λ s. get_or-set_other all i k op no_operation s ∙ h.1 k (omega arith)),
  λ k g. get_or-set_other all i k op no_operation (λ s. absurd (omega arith)) ∙ h.2 k (omega arith),
)

pub copied_all : (l : List ℕ) (n i : ℕ) (all : List Operation) → Copied l i all → i ≡ min n most_operations → WholeOps (ops_in l n)
    → record { all = all; count = n } ≡ ops_in l n
unfolding ops_in
copied_all l n i all h b w = λ j. record { all = ext_get_or no_operation all (map op_in l) (h.0 ∙ sym w.0) same j; count = n }
  where
    same : (k : ℕ) → k < length all → get_or all k no_operation ≡ get_or (map op_in l) k no_operation
    same k g =
        lt-or k i
        (λ a. h.1 k a ∙ sym (mapped_at l k))
        (λ a. h.2 k a ∙ sym (w.1 k (omega (arith, h.0))))
