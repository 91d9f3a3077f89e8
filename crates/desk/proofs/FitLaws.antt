-- Every state that events lead to can stand in lent numbers.
use Prim.Native.Nat.{ℕ, ◌+◌, ◌≤◌, ◌<◌}
use native.Mathlib.Omega.{arith}
use mathlib.Core.Path.{◌≡◌, refl, ap, subst⁻¹}
use mathlib.Core.Bool.{Bool, true, false, cond}
use mathlib.Core.List.{List, [], ◌∷◌}
use lib.Dec.{ltb}
use lib.ListN.{get_or, length, set}
use lib.Seq.{get_or-set_other, get_or-set_same, set_out}
use borrow.Author.Tests.{lt-ltb}
use Rattle.laws.proofs.Decisions.{lt-or, same_or}
use Rattle.terms.specs.Limits.{most_transactions}
use Rattle.terms.specs.declared.Event.{Event}
use Rattle.terms.specs.declared.Event.TheVariants.{Begin, Commit, Abort, Operation as Invoke, Delegate, CommitOne, AbortOne, Spawn}
use Rattle.ties.specs.Operations.{all_held_by, ended_as, made, most_operations, new_op, no_operation, only_active, op_at, passed_to, rewritten, size}
use Rattle.ties.specs.declared.Fate.TheVariants.{Aborted, Committed}
use Rattle.ties.specs.declared.Operation.{Operation}
use Rattle.ties.specs.declared.Ops.{Ops}
use Rattle.ties.proofs.OpsLaws.{made-full, made-room, rewritten-at}
use Rattle.cells.specs.Cells.{fits}
use Rattle.cells.proofs.CellLaws.{parts-fit}
use Rattle.tables.specs.declared.Tables.{Tables}
use Rattle.rules.specs.Lent.{parent_fits}
use Rattle.rules.specs.States.{Parent, empty_state, parent_of}
use Rattle.rules.specs.declared.State.{State}
use Rattle.std.specs.Prelude.{Some, None}
use Rattle.rules.proofs.PhaseLaws.{code}
use Rattle.rules.proofs.StateLaws.{past-idle}
use Rattle.judge.proofs.ClerkLaws.{by-clerk}
use Rattle.histories.proofs.Invariants.{lasting}
use Rattle.histories.proofs.Kin.{kin}
use Rattle.judge.specs.Judge.{change_of, commit_under, judged, state_after}
use Rattle.judge.specs.Lent.{Whole}
use Rattle.judge.proofs.ChangeLaws.{empty-whole, judged-whole}
use Rattle.histories.specs.Histories.{reached, run}
use Rattle.histories.proofs.Orders.{bounded}
use Rattle.histories.proofs.RunLaws.{keeps}

-- ---- every place is there

run-whole : (tables : Tables) (es : List Event) (s : State) → Whole s → Whole (run tables s es)
unfolding run
run-whole tables [] s w = w
run-whole tables (e ∷ es) s w = run-whole tables es (judged tables s e).state (judged-whole tables s e w)

pub reached-whole : (tables : Tables) (es : List Event) → Whole (reached tables es)
reached-whole tables es = run-whole tables es empty_state empty-whole

-- ---- when an operation ended

abbrev Early : Ops → Type 0
Early ops = (p : ℕ) → (op_at ops p).ended < 512

early-by : (b c : Bool) (x y : Operation) → x.ended < 512 → y.ended < 512 → (cond b (cond c x y) y).ended < 512
early-by true true x y h g = h
early-by true false x y h g = g
early-by false c x y h g = g

early-rewritten : (which : ℕ → Operation → Bool) (how : Operation → Operation) → ((p : ℕ) → which p no_operation ≡ false) → (ops : Ops)
    → ((op : Operation) → op.ended < 512 → (how op).ended < 512) → Early ops → Early (rewritten which how ops)
early-rewritten which how quiet ops keeps h p =
    subst⁻¹ (λ (x : Operation). x.ended < 512) (rewritten-at which how quiet ops p)
    (early-by (ltb p (size ops)) (which p (op_at ops p)) (how (op_at ops p)) (op_at ops p) (keeps (op_at ops p) (h p)) (h p))

early-made : (op : Operation) (ops : Ops) → op.ended < 512 → Early ops → Early (made op ops)
early-made op ops l h p =
    lt-or ops.count most_operations
    (λ room.
    subst⁻¹ (λ (x : Ops). (op_at x p).ended < 512) (made-room op ops room)
    (lt-or ops.count (length ops.all)
    (λ there. stored p there)
    (λ none. subst⁻¹ (λ (x : List Operation). (op_at (record { all = x; count = ops.count + 1 }) p).ended < 512) (set_out ops.all ops.count op none) (h p))))
    (λ full. subst⁻¹ (λ (x : Ops). (op_at x p).ended < 512) (made-full op ops full) (h p))
  where
    stored : (p : ℕ) → ops.count < length ops.all → (get_or (set ops.all ops.count op) p no_operation).ended < 512
    stored p there =
        same_or p ops.count
        (λ q. subst⁻¹ (λ (k : ℕ). (get_or (set ops.all ops.count op) k no_operation).ended < 512) q
        (subst⁻¹ (λ (x : Operation). x.ended < 512) (get_or-set_same ops.all ops.count op no_operation there) l))
        (λ q. subst⁻¹ (λ (x : Operation). x.ended < 512) (get_or-set_other ops.all ops.count p op no_operation q) (h p))

early-after : (tables : Tables) (e : Event) (s : State) → Early s.ops → Early (state_after (change_of tables s.transactions e) s).ops
unfolding state_after
early-after tables (Begin t) s h = h
early-after tables (Commit t) s h =
    by-clerk tables s.transactions t (λ (p : Parent). Early (state_after (commit_under t p) s).ops)
    (λ o. early-rewritten (all_held_by t) (ended_as Committed (size s.ops)) (λ k. refl) s.ops (λ op g. omega arith) h)
    (λ m f. early-rewritten (all_held_by t) (passed_to m) (λ k. refl) s.ops (λ op g. g) h)
early-after tables (Abort t) s h = early-rewritten (all_held_by t) (ended_as Aborted (size s.ops)) (λ k. refl) s.ops (λ op g. omega arith) h
early-after tables (Invoke t o m) s h = early-made (new_op t o m) s.ops (omega arith) h
early-after tables (Delegate t r q) s h = early-rewritten (only_active q) (passed_to r) (λ k. refl) s.ops (λ op g. g) h
early-after tables (CommitOne t q) s h = early-rewritten (only_active q) (ended_as Committed (size s.ops)) (λ k. refl) s.ops (λ op g. omega arith) h
early-after tables (AbortOne t q) s h = early-rewritten (only_active q) (ended_as Aborted (size s.ops)) (λ k. refl) s.ops (λ op g. omega arith) h
early-after tables (Spawn m c) s h = h

early : (tables : Tables) (es : List Event) → Early (reached tables es).ops
early tables es =
    keeps tables (λ (s : State). Early s.ops) (λ s e h v. early-after tables e s h) es empty_state
    (λ p. subst⁻¹ (λ (x : Operation). x.ended < 512) (empty-whole.1.1 p (omega arith)) (omega arith))

-- ---- so a number can stand for each

pub reached-few : (tables : Tables) (es : List Event) → (reached tables es).ops.count ≤ most_operations
reached-few tables es = (bounded tables es).lasts.few

pub reached-fits : (tables : Tables) (es : List Event) (q : ℕ) → fits (op_at (reached tables es).ops q) ≡ true
reached-fits tables es q =
    lt-or q (reached tables es).ops.count
    (λ low.
    let within = (bounded tables es).within q low in
    parts-fit (op_at (reached tables es).ops q) within.1 within.0 (early tables es q))
    (λ high. ap fits ((reached-whole tables es).1.1 q high))

-- and for each parent, which has begun and so is one of the transactions
pub reached-parents : (tables : Tables) (es : List Event) (t : ℕ) → parent_fits (parent_of (reached tables es).transactions t) ≡ true
reached-parents tables es t = go (parent_of (reached tables es).transactions t) refl
  where
    go : (p : Parent) → parent_of (reached tables es).transactions t ≡ p → parent_fits p ≡ true
    go None e = refl
    go (Some m) e =
        lt-ltb m most_transactions
        (lt-or m most_transactions (λ l. l)
        (λ l. absurd (omega (arith, ((kin tables es).begun t m e).1, ap code (past-idle (reached tables es).transactions m (omega (arith, (lasting tables es).full)))))))
