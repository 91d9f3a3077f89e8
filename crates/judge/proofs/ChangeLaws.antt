-- Changes made in lent numbers: by their two halves; that every change of an accepted event is one that they can take; that every place is kept.
use Prim.Native.Nat.{ℕ, ◌+◌, ◌≤◌, ◌<◌}
use native.Mathlib.Omega.{arith}
use mathlib.Core.Path.{◌≡◌, refl, sym, ap, ◌∙◌}
use mathlib.Core.Bool.{Bool, true, false, not, ◌||◌}
use mathlib.Core.List.{List}
use lib.Dec.{ltb}
use lib.ListN.{length, replicate, get_or-replicate, length-replicate, get_or-eq_default}
use lib.Seq.{get_or-set_other}
use borrow.Author.Tests.{le-ltb, lt-ltb}
use Rattle.laws.proofs.Bools.{off-or}
use Rattle.laws.proofs.Decisions.{lt-or}
use Rattle.laws.proofs.LineLaws.{first_off}
use Rattle.terms.specs.Limits.{most_transactions}
use Rattle.terms.specs.declared.Event.{Event}
use Rattle.terms.specs.declared.Event.TheVariants.{Begin, Commit, Abort, Operation as Invoke, Delegate, CommitOne, AbortOne, Spawn}
use Rattle.terms.specs.declared.Verdict.{Verdict}
use Rattle.terms.specs.declared.Verdict.TheVariants.{Accepted, Refused}
use Rattle.ties.specs.Operations.{all_held_by, ended_as, given, handed, made, most_operations, new_op, no_operation, only_active, op_at, passed_to, rewritten, size}
use Rattle.ties.proofs.OpsLaws.{count-rewritten, length-made, length-rewritten, made-full, made-room, rewritten-at}
use Rattle.ties.specs.declared.Operation.{Operation}
use Rattle.ties.specs.declared.Ops.{Ops}
use Rattle.cells.specs.Cells.{fits, given_in, handed_in, made_in, ops_in}
use Rattle.cells.proofs.CellLaws.{none_yet, parts-fit}
use Rattle.tables.specs.Sorts.{is_known, sort_of}
use Rattle.tables.specs.declared.Sort.{Sort}
use Rattle.tables.specs.declared.Tables.{Tables}
use Rattle.sheet.specs.Sheet.{Holds}
use Rattle.rules.specs.Lent.{spawned_in, transactions_in}
use Rattle.rules.specs.States.{empty_state, idle, spawned}
use Rattle.rules.specs.States.{Parent}
use Rattle.rules.specs.declared.Transaction.{Transaction}
use Rattle.rules.specs.declared.Phase.TheVariants.{Committed}
use Rattle.rules.specs.declared.State.{State}
use Rattle.rules.proofs.LentLaws.{none-begun}
use Rattle.rules.proofs.StateLaws.{length-entered, length-spawned}
use Rattle.judge.specs.Judge.{change_by, commit_lines, commit_lines_under, commit_under, hand_lines, judged, lines, ops_after, ruling_of, state_after, transactions_after, unknown, unknown_object, verdict_by}
use Rattle.judge.specs.Lent.{Fitting, Whole, state_in}
use Rattle.judge.specs.declared.Change.{Change}
use Rattle.judge.specs.declared.Change.TheVariants.{Nothing, Enters, Ends, EndsOne, Makes, Gives, Hands, Spawns}
use Rattle.judge.proofs.ClerkLaws.{by-clerk, plain_known}
use Rattle.judge.proofs.LentLaws.{known-low}
use Rattle.judge.proofs.RuleLaws.{not-accepted, object-small}

-- ---- a change, by what it makes of transactions and of operations

pub after : (p p' l l' : List ℕ) (n n' : ℕ) (change x : Change) → change ≡ x
    → transactions_in p' ≡ transactions_after x (transactions_in p) → ops_in l' n' ≡ ops_after x (ops_in l n) → state_in p' l' n' ≡ state_after change (state_in p l n)
unfolding state_after
after p p' l l' n n' change x e t o = (λ i. record { transactions = t i; ops = o i }) ∙ ap (λ (c : Change). state_after c (state_in p l n)) (sym e)

pub made-fits : (op : Operation) (ops : Ops) → fits op ≡ true → made_in op ops ≡ made op ops
made-fits op ops e = rw e

pub given-fits : (q r : ℕ) (ops : Ops) → r < most_transactions → given_in q r ops ≡ given q r ops
given-fits q r ops h = rw (lt-ltb r most_transactions h)

pub handed-fits : (t m : ℕ) (ops : Ops) → m < most_transactions → handed_in t m ops ≡ handed t m ops
handed-fits t m ops h = rw (lt-ltb m most_transactions h)

pub spawned-fits : (m c : ℕ) (ts : List Transaction) → m < most_transactions → spawned_in m c ts ≡ spawned m c ts
spawned-fits m c ts h = rw (lt-ltb m most_transactions h)

-- ---- what an event changes, lent numbers can take

fits_by : (v : Verdict) (c : Change) → (v ≡ Accepted → Fitting c) → Fitting (change_by v c)
fits_by Accepted c f = f refl
fits_by (Refused r) c f = tt

module _ (tables : Tables) (sheet : List ℕ) (h : Holds tables sheet) where
  known : (t : ℕ) → unknown tables t ≡ false → t < most_transactions
  known t e = known-low sheet t (ap (λ (x : Sort). not (is_known x)) (h.sorts t) ∙ e)

  abbrev Goal : State → Event → Type 0
  Goal s e = Fitting (ruling_of tables s e).change

  pub ruling-fits : (s : State) (e : Event) → Goal s e
  unfolding ruling_of
  ruling-fits s (Begin t) = fits_by (verdict_by (lines tables s (Begin t))) _ (λ a. tt)
  ruling-fits s (Commit t) =
      by-clerk tables s.transactions t
      (λ (p : Parent). Fitting (change_by (verdict_by (commit_lines_under tables s.transactions s.ops t p)) (commit_under t p)))
      (λ o. fits_by (verdict_by (commit_lines tables s.transactions s.ops t)) _ (λ a. tt))
      (λ m h. fits_by (verdict_by (hand_lines tables s.transactions s.ops t m)) _ (λ a. known m (plain_known (sort_of tables m) h.clerk)))
  ruling-fits s (Abort t) = fits_by (verdict_by (lines tables s (Abort t))) _ (λ a. tt)
  ruling-fits s (Invoke t o m) =
      fits_by (verdict_by (lines tables s (Invoke t o m))) _
      (λ a.
      let first = (first_off Refused Accepted not-accepted (lines tables s (Invoke t o m)) a).0 in
      parts-fit (new_op t o m) (object-small tables t o first) (known t (off-or (unknown tables t) (unknown_object tables o) first).0) (omega arith))
  ruling-fits s (Delegate t r q) =
      fits_by (verdict_by (lines tables s (Delegate t r q))) _
      (λ a.
      let first = (first_off Refused Accepted not-accepted (lines tables s (Delegate t r q)) a).0 in
      let rest = (off-or (unknown tables t) (unknown tables r || not (ltb q (size s.ops))) first).1 in
      known r (off-or (unknown tables r) (not (ltb q (size s.ops))) rest).0)
  ruling-fits s (CommitOne t q) = fits_by (verdict_by (lines tables s (CommitOne t q))) _ (λ a. tt)
  ruling-fits s (AbortOne t q) = fits_by (verdict_by (lines tables s (AbortOne t q))) _ (λ a. tt)
  ruling-fits s (Spawn m c) =
      fits_by (verdict_by (lines tables s (Spawn m c))) _
      (λ a. known m (off-or (unknown tables m) (unknown tables c) (first_off Refused Accepted not-accepted (lines tables s (Spawn m c)) a).0).0)

-- ---- every place is kept

pub lengths-after : (c : Change) (s : State)
    → (length (state_after c s).transactions ≡ length s.transactions) × (length (state_after c s).ops.all ≡ length s.ops.all)
unfolding state_after
lengths-after Nothing s = (refl, refl)
lengths-after (Enters t p) s = (length-entered s.transactions t p, refl)
lengths-after (Ends t p fate) s = (length-entered s.transactions t p, length-rewritten (all_held_by t) (ended_as fate (size s.ops)) (λ k. refl) s.ops)
lengths-after (EndsOne q fate) s = (refl, length-rewritten (only_active q) (ended_as fate (size s.ops)) (λ k. refl) s.ops)
lengths-after (Makes op) s = (refl, length-made op s.ops)
lengths-after (Gives q r) s = (refl, length-rewritten (only_active q) (passed_to r) (λ k. refl) s.ops)
lengths-after (Hands t m) s = (length-entered s.transactions t Committed, length-rewritten (all_held_by t) (passed_to m) (λ k. refl) s.ops)
lengths-after (Spawns m c) s = (length-spawned s.transactions m c, refl)

-- and past the accepted operations nothing is put
past-rewritten : (which : ℕ → Operation → Bool) (how : Operation → Operation) → ((p : ℕ) → which p no_operation ≡ false) → (ops : Ops)
    → ((q : ℕ) → ops.count ≤ q → op_at ops q ≡ no_operation) → (q : ℕ) → (rewritten which how ops).count ≤ q → op_at (rewritten which how ops) q ≡ no_operation
past-rewritten which how quiet ops none q h =
    let l : ops.count ≤ q = omega (arith, count-rewritten which how quiet ops) in
    rewritten-at which how quiet ops q ∙ rw (le-ltb q (size ops) (omega arith)) (none q l)

past-made : (op : Operation) (ops : Ops) → ((q : ℕ) → ops.count ≤ q → op_at ops q ≡ no_operation) → (q : ℕ) → (made op ops).count ≤ q → op_at (made op ops) q ≡ no_operation
past-made op ops none q h =
    lt-or ops.count most_operations
    (λ l.
    let room = made-room op ops l in
    let low : ops.count + 1 ≤ q = omega (arith, ap (λ (x : Ops). x.count) room) in
    ap (λ (x : Ops). op_at x q) room ∙ get_or-set_other ops.all ops.count q op no_operation (λ e. absurd (omega arith)) ∙ none q (omega arith))
    (λ l. let full = made-full op ops l in ap (λ (x : Ops). op_at x q) full ∙ none q (omega (arith, ap (λ (x : Ops). x.count) full)))

none_past : (c : Change) (s : State) → ((q : ℕ) → s.ops.count ≤ q → op_at s.ops q ≡ no_operation)
    → (q : ℕ) → (state_after c s).ops.count ≤ q → op_at (state_after c s).ops q ≡ no_operation
unfolding state_after
none_past Nothing s none = none
none_past (Enters t p) s none = none
none_past (Ends t p fate) s none = past-rewritten (all_held_by t) (ended_as fate (size s.ops)) (λ k. refl) s.ops none
none_past (EndsOne q fate) s none = past-rewritten (only_active q) (ended_as fate (size s.ops)) (λ k. refl) s.ops none
none_past (Makes op) s none = past-made op s.ops none
none_past (Gives q r) s none = past-rewritten (only_active q) (passed_to r) (λ k. refl) s.ops none
none_past (Hands t m) s none = past-rewritten (all_held_by t) (passed_to m) (λ k. refl) s.ops none
none_past (Spawns m c) s none = none

pub judged-whole : (tables : Tables) (s : State) (e : Event) → Whole s → Whole (judged tables s e).state
unfolding judged
judged-whole tables s e w =
    let c = (ruling_of tables s e).change in
    let l = lengths-after c s in
    (l.0 ∙ w.0, (l.1 ∙ w.1.0, none_past c s w.1.1))

pub empty-whole : Whole empty_state
empty-whole = (
  length-replicate most_transactions idle,
  (
    length-replicate most_operations no_operation,
    λ q h.
        lt-or q most_operations
        (λ l. get_or-replicate most_operations q no_operation no_operation l)
        (λ l. get_or-eq_default (replicate most_operations no_operation) no_operation {n = q} (omega (arith, length-replicate most_operations no_operation))),
  ),
)

pub empty-in : state_in (replicate most_transactions 0) (replicate most_operations 0) 0 ≡ empty_state
empty-in = λ i. record { transactions = none-begun i; ops = none_yet i }
