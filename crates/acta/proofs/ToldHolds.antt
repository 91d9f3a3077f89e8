-- The state is what the history tells (★2, ★9).
use Prim.Native.Nat.{ℕ, ◌<◌, ◌≤◌}
use native.Mathlib.Omega.{arith}
use mathlib.Core.Path.{◌≡◌, sym, ap, subst, ◌∙◌}
use mathlib.Core.Bool.{Bool, true, not, ◌&&◌}
use mathlib.Core.List.{List}
use lib.ListN.{length}
use Rattle.laws.proofs.Bools.{and_on, not_on, on_and, on-not}
use Rattle.laws.proofs.Decisions.{lt-or}
use Rattle.terms.specs.Limits.{most_transactions}
use Rattle.terms.specs.declared.Event.{Event}
use Rattle.terms.specs.declared.Event.TheVariants.{Operation as Invoke}
use Rattle.terms.specs.declared.Mark.{Mark}
use Rattle.sets.specs.Reach.{Leads, last, step}
use Rattle.ties.specs.Operations.{is_aborted as is_aborted_op, op_at}
use Rattle.ties.specs.Ties.{before, tied}
use Rattle.ties.proofs.RingsExactHolds.{rings-exact}
use Rattle.ties.proofs.TieLaws.{tie_parts}
use Rattle.tables.specs.Accepted.{Well}
use Rattle.tables.specs.declared.Tables.{Tables}
use Rattle.rules.specs.States.{is_idle, parent_of}
use Rattle.rules.specs.declared.State.{State}
use Rattle.rules.proofs.StateLaws.{past-free, past-idle}
use Rattle.histories.specs.Histories.{history, no_account, reached, told}
use Rattle.histories.specs.Promises.{AsTold}
use Rattle.histories.proofs.Accounts.{count-told, operations-told, parents-told}
use Rattle.histories.proofs.Invariants.{lasting}
use Rattle.histories.proofs.Orders.{order-means}
use Rattle.acta.specs.Told.{IsTold}
use Rattle.acta.specs.Words.{Follows, Happens, Precedes, Tied, and_on as and-after, began, conflicts, dropped, invoked, once, parent}
use Rattle.acta.proofs.Deeds.{came-by, nobodys-child}
use Rattle.acta.proofs.Phases.{aborted-told, active-told, committed-told, idle-told}
use Rattle.acta.proofs.Runs.{accepted-there, before-it, is_history}
use Rattle.acta.proofs.TiesTold.{tied_is}

-- what is followed by one relation is followed by another that has all of it
pub leads-follows : (R : ℕ → ℕ → Bool) (Q : ℕ → ℕ → Type 0) → ((a b : ℕ) → R a b ≡ true → Q a b) → (a b : ℕ) → Leads R a b → Follows Q a b
leads-follows R Q h a b (last {a = x} {b = y} r) = once (h x y r)
leads-follows R Q h a b (step {a = x} {b = y} {c = z} r w) = and-after (h x y r) (leads-follows R Q h y z w)

pub follows-leads : (R : ℕ → ℕ → Bool) (Q : ℕ → ℕ → Type 0) → ((a b : ℕ) → Q a b → R a b ≡ true) → (a b : ℕ) → Follows Q a b → Leads R a b
follows-leads R Q h a b (once {a = x} {b = y} r) = last (h x y r)
follows-leads R Q h a b (and-after {a = x} {b = y} {c = z} r w) = step (h x y r) (follows-leads R Q h y z w)

module _ (tables : Tables) (es : List Event) where
  abbrev h : List Event
  h = history tables es

  abbrev s : State
  s = reached tables es

  -- ---- ties

  at-tie : (t o : ℕ) (m : Mark) (u : List Event) → Happens h u (Invoke t o m) → (p : ℕ) → p < invoked u
      → tied s.ops p (invoked u) ≡ (conflicts u p o m && not (dropped u p))
  at-tie t o m u at p l =
      ap (λ (x : State). tied x.ops p (invoked u)) (sym (is_history tables es).state ∙ ap (reached tables) at.1)
      ∙ tied_is tables t o m u at.0 (subst (λ (x : List Event). history tables x ≡ x) at.1 (is_history tables es).again)
      (before-it tables es u (Invoke t o m) at) (accepted-there tables es u (Invoke t o m) at) p l

  tie-told : (p q : ℕ) → tied s.ops p q ≡ true → Tied h p q
  tie-told p q e =
      let parts = tie_parts s.ops p q e in
      let came = came-by q h (omega (arith, parts.accepted, count-told tables es)) in
      let n = came.number in
      let holds = sym (at-tie came.t came.o came.m came.u came.came p (omega (arith, parts.earlier, n))) ∙ ap (tied s.ops p) n ∙ e in
      let both = on_and (conflicts came.u p came.o came.m) (not (dropped came.u p)) holds in
      record {
        t = came.t;
        o = came.o;
        m = came.m;
        u = came.u;
        came = came.came;
        number = n;
        earlier = parts.earlier;
        conflicting = both.0;
        stood = on-not (dropped came.u p) both.1;
      }

  told-tie : (p q : ℕ) → Tied h p q → tied s.ops p q ≡ true
  told-tie p q w =
      ap (tied s.ops p) (sym w.number)
      ∙ at-tie w.t w.o w.m w.u w.came p (omega (arith, w.earlier, w.number))
      ∙ and_on (conflicts w.u p w.o w.m) (not (dropped w.u p)) w.conflicting (not_on (dropped w.u p) w.stood)

  -- ---- operations

  pub of-operation : (q : ℕ) → q < invoked h → AsTold (op_at s.ops q) ((told h).deed q)
  of-operation q l = operations-told tables es q (omega (arith, l, count-told tables es))

  -- both operations of a tie are in the history
  pub tie-in : (p q : ℕ) → tied s.ops p q ≡ true → (p < invoked h) × (q < invoked h)
  tie-in p q e =
      let parts = tie_parts s.ops p q e in
      (omega (arith, parts.earlier, parts.accepted, count-told tables es), omega (arith, parts.accepted, count-told tables es))

  -- ---- the order

  order-told : (a b : ℕ) → before s.ops a b ≡ true → Precedes h a b
  order-told a b e =
      let w = (order-means tables es a b).0 e in
      let low = tie-in w.p w.q w.tie in
      let p = of-operation w.p low.0 in
      let q = of-operation w.q low.1 in
      record {
        p = w.p;
        q = w.q;
        tie = tie-told w.p w.q w.tie;
        here = ap is_aborted_op (sym p.fate) ∙ w.here;
        there = ap is_aborted_op (sym q.fate) ∙ w.there;
        first = sym p.responsible ∙ w.first;
        second = sym q.responsible ∙ w.second;
        differ = w.differ;
      }

  told-order : (a b : ℕ) → Precedes h a b → before s.ops a b ≡ true
  told-order a b w =
      let tie = told-tie w.p w.q w.tie in
      let low = tie-in w.p w.q tie in
      let p = of-operation w.p low.0 in
      let q = of-operation w.q low.1 in
      (order-means tables es a b).1
      (record {
        p = w.p;
        q = w.q;
        tie = tie;
        here = ap is_aborted_op p.fate ∙ w.here;
        there = ap is_aborted_op q.fate ∙ w.there;
        first = p.responsible ∙ w.first;
        second = q.responsible ∙ w.second;
        differ = w.differ;
      })

  -- ---- children

  module _ (well : Well tables) where
    parent-told : (t : ℕ) → parent_of s.transactions t ≡ parent h t
    parent-told t =
        lt-or t most_transactions (parents-told tables es t)
        (λ l.
        let past : length s.transactions ≤ t = omega (arith, l, (lasting tables es).full) in
        past-free s.transactions t past
        ∙ sym (nobodys-child t h no_account (on-not (began h t) (sym (idle-told tables well t es) ∙ ap is_idle (past-idle s.transactions t past)))))

    pub is_told : IsTold tables es h
    is_told =
        record {
          idle = λ t. idle-told tables well t es;
          active = λ t. active-told tables well t es;
          committed_is = λ t. committed-told tables well t es;
          aborted_is = λ t. aborted-told tables well t es;
          parents = parent-told;
          count = count-told tables es;
          objects = λ q l. (of-operation q l).object;
          marks = λ q l. (of-operation q l).mark;
          responsibles = λ q l. (of-operation q l).responsible;
          fates = λ q l. (of-operation q l).fate;
          ties = λ p q. (tie-told p q, told-tie p q);
          order = λ a b. (order-told a b, told-order a b);
          rings = λ t. (
            λ e. leads-follows (before s.ops) (Precedes h) order-told t t (((rings-exact s.ops).exact t).0 e),
            λ w. ((rings-exact s.ops).exact t).1 (follows-leads (before s.ops) (Precedes h) told-order t t w),
          );
        }
