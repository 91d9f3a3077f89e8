-- The operations of a list of events that are all accepted, and the ties between them, as the list tells them (★2, ★9).
use Prim.Native.Nat.{ℕ, ◌+◌, ◌<◌, ◌≤◌}
use native.Mathlib.Omega.{arith}
use mathlib.Core.Path.{◌≡◌, refl, ap, subst, ◌∙◌}
use mathlib.Core.Bool.{Bool, not, ◌&&◌}
use mathlib.Core.List.{List, [], ◌∷◌, ◌++◌}
use borrow.Author.Tests.{le-ltb, lt-ltb}
use Rattle.terms.specs.declared.Event.{Event}
use Rattle.terms.specs.declared.Event.TheVariants.{Operation as Invoke}
use Rattle.terms.specs.declared.Mark.{Mark}
use Rattle.terms.specs.declared.Verdict.TheVariants.{Accepted}
use Rattle.ties.specs.Operations.{most_operations, op_at, size}
use Rattle.ties.specs.Ties.{tied}
use Rattle.tables.specs.declared.Tables.{Tables}
use Rattle.rules.specs.States.{empty_state}
use Rattle.rules.specs.declared.State.{State}
use Rattle.judge.specs.Judge.{judged}
use Rattle.judge.proofs.EventPromisesHold.{event-promises}
use Rattle.histories.specs.Histories.{history, next, reached, run, told, when_made}
use Rattle.histories.specs.Promises.{AsTold}
use Rattle.histories.proofs.Accounts.{count-told, operations-told}
use Rattle.histories.proofs.Invariants.{lasting}
use Rattle.histories.proofs.Lasts.{size-count}
use Rattle.histories.proofs.RunLaws.{run-append}
use Rattle.histories.proofs.Steps.{keeps-by}
use Rattle.histories.proofs.TiesMean.{ties-mean}
use Rattle.histories.proofs.Touches.{count-up}
use Rattle.acta.specs.Words.{conflicts, dropped, invoked}
use Rattle.acta.proofs.Invoking.{conflict-then, one_more}

module _ (tables : Tables) where
  -- ---- a list of events that are all accepted

  module _ (h : List Event) (all : history tables h ≡ h) where
    pub count_of : size (reached tables h).ops ≡ invoked h
    count_of = count-told tables h ∙ ap invoked all

    pub deed-of : (q : ℕ) → q < invoked h → AsTold (op_at (reached tables h).ops q) ((told h).deed q)
    deed-of q l = subst (λ (x : List Event). AsTold (op_at (reached tables h).ops q) ((told x).deed q)) all (operations-told tables h q (omega (arith, l, count_of)))

  -- ---- the state in which an operation came

  pub run-one : (s : State) (e : Event) → run tables s (e ∷ []) ≡ next tables s e
  unfolding run
  run-one s e = refl

  grows : (es : List Event) (s : State) → s.ops.count ≤ (run tables s es).ops.count
  grows es s = keeps-by tables (λ (x : State). s.ops.count ≤ x.ops.count) (λ x c i w. omega (arith, i, count-up tables x c w)) es s (omega arith)

  came-in : (q : ℕ) (e : Event) (v u : List Event) (s : State) → size (run tables s u).ops ≤ q → q < size (next tables (run tables s u) e).ops
      → when_made tables s (u ++ (e ∷ v)) q ≡ run tables s u
  unfolding run when_made
  came-in q e v [] s l b = rw (lt-ltb q (size (next tables s e).ops) b)
  came-in q e v (x ∷ u) s l b =
      rw (le-ltb q (size (next tables s x).ops) (omega (arith, l, grows u (next tables s x)))) (came-in q e v u (next tables s x) l b)

  module _ (t o : ℕ) (m : Mark) (u v : List Event) (now : history tables (u ++ (Invoke t o m ∷ v)) ≡ u ++ (Invoke t o m ∷ v)) (then : history tables u ≡ u)
      (ok : (judged tables (reached tables u) (Invoke t o m)).verdict ≡ Accepted) where
    was : when_made tables empty_state (u ++ (Invoke t o m ∷ v)) (invoked u) ≡ reached tables u
    was =
        came-in (invoked u) (Invoke t o m) v u empty_state (omega (arith, count_of u then))
        (omega (arith, count_of u then, size-count (reached tables u) (lasting tables u), room, counted))
      where
        counted : (next tables (reached tables u) (Invoke t o m)).ops.count ≡ (reached tables u).ops.count + 1
        counted = ((event-promises.does tables (reached tables u)).invokes t o m (lasting tables u).room ok).1

        room : (next tables (reached tables u) (Invoke t o m)).ops.count ≤ most_operations
        room =
            subst (λ (x : State). x.ops.count ≤ most_operations) (run-append tables u (Invoke t o m ∷ []) empty_state ∙ run-one (reached tables u) (Invoke t o m))
            (lasting tables (u ++ (Invoke t o m ∷ []))).few

    pub tied_is : (p : ℕ) → p < invoked u → tied (reached tables (u ++ (Invoke t o m ∷ v))).ops p (invoked u) ≡ (conflicts u p o m && not (dropped u p))
    tied_is p l =
        let w = u ++ (Invoke t o m ∷ v) in
        let more = one_more t o m u v in
        let here = deed-of w now p (omega (arith, l, more)) in
        let there = deed-of w now (invoked u) more in
        ties-mean tables w p (invoked u) l (omega (arith, more, count_of w now))
        ∙ rw (was, (deed-of u then p l).fate, here.object, here.mark, there.object, there.mark)
        (ap (λ (b : Bool). b && not (dropped u p)) (conflict-then t o m u v p l))
