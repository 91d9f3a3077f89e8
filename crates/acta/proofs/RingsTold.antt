-- Refusal 22 in the words of the list: an undo in progress on a ring of the history with the event behind it.
use Prim.Native.Nat.{ℕ, ◌+◌, ◌<◌}
use native.Mathlib.Omega.{arith}
use mathlib.Core.Path.{◌≡◌, refl, sym, ap, subst⁻¹, ◌∙◌}
use mathlib.Core.Bool.{Bool, true, false, cond, ◌&&◌}
use mathlib.Core.Logic.{◌↔◌}
use mathlib.Core.List.{List, [], ◌∷◌, ◌++◌}
use lib.Dec.{eqb}
use borrow.Author.Tests.{eq-eqb, lt-ltb, ne_eqb}
use Rattle.laws.proofs.Bools.{and_on, bool_cases, clash, on_and}
use Rattle.laws.proofs.Decisions.{lt-or, same_or}
use Rattle.terms.specs.Limits.{most_objects, most_transactions}
use Rattle.terms.specs.declared.Event.{Event}
use Rattle.terms.specs.declared.Event.TheVariants.{Commit, Delegate, Operation as Invoke}
use Rattle.terms.specs.declared.Mark.{Mark}
use Rattle.ties.specs.Operations.{given, handed, is_active as is_active_op, new_op, op_at, passed_to, rewritten, size}
use Rattle.ties.specs.Ties.{before_given, before_handed, before_made, op_with, ties_of}
use Rattle.ties.specs.declared.Fate.{Fate}
use Rattle.ties.specs.declared.Operation.{Operation}
use Rattle.ties.proofs.OpsLaws.{count-rewritten, rewritten-at}
use Rattle.tables.specs.Accepted.{Well}
use Rattle.tables.specs.Sorts.{is_undo, sort_of}
use Rattle.tables.specs.declared.Tables.{Tables}
use Rattle.rules.specs.States.{is_active, phase_of}
use Rattle.rules.specs.States.{Parent}
use Rattle.std.specs.Prelude.{Some}
use Rattle.rules.specs.declared.Phase.TheVariants.{Committed}
use Rattle.rules.specs.declared.State.{State}
use Rattle.rules.proofs.PhaseLaws.{active-is, code}
use Rattle.rules.proofs.StateLaws.{past-idle}
use Rattle.histories.specs.Histories.{Account, Deed, history, kept, moved, reached, to_receiver, told}
use Rattle.histories.specs.Promises.{AsTold, UndoRinged}
use Rattle.histories.proofs.Invariants.{lasting}
use Rattle.histories.proofs.JudgePromisesHold.{judge-promises}
use Rattle.histories.proofs.Lasts.{size-count}
use Rattle.histories.proofs.Orders.{bounded}
use Rattle.acta.specs.Accepting.{RingsUndo}
use Rattle.acta.specs.Told.{IsTold}
use Rattle.acta.specs.Words.{Precedes, in_progress, invoked, parent, responsible, runs}
use Rattle.acta.proofs.Deeds.{told_more}
use Rattle.acta.proofs.OrdersTold.{Shows, preceded, precedes}
use Rattle.acta.proofs.ToldHolds.{follows-leads, is_told, leads-follows, of-operation}

-- what changes only while it runs
gated : (x y : Operation) (d e : Deed) (meant : Bool) → AsTold x d → AsTold y e
    → AsTold (cond (is_active_op x.fate && meant) y x) (cond meant (cond (is_active_op d.fate) e d) d)
gated x y d e meant h k =
    subst⁻¹ (λ (f : Fate). AsTold (cond (is_active_op f && meant) y x) (cond meant (cond (is_active_op d.fate) e d) d)) h.fate (by (is_active_op d.fate) meant)
  where
    by : (active meant : Bool) → AsTold (cond (active && meant) y x) (cond meant (cond active e d) d)
    by true true = k
    by true false = h
    by false true = h
    by false false = h

passed-told : (x : Operation) (d : Deed) (r : ℕ) → AsTold x d → AsTold (passed_to r x) (to_receiver r d)
passed-told x d r h = record { object = h.object; mark = h.mark; responsible = refl; fate = h.fate }

module _ (tables : Tables) (well : Well tables) (es : List Event) where
  abbrev h : List Event
  h = history tables es

  abbrev s : State
  s = reached tables es

  told-now : IsTold tables es h
  told-now = is_told tables es well

  pub going-low : (t : ℕ) → in_progress h t ≡ true → t < most_transactions
  going-low t i =
      lt-or t most_transactions (λ l. l)
      (λ l. absurd (omega (arith, active-is (phase_of s.transactions t) (told-now.active t ∙ i), ap code (past-idle s.transactions t (omega (arith, l, (lasting tables es).full))))))

  within-now : (i : ℕ) → i < invoked h → ((op_at s.ops i).responsible < most_transactions) × ((op_at s.ops i).object < most_objects)
  within-now i l = (bounded tables es).within i (omega (arith, l, told-now.count, size-count s (lasting tables es)))

  -- ---- the operations with an event behind the history

  shows-made : (t o : ℕ) (m : Mark) → t < most_transactions → o < most_objects → Shows (h ++ (Invoke t o m ∷ [])) (size s.ops + 1) (op_with s.ops (size s.ops) (new_op t o m))
  shows-made t o m small low =
      record {
        number = omega (arith, told-now.count, more);
        each = λ i l. subst⁻¹ (λ (a : Account). AsTold (op_with s.ops (size s.ops) (new_op t o m) i) (a.deed i)) (told_more h (Invoke t o m))
            (same_or i (invoked h)
            (λ e. rw (eq-eqb i (size s.ops) (e ∙ sym told-now.count), eq-eqb i (invoked h) e) (record { object = refl; mark = refl; responsible = refl; fate = refl }))
            (λ n. rw (ne_eqb i (size s.ops) (λ e. n (e ∙ told-now.count)), ne_eqb i (invoked h) n) (of-operation tables es i (omega (arith, l, more, n)))));
        within = λ i l.
            same_or i (size s.ops)
            (λ e. rw (eq-eqb i (size s.ops) e) (small, low))
            (λ n. rw (ne_eqb i (size s.ops) n) (within-now i (omega (arith, l, more, n, told-now.count))));
      }
    where
      more : invoked (h ++ (Invoke t o m ∷ [])) ≡ invoked h + 1
      more = ap (λ (a : Account). a.made) (told_more h (Invoke t o m)) ∙ omega arith

  -- operations that pass to r if they run: those that the test finds, by number and by whose they are
  module _ (w : List Event) (test : ℕ → ℕ → Bool) (r : ℕ) (small : r < most_transactions) (count : invoked w ≡ invoked h)
      (tells : (i : ℕ) → (told w).deed i ≡ cond (test i (responsible h i)) (cond (runs h i) (to_receiver r ((told h).deed i)) ((told h).deed i)) ((told h).deed i)) where
    abbrev found : ℕ → Operation → Bool
    found i op = is_active_op op.fate && test i op.responsible

    at : (i : ℕ) → i < invoked h → op_at (rewritten found (passed_to r) s.ops) i ≡ cond (is_active_op (op_at s.ops i).fate && test i (responsible h i)) (passed_to r (op_at s.ops i)) (op_at s.ops i)
    at i l =
        rewritten-at found (passed_to r) (λ k. refl) s.ops i
        ∙ rw (lt-ltb i (size s.ops) (omega (arith, l, told-now.count)))
        (ap (λ (x : ℕ). cond (is_active_op (op_at s.ops i).fate && test i x) (passed_to r (op_at s.ops i)) (op_at s.ops i)) (told-now.responsibles i l))

    shows-passed : Shows w (size (rewritten found (passed_to r) s.ops)) (op_at (rewritten found (passed_to r) s.ops))
    shows-passed =
        record {
          number = omega (arith, count, told-now.count, count-rewritten found (passed_to r) (λ k. refl) s.ops);
          each = λ i l.
              let low : i < invoked h = omega (arith, l, count) in
              let now = of-operation tables es i low in
              subst⁻¹ (λ (x : Operation). AsTold x ((told w).deed i)) (at i low)
              (subst⁻¹ (AsTold (cond (is_active_op (op_at s.ops i).fate && test i (responsible h i)) (passed_to r (op_at s.ops i)) (op_at s.ops i))) (tells i)
              (gated (op_at s.ops i) (passed_to r (op_at s.ops i)) ((told h).deed i) (to_receiver r ((told h).deed i)) (test i (responsible h i)) now
              (passed-told (op_at s.ops i) ((told h).deed i) r now)));
          within = λ i l.
              let low : i < invoked h = omega (arith, l, count) in
              subst⁻¹ (λ (x : Operation). (x.responsible < most_transactions) × (x.object < most_objects)) (at i low)
              (bool_cases (is_active_op (op_at s.ops i).fate && test i (responsible h i)) (λ c. rw c (small, (within-now i low).1)) (λ c. rw c (within-now i low)));
        }

  shows-given : (t r q : ℕ) → r < most_transactions → Shows (h ++ (Delegate t r q ∷ [])) (size (given q r s.ops)) (op_at (given q r s.ops))
  shows-given t r q small =
      shows-passed (h ++ (Delegate t r q ∷ [])) (λ i w. eqb i q) r small (ap (λ (a : Account). a.made) (told_more h (Delegate t r q)))
      (λ i. ap (λ (a : Account). a.deed i) (told_more h (Delegate t r q)))

  -- what has ended does not move
  shows-ended : (t r q : ℕ) → r < most_transactions → runs h q ≡ false → Shows h (size (given q r s.ops)) (op_at (given q r s.ops))
  shows-ended t r q small over = shows-passed h (λ i w. eqb i q) r small refl (λ i. same_or i q (λ e. rw (eq-eqb i q e, e, over)) (λ n. rw (ne_eqb i q n)))

  shows-handed : (t m : ℕ) → m < most_transactions → parent h t ≡ Some m → Shows (h ++ (Commit t ∷ [])) (size (handed t m s.ops)) (op_at (handed t m s.ops))
  shows-handed t m small p =
      let to = told_more h (Commit t) ∙ ap (λ (x : Parent). kept t x (moved Committed t (told h))) p in
      shows-passed (h ++ (Commit t ∷ [])) (λ i w. eqb w t) m small (ap (λ (a : Account). a.made) to) (λ i. ap (λ (a : Account). a.deed i) to)

  -- ---- so the order with the event is the one that the longer list tells

  module _ (e : Event) (n : ℕ) (op : ℕ → Operation) (shows : Shows (h ++ (e ∷ [])) n op) where
    pub ringed : UndoRinged tables s (ties_of n op) → RingsUndo tables h e
    ringed (x, a, w) =
        let both = on_and (is_undo (sort_of tables x)) (is_active (phase_of s.transactions x)) a in
        (x, both.0, sym (told-now.active x) ∙ both.1, leads-follows (ties_of n op) (Precedes (h ++ (e ∷ []))) (λ a b. precedes (h ++ (e ∷ [])) n op shows a b) x x w)

    pub rings : RingsUndo tables h e → UndoRinged tables s (ties_of n op)
    rings (x, u, i, w) = (
      x,
      and_on (is_undo (sort_of tables x)) (is_active (phase_of s.transactions x)) u (told-now.active x ∙ i),
      follows-leads (ties_of n op) (Precedes (h ++ (e ∷ []))) (λ a b. preceded (h ++ (e ∷ [])) n op shows a b) x x w,
    )

  pub ring-made : (t o : ℕ) (m : Mark) → t < most_transactions → o < most_objects → UndoRinged tables s (before_made s.ops (new_op t o m)) ↔ RingsUndo tables h (Invoke t o m)
  ring-made t o m small low =
      let x = shows-made t o m small low in
      let n = size s.ops + 1 in
      let op = op_with s.ops (size s.ops) (new_op t o m) in
      (ringed (Invoke t o m) n op x, rings (Invoke t o m) n op x)

  pub ring-handed : (t m : ℕ) → m < most_transactions → parent h t ≡ Some m → UndoRinged tables s (before_handed s.ops t m) ↔ RingsUndo tables h (Commit t)
  ring-handed t m small p =
      let x = shows-handed t m small p in
      let n = size (handed t m s.ops) in
      let op = op_at (handed t m s.ops) in
      (ringed (Commit t) n op x, rings (Commit t) n op x)

  pub ring-given : (t r q : ℕ) → r < most_transactions → UndoRinged tables s (before_given s.ops q r) ↔ RingsUndo tables h (Delegate t r q)
  ring-given t r q small =
      let x = shows-given t r q small in
      let n = size (given q r s.ops) in
      let op = op_at (given q r s.ops) in
      (ringed (Delegate t r q) n op x, rings (Delegate t r q) n op x)

  -- of an operation that has ended the delegation puts nobody on a ring
  pub ended-free : (t r q : ℕ) → r < most_transactions → runs h q ≡ false → UndoRinged tables s (before_given s.ops q r) → ⊥
  ended-free t r q small over (x, a, w) =
      let n = size (given q r s.ops) in
      let op = op_at (given q r s.ops) in
      clash ((told-now.rings x).1 (leads-follows (ties_of n op) (Precedes h) (λ a b. precedes h n op (shows-ended t r q small over) a b) x x w))
      ((judge-promises.any_run tables es).undo_off_rings x a)
