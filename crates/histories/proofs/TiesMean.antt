-- What a tie means: `ended` tells whether p was aborted when q was accepted; and what the order of transactions means.
use Prim.Native.Nat.{ℕ, ◌<◌, ◌≤◌}
use native.Mathlib.Omega.{arith}
use mathlib.Core.Path.{◌≡◌, refl, ap, ◌∙◌}
use mathlib.Core.List.{List, [], ◌∷◌}
use mathlib.Core.Bool.{Bool, cond, not, ◌&&◌}
use lib.Dec.{ltb}
use borrow.Author.Tests.{lt-ltb, le-ltb}
use Rattle.laws.proofs.Bools.{bool_cases}
use Rattle.laws.proofs.Decisions.{lt-or}
use Rattle.ties.specs.Operations.{is_aborted as is_aborted_op, op_at, size}
use Rattle.ties.proofs.OrderLaws.{aborted-idle}
use Rattle.ties.specs.Ties.{conflict, tied, tied_to, stood}
use Rattle.ties.specs.declared.Operation.{Operation}
use Rattle.tables.specs.declared.Tables.{Tables}
use Rattle.histories.specs.Histories.{reached, run, when_made}
use Rattle.judge.specs.Judge.{state_after}
use Rattle.rules.specs.States.{empty_state}
use Rattle.judge.specs.declared.Change.{Change}
use Rattle.terms.specs.declared.Event.{Event}
use Rattle.rules.specs.declared.State.{State}
use Rattle.histories.proofs.Invariants.{lasting, lasting-kept, lasting-start}
use Rattle.histories.proofs.Lasts.{Lasting, size-count}
use Rattle.histories.proofs.Steps.{Step, by_next, keeps-by}
use Rattle.histories.proofs.Touches.{count-up, new, same-stood, touched}

module _ (tables : Tables) (p q : ℕ) (earlier : p < q) where
  -- whether p was aborted when q was accepted does not change
  was-run : (es : List Event) (s : State) → Lasting s → q < s.ops.count → stood (op_at (run tables s es).ops p) q ≡ stood (op_at s.ops p) q
  was-run es s h l =
      (keeps-by tables
      (λ (x : State). Lasting x × (q < x.ops.count) × (stood (op_at x.ops p) q ≡ stood (op_at s.ops p) q))
      (λ x c i w. (
        lasting-kept tables x c i.0 w,
        omega (arith, i.1, count-up tables x c w),
        same-stood tables x c q (omega (arith, i.1, size-count x i.0)) (touched tables x i.0 p (omega (arith, i.1)) c w) ∙ i.2,
      ))
      es s (h, l, refl)).2

  -- just after q is made, what was not aborted is what is not
  was-now : (s : State) (c : Change) → Lasting s → Step tables s c → s.ops.count ≤ q → q < (state_after c s).ops.count
      → stood (op_at (state_after c s).ops p) q ≡ not (is_aborted_op (op_at s.ops p).fate)
  was-now s c h w l u =
      let n = new tables s c w h q l u in
      ap (λ (op : Operation). stood op q) (n.others p (omega (arith, n.last)))
      ∙ bool_cases (is_aborted_op (op_at s.ops p).fate)
      (λ a. rw (a, le-ltb q (op_at s.ops p).ended (omega (arith, h.past p (aborted-idle (op_at s.ops p).fate a)))))
      (λ a. rw a)

  -- x is the state after the event
  abbrev Means : List Event → State → State → Type 0
  Means es s x =
      q < (run tables x es).ops.count
      → stood (op_at (run tables x es).ops p) q ≡ not (is_aborted_op (op_at (cond (ltb q (size x.ops)) s (when_made tables x es q)).ops p).fate)

  means-run : (es : List Event) (s : State) → Lasting s → s.ops.count ≤ q → q < (run tables s es).ops.count
      → stood (op_at (run tables s es).ops p) q ≡ not (is_aborted_op (op_at (when_made tables s es q).ops p).fate)
  unfolding run when_made
  means-run [] s h l = λ u. absurd (omega arith)
  means-run (e ∷ es) s h l =
      by_next tables s e (Means es s)
      (λ u. rw (le-ltb q (size s.ops) (omega (arith, size-count s h))) (means-run es s h l u))
      (λ c w.
      let later = lasting-kept tables s c h w in
      lt-or q (state_after c s).ops.count
      (λ now u.
      rw (lt-ltb q (size (state_after c s).ops) (omega (arith, size-count (state_after c s) later)))
      (was-run es (state_after c s) later now ∙ was-now s c h w l now))
      (λ due u. rw (le-ltb q (size (state_after c s).ops) (omega (arith, size-count (state_after c s) later))) (means-run es (state_after c s) later due u)))

pub ties-mean : (tables : Tables) (es : List Event) (p q : ℕ) → p < q → q < size (reached tables es).ops
    → tied (reached tables es).ops p q
    ≡ (conflict (op_at (reached tables es).ops p) (op_at (reached tables es).ops q).object (op_at (reached tables es).ops q).mark
    && not (is_aborted_op (op_at (when_made tables empty_state es q).ops p).fate))
unfolding tied tied_to
ties-mean tables es p q l u =
    rw (lt-ltb q (size (reached tables es).ops) u, lt-ltb p q l)
    (ap (λ (b : Bool). conflict (op_at (reached tables es).ops p) (op_at (reached tables es).ops q).object (op_at (reached tables es).ops q).mark && b)
    (means-run tables p q l es empty_state lasting-start (omega arith) (omega (arith, size-count (reached tables es) (lasting tables es)))))
