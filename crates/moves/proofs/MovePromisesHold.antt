-- What is promised of the record move holds.
use Prim.Native.Nat.{ℕ, zero, suc, ◌+◌, ◌-◌, ◌≤◌, ◌<◌}
use native.Mathlib.Omega.{arith}
use mathlib.Core.Path.{◌≡◌, refl, sym, ap, ◌∙◌, subst, subst⁻¹}
use mathlib.Core.Bool.{Bool, true, false, cond, ◌&&◌, ◌||◌}
use mathlib.Core.Logic.{◌≢◌}
use mathlib.Core.Option.{none, some}
use Rattle.std.proofs.Common.{Ok}
use mathlib.Core.List.{List, []}
use lib.Dec.{eqb, leb}
use lib.ListN.{length}
use borrow.Author.Tests.{eqb-true, leb-false, ltb-true}
use Rattle.terms.specs.Limits.{most_bytes}
use Rattle.terms.specs.declared.Event.{Event}
use Rattle.terms.specs.declared.Event.TheVariants.{Abort, Begin, Commit}
use Rattle.terms.specs.declared.Verdict.TheVariants.{Accepted}
use Rattle.tables.specs.Counts.{saga_count}
use Rattle.tables.specs.Reading.{tables_by, edition_of}
use Rattle.tables.specs.Sorts.{first_of, steps_of}
use Rattle.tables.specs.declared.Circles.TheVariants.{Forbidden}
use Rattle.tables.specs.declared.Tables.{Tables}
use Rattle.rules.specs.States.{is_aborted, is_committed}
use Rattle.rules.specs.declared.Phase.{Phase}
use Rattle.rules.specs.declared.Phase.TheVariants.{Aborted, Active, Committed, Idle}
use Rattle.rules.specs.declared.State.{State}
use Rattle.judge.specs.Judge.{judged}
use Rattle.histories.specs.Histories.{reached, run}
use Rattle.closing.specs.Closing.{active_step, back_step, closing, closing_by, event_of, is_listed, next_undo, outstanding, own_of, settled, settled_by, undo_step}
use Rattle.closing.specs.Demand.{Closes, Demand, all_foreign}
use Rattle.closing.specs.declared.NextStep.{NextStep}
use Rattle.closing.specs.declared.NextStep.TheVariants.{NoStep, ToAbort, ToBegin, ToCommit}
use Rattle.closing.proofs.Demand3Holds.{demand3-read}
use Rattle.items.specs.Items.{items_after}
use Rattle.onward.specs.Onward.{events_in, judgement_of, judgement_on}
use Rattle.onward.specs.declared.Judgement.{Judgement}
use Rattle.onward.proofs.ReadingOnHolds.{reading-on-holds}
use Rattle.moves.specs.Moves.{event_by, event_for, part_by, part_of, saga_committed, todo_by, todo_for, transaction_by, word_for}
use Rattle.moves.specs.Promises.{BackedOut, HasCommitted, MovePromises, NextThing, Words}
use Rattle.moves.proofs.SaidHolds.{said-holds}
use Rattle.moves.specs.declared.ListWord.{ListWord}
use Rattle.moves.specs.declared.ListWord.TheVariants.{Moved, PutBack, StillOpen}
use Rattle.moves.specs.declared.Part.TheVariants.{Itself, OfStep, OfUndo}
use Rattle.moves.specs.declared.Todo.TheVariants.{Nothing}
use Rattle.std.specs.Prelude.{Ok}

-- ---- the words

differ : {A : Type 0} {x y : ListWord} → x ≢ y → x ≡ y → A
differ f e = absurd (f e)

moved-put : Moved ≢ PutBack
moved-put e = let z : ◌≡◌ {A = ℕ} 0 1 = cc in absurd (omega arith)

moved_open : Moved ≢ StillOpen
moved_open e = let z : ◌≡◌ {A = ℕ} 0 1 = cc in absurd (omega arith)

put-open : PutBack ≢ StillOpen
put-open e = let z : ◌≡◌ {A = ℕ} 0 1 = cc in absurd (omega arith)

true-false : true ≢ false
true-false e = let z : ◌≡◌ {A = ℕ} 0 1 = cc in absurd (omega arith)

is-committed : (p : Phase) → is_committed p ≡ true → p ≡ Committed
is-committed Idle e = absurd (true-false (sym e))
is-committed Active e = absurd (true-false (sym e))
is-committed Committed e = refl
is-committed Aborted e = absurd (true-false (sym e))

-- a settled saga that did not commit was begun
aborted-begun : (p : Phase) (rest : Bool) → is_committed p ≡ false → (is_committed p || (is_aborted p && rest)) ≡ true → p ≢ Idle
aborted-begun Idle rest c e i = true-false (sym e)
aborted-begun Active rest c e i = true-false (sym e)
aborted-begun Committed rest c e i = true-false c
aborted-begun Aborted rest c e i = let z : ◌≡◌ {A = ℕ} 0 1 = cc in absurd (omega arith)

module _ (tables : Tables) (s : State) (i : ℕ) where
  settled-begun : settled tables s i ≡ true → saga_committed tables s i ≡ false → own_of tables s i 0 ≢ Idle
  unfolding settled
  settled-begun e c = listed (is_listed tables i) refl e
    where
      listed : (b : Bool) → is_listed tables i ≡ b → cond b (settled_by (own_of tables s i 0) (steps_of tables i) (own_of tables s i)) false ≡ true → own_of tables s i 0 ≢ Idle
      listed true h g =
          let off : is_committed (own_of tables s i 0) ≡ false = rw h at c in
          aborted-begun (own_of tables s i 0) _ off g
      listed false h g = absurd (true-false (sym g))

  settled-listed : settled tables s i ≡ true → is_listed tables i ≡ true
  unfolding settled
  settled-listed e = listed (is_listed tables i) refl e
    where
      listed : (b : Bool) → is_listed tables i ≡ b → cond b (settled_by (own_of tables s i 0) (steps_of tables i) (own_of tables s i)) false ≡ true → b ≡ true
      listed true h g = refl
      listed false h g = absurd (true-false (sym g))

  -- what the test of S says
  committed-on : saga_committed tables s i ≡ true → HasCommitted tables s i
  committed-on e = listed (is_listed tables i) refl e
    where
      listed : (b : Bool) → is_listed tables i ≡ b → (b && is_committed (own_of tables s i 0)) ≡ true → HasCommitted tables s i
      listed true h g = record { listed = h; committed = is-committed (own_of tables s i 0) g }
      listed false h g = absurd (true-false (sym g))

  on-committed : HasCommitted tables s i → saga_committed tables s i ≡ true
  on-committed h = rw (h.listed, h.committed)

  not_committed : saga_committed tables s i ≡ false → HasCommitted tables s i → ⊥
  not_committed c h = true-false (sym (on-committed h) ∙ c)

  backed : settled tables s i ≡ true → saga_committed tables s i ≡ false → BackedOut tables s i
  backed e c = record { listed = settled-listed e; begun = settled-begun e c; settled = e; not_committed = not_committed c }

  -- by the two tests
  words-by : (x y : Bool) → saga_committed tables s i ≡ x → settled tables s i ≡ y → word_for tables s i ≡ cond x Moved (cond y PutBack StillOpen) → Words tables s i
  words-by true y c e w =
      record {
        moved = (λ h. committed-on c, λ h. w);
        put_back = (λ h. differ moved-put (sym w ∙ h), λ b. absurd (b.not_committed (committed-on c)));
        still_open = (λ h. differ moved_open (sym w ∙ h), λ b. absurd (b.0 (committed-on c)));
      }
  words-by false true c e w =
      record {
        moved = (λ h. differ moved-put (sym h ∙ w), λ h. absurd (not_committed c h));
        put_back = (λ h. backed e c, λ b. w);
        still_open = (λ h. differ put-open (sym w ∙ h), λ b. absurd (b.1 (backed e c)));
      }
  words-by false false c e w =
      record {
        moved = (λ h. differ moved_open (sym h ∙ w), λ h. absurd (not_committed c h));
        put_back = (λ h. differ put-open (sym h ∙ w), λ b. absurd (true-false (sym b.settled ∙ e)));
        still_open = (λ h. (not_committed c, λ b. true-false (sym b.settled ∙ e)), λ b. w);
      }

  words : Words tables s i
  unfolding word_for
  words = words-by (saga_committed tables s i) (settled tables s i) refl refl refl

-- ---- the thing to do next is the closing step

-- a part of the move's own, and back
module _ (f n k : ℕ) where
  by-steps : (b : Bool) → leb k n ≡ b → transaction_by f n (cond b (OfStep k) (OfUndo (k - n))) ≡ f + k
  by-steps true t = refl
  by-steps false t = let past = leb-false k n t in omega arith

  by_zero : (b : Bool) → eqb k 0 ≡ b → transaction_by f n (cond b Itself (cond (leb k n) (OfStep k) (OfUndo (k - n)))) ≡ f + k
  by_zero true t = let none = eqb-true k 0 t in omega arith
  by_zero false t = by-steps (leb k n) refl

  back-again : transaction_by f n (part_by n k) ≡ f + k
  back-again = by_zero (eqb k 0) refl

-- no closing step is of a transaction before S
abbrev Above : ℕ → NextStep → Type 0
Above f NoStep = f ≤ f
Above f (ToBegin t) = f ≤ t
Above f (ToCommit t) = f ≤ t
Above f (ToAbort t) = f ≤ t

module _ (f n : ℕ) where
  undo-above : (p : Phase) (t : ℕ) → f ≤ t → Above f (undo_step p t)
  undo-above Idle t h = h
  undo-above Active t h = h
  undo-above Committed t h = h
  undo-above Aborted t h = h

  back_above : (P : ℕ → Phase) (a i : ℕ) → Above f (back_step f n P a i)
  back_above P zero zero = omega arith
  back_above P zero (suc i) = undo-above (P (n + suc i)) (f + (n + suc i)) (omega arith)
  back_above P (suc a) i = omega arith

  either-above : (b : Bool) → Above f (cond b (ToCommit f) (ToAbort f))
  either-above true = omega arith
  either-above false = omega arith

  closing-above : (p : Phase) (P : ℕ → Phase) → Above f (closing_by p f n P)
  closing-above Idle P = omega arith
  closing-above Active P = either-above (is_committed (P n))
  closing-above Committed P = omega arith
  closing-above Aborted P = back_above P (active_step n P) (next_undo n P)

  same-transaction : (t : ℕ) → f ≤ t → transaction_by f n (part_by n (t - f)) ≡ t
  same-transaction t h = let far : f + (t - f) ≡ t = omega arith in back-again f n (t - f) ∙ far

  same-event : (step : NextStep) → Above f step → event_by f n (todo_by (λ t. part_by n (t - f)) step) ≡ event_of step
  same-event NoStep h = refl
  same-event (ToBegin t) h = ap (λ (x : ℕ). some (Begin x)) (same-transaction t h)
  same-event (ToCommit t) h = ap (λ (x : ℕ). some (Commit x)) (same-transaction t h)
  same-event (ToAbort t) h = ap (λ (x : ℕ). some (Abort x)) (same-transaction t h)

module _ (tables : Tables) (s : State) (i : ℕ) where
  closing-listed : (b : Bool) → Above (first_of tables i) (cond b (closing_by (own_of tables s i 0) (first_of tables i) (steps_of tables i) (own_of tables s i)) NoStep)
  closing-listed true = closing-above (first_of tables i) (steps_of tables i) (own_of tables s i 0) (own_of tables s i)
  closing-listed false = omega arith

  above : Above (first_of tables i) (closing tables s i)
  unfolding closing
  above = closing-listed (is_listed tables i)

  closes : event_for tables i (todo_for tables s i) ≡ event_of (closing tables s i)
  unfolding todo_for
  closes = same-event (first_of tables i) (steps_of tables i) (closing tables s i) above

  todo-none : closing tables s i ≡ NoStep → todo_for tables s i ≡ Nothing
  unfolding todo_for
  todo-none e = ap (todo_by (part_of tables i)) e

-- ---- in a state that events lead to

module _ (tables : Tables) (es : List Event) (i : ℕ) (demand : Demand tables i) where
  abbrev now : State
  now = reached tables es

  step-now : 0 < outstanding tables now i → Closes tables i now now
  unfolding run all_foreign
  step-now h = demand.closes es [] refl h

  some-none : {A : Type 0} {e : Event} → none ≡ some e → A
  some-none h = let z : ◌≡◌ {A = ℕ} 0 1 = cc in absurd (omega arith)

  owes_nothing : (m : ℕ) → outstanding tables now i ≡ m → todo_for tables now i ≡ Nothing → outstanding tables now i ≡ 0
  owes_nothing zero e h = e
  owes_nothing (suc m) e h =
      let c = step-now (omega arith) in
      some-none (sym (ap (event_for tables i) h) ∙ closes tables now i ∙ c.named)

  -- the event that it names is the closing step's
  named-event : (m : ℕ) → outstanding tables now i ≡ m → (e : Event) → event_for tables i (todo_for tables now i) ≡ some e
      → ((judged tables now e).verdict ≡ Accepted) × (outstanding tables (judged tables now e).state i + 1 ≡ outstanding tables now i)
  named-event zero z e h = some-none (sym (ap event_of (demand.none_at_zero es z)) ∙ sym (closes tables now i) ∙ h)
  named-event (suc m) z e h =
      let c = step-now (omega arith) in
      let both : some c.event ≡ some e = sym c.named ∙ sym (closes tables now i) ∙ h in
      let same : c.event ≡ e = cc in
      subst (λ (x : Event). ((judged tables now x).verdict ≡ Accepted) × (outstanding tables (judged tables now x).state i + 1 ≡ outstanding tables now i)) same
      (c.accepted, c.lowers)

  next-reached : NextThing tables now i
  next-reached =
      record {
        closes = closes tables now i;
        nothing = (owes_nothing (outstanding tables now i) refl, λ z. todo-none tables now i (demand.none_at_zero es z));
        accepted = λ e h. (named-event (outstanding tables now i) refl e h).0;
        lowers = λ e h. (named-event (outstanding tables now i) refl e h).1;
      }

-- ---- of books

next-read : (s : List ℕ) (at : ℕ) → length s ≤ most_bytes → (tables_by Forbidden (edition_of s) s).answer ≡ Ok at
    → (i : ℕ) → is_listed (judgement_of s).tables i ≡ true → NextThing (judgement_of s).tables (judgement_of s).state i
unfolding judgement_on
next-read s at small read i listed =
    let r = (reading-on-holds.reads Forbidden (edition_of s) s at small read).judgement in
    let T = (tables_by Forbidden (edition_of s) s).tables in
    let es = events_in (items_after (edition_of s) s at) in
    let tables = ap (λ (x : Judgement). x.tables) r in
    let state = ap (λ (x : Judgement). x.state) r in
    let there : i < saga_count T = ltb-true i (saga_count T) (sym (ap (λ (t : Tables). is_listed t i) tables) ∙ listed) in
    subst⁻¹ (λ (t : Tables). NextThing t (judgement_of s).state i) tables
    (subst⁻¹ (λ (x : State). NextThing T x i) state (next-reached T es i (demand3-read Forbidden (edition_of s) s at read i (omega arith))))

pub move-promises : MovePromises
move-promises = record { words = words; next = next-read; said = said-holds }
