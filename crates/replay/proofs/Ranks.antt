-- Ranks: every transaction has one, and a tie between committed operations leads to a higher one. Every event keeps that: committed operations
-- change by a commit alone, which is refused to whoever is on a ring, so the committer finds a place above all that lead to it and below the rest.
use Prim.Native.Nat.{ℕ, ◌+◌, ◌<◌}
use native.Mathlib.Omega.{arith}
use mathlib.Core.Path.{◌≡◌, refl, ap, subst, ◌∙◌}
use mathlib.Core.Bool.{Bool, true, false, cond}
use mathlib.Core.Logic.{◌↔◌, ◌≢◌, ⊎_elim}
use mathlib.Core.List.{List}
use lib.Dec.{eqb}
use borrow.Author.Tests.{eq-eqb, eqb-true, ne_eqb}
use Rattle.laws.proofs.Bools.{bool_cases, clash, on_and}
use Rattle.laws.proofs.Decisions.{same_or}
use Rattle.terms.specs.Limits.{most_transactions}
use Rattle.terms.specs.declared.Event.{Event}
use Rattle.terms.specs.declared.Event.TheVariants.{Abort, AbortOne, Begin, Commit, CommitOne, Delegate, Operation as Invoke, Spawn}
use Rattle.terms.specs.declared.Verdict.TheVariants.{Accepted}
use Rattle.sets.specs.Reach.{Leads, leads_to}
use Rattle.sets.proofs.ReachLaws.{AddsAt}
use Rattle.ties.specs.Operations.{all_held_by, ended_as, is_active, made, new_op, no_operation, only_active, op_at, passed_to, rewritten, size}
use Rattle.ties.specs.Ties.{before, on_ring}
use Rattle.ties.specs.declared.Fate.TheVariants.{Aborted, Committed}
use Rattle.ties.specs.declared.Operation.{Operation}
use Rattle.ties.specs.declared.Ops.{Ops}
use Rattle.ties.proofs.OrderLaws.{active-uncommitted, ended-order}
use Rattle.ties.proofs.RingLaws.{leads-of, leads-ring, of-leads}
use Rattle.tables.specs.declared.Tables.{Tables}
use Rattle.rules.specs.States.{empty_state}
use Rattle.rules.specs.declared.State.{State}
use Rattle.judge.specs.Judge.{change_of, commit_under, judged, state_after}
use Rattle.judge.proofs.EventLaws.{lines-off}
use Rattle.histories.specs.Histories.{reached}
use Rattle.histories.proofs.Invariants.{lasting-kept, lasting-start}
use Rattle.histories.proofs.Lasts.{Lasting}
use Rattle.histories.proofs.RunLaws.{keeps}
use Rattle.histories.proofs.Steps.{commit-ending, commit-one-may, step}
use Rattle.judge.proofs.ClerkLaws.{by-clerk}
use Rattle.rules.specs.States.{Parent}
use Rattle.replay.specs.Replay.{comes_before}
use Rattle.replay.proofs.KeptChanges.{Unmoved, committed-ties, made-unmoved, rewritten-by, rewritten-unmoved, unmoved-ties}
use Rattle.replay.proofs.KeptTies.{comes-stands, tie-of}

-- a rank for each, below a bound, and every pair of D leads to a higher one
pub record Ranked (D : ℕ → ℕ → Bool) : Type 0 where
  pub rank : ℕ → ℕ
  pub bound : ℕ
  pub below : (a : ℕ) → rank a < bound
  pub forward : (a b : ℕ) → D a b ≡ true → rank a < rank b

-- so does every way along D
pub leads-up : {D : ℕ → ℕ → Bool} (r : Ranked D) {a b : ℕ} → Leads D a b → r.rank a < r.rank b
leads-up r {a} {b} (Leads.last h) = r.forward a b h
leads-up r {a} {b} (Leads.step {b = c} h w) = omega (arith, r.forward a c h, leads-up r w)

-- fewer pairs
ranked-fewer : {D E : ℕ → ℕ → Bool} → ((a b : ℕ) → E a b ≡ true → D a b ≡ true) → Ranked D → Ranked E
ranked-fewer fewer r = record { rank = r.rank; bound = r.bound; below = r.below; forward = λ a b h. r.forward a b (fewer a b h) }

-- ---- pairs added at t, which is on no ring of a relation that has them all: whoever leads to t stays, t comes behind all of those, and the rest behind t

module _ {D E R : ℕ → ℕ → Bool} (t : ℕ) (adds : AddsAt D E t) (within : (a b : ℕ) → E a b ≡ true → R a b ≡ true) (off : Leads R t t → ⊥)
    (leads : ℕ → Bool) (leading : (a : ℕ) → (leads a ≡ true) ↔ Leads R a t) (r : Ranked D) where
  -- the rank from then on
  abbrev moved : ℕ → ℕ
  moved a = cond (leads a) (r.rank a) (cond (eqb a t) r.bound (r.bound + 1 + r.rank a))

  by_part : {A : Type 0} (a : ℕ) → (leads a ≡ true → moved a ≡ r.rank a → A) → (a ≡ t → moved a ≡ r.bound → A)
      → (a ≢ t → moved a ≡ r.bound + 1 + r.rank a → A) → A
  by_part a ahead here behind =
      bool_cases (leads a)
      (λ h. ahead h (rw h))
      (λ h. same_or a t (λ e. here e (rw (h, eq-eqb a t e))) (λ e. behind e (rw (h, ne_eqb a t e))))

  -- b leads to t, so whoever comes before it does
  ahead-up : (a b : ℕ) → E a b ≡ true → leads b ≡ true → moved a < r.rank b
  ahead-up a b h lead =
      let to = (leading b).0 lead in
      let from = Leads.step (within a b h) to in
      let same : moved a ≡ r.rank a = rw ((leading a).1 from) in
      ⊎_elim (λ d. omega (arith, same, r.forward a b d))
      (⊎_elim (λ e. absurd (off (subst (λ (x : ℕ). Leads R x t) e from))) (λ e. absurd (off (subst (λ (x : ℕ). Leads R x t) e to))))
      (adds a b h)

  moved_up : (a b : ℕ) → E a b ≡ true → moved a < moved b
  moved_up a b h =
      by_part b
      (λ lead e. omega (arith, e, ahead-up a b h lead))
      (λ q e.
      let same : moved a ≡ r.rank a = rw ((leading a).1 (subst (Leads R a) q (Leads.last (within a b h)))) in
      omega (arith, e, same, r.below a))
      (λ q e.
      by_part a
      (λ lead f. omega (arith, e, f, r.below a))
      (λ p f. omega (arith, e, f))
      (λ p f. ⊎_elim (λ d. omega (arith, e, f, r.forward a b d)) (⊎_elim (λ x. absurd (p x)) (λ x. absurd (q x))) (adds a b h)))

  ranked-more : Ranked E
  ranked-more =
      record {
        rank = moved;
        bound = r.bound + 1 + r.bound;
        below = λ a. by_part a (λ h e. omega (arith, e, r.below a)) (λ h e. omega (arith, e)) (λ h e. omega (arith, e, r.below a));
        forward = moved_up;
      }

-- ---- by the change of the operations

-- no operation becomes committed
ranked-unmoved : (old new : Ops) → Unmoved old new → Ranked (comes_before old) → Ranked (comes_before new)
ranked-unmoved old new unmoved = ranked-fewer (unmoved-ties old new unmoved)

-- some of t's become committed, and t is on no ring
module _ (ops : Ops) (t : ℕ) (which : ℕ → Operation → Bool)
    (running : (p : ℕ) (op : Operation) → which p op ≡ true → is_active op.fate ≡ true)
    (mine : (p : ℕ) → which p (op_at ops p) ≡ true → (op_at ops p).responsible ≡ t) (off : on_ring ops t ≡ false) where
  abbrev after : Ops
  after = rewritten which (ended_as Committed (size ops)) ops

  quiet : (p : ℕ) → which p no_operation ≡ false
  quiet p = bool_cases (which p no_operation) (λ h. clash (running p no_operation h) refl) (λ h. h)

  ranked-committed : Ranked (comes_before ops) → Ranked (comes_before after)
  ranked-committed =
      ranked-more {R = before ops} t
      (committed-ties ops after t (rewritten-by which (ended_as Committed (size ops)) quiet ops t mine))
      (λ a b h. ended-order which running Committed (size ops) ops a b (comes-stands after a b h))
      (λ w. clash (leads-ring ops t w) off)
      (λ a. leads_to most_transactions (before ops) a t)
      (λ a. (leads-of (size ops) (op_at ops) a t, of-leads (size ops) (op_at ops) a t))

-- ---- every event

pub record Ordered (s : State) : Type 0 where
  pub lasts : Lasting s
  pub ranked : Ranked (comes_before s.ops)

held-active : (t p : ℕ) (op : Operation) → all_held_by t p op ≡ true → is_active op.fate ≡ true
held-active t p op h = (on_and (is_active op.fate) (eqb op.responsible t) h).0

chosen-active : (q p : ℕ) (op : Operation) → only_active q p op ≡ true → is_active op.fate ≡ true
chosen-active q p op h = (on_and (is_active op.fate) (eqb p q) h).0

module _ (tables : Tables) (s : State) (i : Ordered s) where
  ranked-kept : (e : Event) → (judged tables s e).verdict ≡ Accepted → Ranked (comes_before (state_after (change_of tables s.transactions e) s).ops)
  unfolding state_after
  ranked-kept (Begin t) v = i.ranked
  ranked-kept (Commit t) v =
      by-clerk tables s.transactions t (λ (p : Parent). Ranked (comes_before (state_after (commit_under t p) s).ops))
      (λ own.
      ranked-committed s.ops t (all_held_by t) (held-active t)
      (λ p h. eqb-true (op_at s.ops p).responsible t (on_and (is_active (op_at s.ops p).fate) (eqb (op_at s.ops p).responsible t) h).1)
      (commit-ending tables s t own v).rule.3 i.ranked)
      (λ m h.
      ranked-unmoved s.ops (rewritten (all_held_by t) (passed_to m) s.ops)
      (rewritten-unmoved (all_held_by t) (passed_to m) (λ p. refl) s.ops
      (λ p k. active-uncommitted (op_at s.ops p).fate (held-active t p (op_at s.ops p) k))) i.ranked)
  ranked-kept (Abort t) v =
      ranked-unmoved s.ops (rewritten (all_held_by t) (ended_as Aborted (size s.ops)) s.ops)
      (rewritten-unmoved (all_held_by t) (ended_as Aborted (size s.ops)) (λ p. refl) s.ops (λ p h. refl)) i.ranked
  ranked-kept (Invoke t o m) v = ranked-unmoved s.ops (made (new_op t o m) s.ops) (made-unmoved (new_op t o m) s.ops refl i.lasts.room) i.ranked
  ranked-kept (Delegate t r q) v =
      ranked-unmoved s.ops (rewritten (only_active q) (passed_to r) s.ops)
      (rewritten-unmoved (only_active q) (passed_to r) (λ p. refl) s.ops
      (λ p h. active-uncommitted (op_at s.ops p).fate (chosen-active q p (op_at s.ops p) h))) i.ranked
  ranked-kept (CommitOne t q) v =
      let may = commit-one-may tables s t q (lines-off tables s (CommitOne t q) v) in
      ranked-committed s.ops t (only_active q) (chosen-active q)
      (λ p h. ap (λ (x : ℕ). (op_at s.ops x).responsible) (eqb-true p q (on_and (is_active (op_at s.ops p).fate) (eqb p q) h).1) ∙ may.0.mine)
      may.2 i.ranked
  ranked-kept (AbortOne t q) v =
      ranked-unmoved s.ops (rewritten (only_active q) (ended_as Aborted (size s.ops)) s.ops)
      (rewritten-unmoved (only_active q) (ended_as Aborted (size s.ops)) (λ p. refl) s.ops (λ p h. refl)) i.ranked
  ranked-kept (Spawn m c) v = i.ranked

  ordered-kept : (e : Event) → (judged tables s e).verdict ≡ Accepted → Ordered (state_after (change_of tables s.transactions e) s)
  ordered-kept e v = record { lasts = lasting-kept tables s (change_of tables s.transactions e) i.lasts (step tables s e v); ranked = ranked-kept e v }

ordered-start : Ordered empty_state
ordered-start =
    record {
      lasts = lasting-start;
      ranked =
          record {
            rank = λ a. 0;
            bound = 1;
            below = λ a. omega arith;
            forward = λ a b h. absurd (omega (arith, (tie-of empty_state.ops a b h).way.below));
          };
    }

pub ranked : (tables : Tables) (es : List Event) → Ranked (comes_before (reached tables es).ops)
ranked tables es = (keeps tables Ordered (λ s e i v. ordered-kept tables s i e v) es empty_state ordered-start).ranked
