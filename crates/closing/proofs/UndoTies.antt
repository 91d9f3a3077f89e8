-- What stands tied before an undo's operation is committed or the undo's own, since an undo waits for others; and a saga is responsible for no
-- operation. So neither reads anything dirty; nothing stands before S, and an active undo is on no ring.
use Prim.Native.Nat.{ℕ, ◌<◌}
use native.Mathlib.Omega.{arith}
use mathlib.Core.Path.{◌≡◌, refl, sym, ap, subst, ◌∙◌}
use mathlib.Core.Bool.{true, false, not, ◌&&◌, false≢true}
use mathlib.Core.Logic.{◌⊎◌, inl, inr, ⊎_elim}
use lib.Dec.{ltb, eqb}
use borrow.Author.Tests.{eqb-true, ltb-true, eq-eqb}
use Rattle.laws.specs.Index.{any_below}
use Rattle.laws.proofs.Bools.{and-off, and_on, and-rest, bool_cases, clash, is-not, not-off, off-or, on_and, or_left, or-rest, or_right}
use Rattle.laws.proofs.Decisions.{lt-or}
use Rattle.laws.proofs.IndexLaws.{any-off, off-any}
use Rattle.ties.specs.Operations.{is_aborted as is_aborted_op, is_active as is_active_op, is_committed as is_committed_op, new_op, op_at, size}
use Rattle.ties.specs.Ties.{before, clean_for, conflict, dirties, dirty, dirty_at, must_wait, on_ring, read_by, stood, tied, tied_to, waits_for}
use Rattle.terms.specs.declared.Mark.{Mark}
use Rattle.ties.specs.declared.Fate.{Fate}
use Rattle.ties.specs.declared.Fate.TheVariants.{Aborted, Active, Committed}
use Rattle.ties.specs.declared.Operation.{Operation}
use Rattle.ties.specs.declared.Ops.{Ops}
use Rattle.ties.proofs.OrderLaws.{aborted-idle}
use Rattle.ties.proofs.RingLaws.{ring-free}
use Rattle.ties.proofs.TieLaws.{between, tie-made, tie_parts}
use Rattle.tables.specs.Sorts.{is_plain, is_saga, is_undo, sort_of}
use Rattle.tables.specs.declared.Tables.{Tables}
use Rattle.judge.specs.Judge.{no_party, state_after}
use Rattle.rules.specs.States.{empty_state, phase_of}
use Rattle.judge.specs.declared.Change.{Change}
use Rattle.rules.specs.declared.State.{State}
use Rattle.histories.proofs.Endings.{Together}
use Rattle.histories.proofs.Lasts.{Lasting, size-count}
use Rattle.rules.proofs.PhaseLaws.{code}
use Rattle.histories.proofs.Steps.{Making, Step}
use Rattle.histories.proofs.Touches.{New, Touched, by-whose, committed-stays, new, same-mark, same_object, same-stood, touched}
use Rattle.histories.proofs.UndoRings.{Freed, freed-kept, freed-start}
use Rattle.terms.specs.Events.{is_write}

-- ---- ties before and after an event

abbrev resp : Ops → ℕ → ℕ
resp ops q = (op_at ops q).responsible

-- p's change is final, or whoever is responsible for q is so for p too
abbrev Settled : Ops → ℕ → ℕ → Type 0
Settled ops p q = (is_committed_op (op_at ops p).fate ≡ true) ⊎ (resp ops p ≡ resp ops q)

-- ---- what every accepted event keeps

pub record Tidy (tables : Tables) (s : State) : Type 0 where
  pub off_rings : Freed tables s
  -- what is tied before an undo's operation is committed, or the undo's own
  pub clear : (p q : ℕ) → is_undo (sort_of tables (resp s.ops q)) ≡ true → tied s.ops p q ≡ true → Settled s.ops p q
  -- S is responsible for nothing
  pub free : (q : ℕ) → q < s.ops.count → is_saga (sort_of tables (resp s.ops q)) ≡ false

module _ (tables : Tables) (s : State) (tidy : Tidy tables s) (c : Change) (w : Step tables s c) where
  abbrev later : Ops
  later = (state_after c s).ops

  touch : (p : ℕ) → p < s.ops.count → Touched tables s c p
  touch p l = touched tables s tidy.off_rings.ends.lasts p l c w

  -- between operations that were there before, ties stay as they are
  tie-old : (p q : ℕ) → p < q → q < s.ops.count → tied_to (op_at later p) (op_at later q) q ≡ tied_to (op_at s.ops p) (op_at s.ops q) q
  unfolding tied_to
  tie-old p q e l =
      let tp = touch p (omega arith) in
      let tq = touch q l in
      rw (
        same-stood tables s c q (omega (arith, size-count s tidy.off_rings.ends.lasts)) tp,
        same_object tables s c tp,
        same-mark tables s c tp,
        same_object tables s c tq,
        same-mark tables s c tq,
      )

  -- an operation that is given is neither S's nor an undo's, before and after
  clear-old : (p q : ℕ) → p < q → q < s.ops.count → is_undo (sort_of tables (resp later q)) ≡ true → tied_to (op_at later p) (op_at later q) q ≡ true
      → Settled later p q
  clear-old p q e l u g =
      by-whose tables s c (touch q l)
      (λ same-q.
      let undo : is_undo (sort_of tables (resp s.ops q)) ≡ true = ap (λ (x : ℕ). is_undo (sort_of tables x)) (sym same-q) ∙ u in
      ⊎_elim
      (λ done. inl (committed-stays tables s c (touch p (omega arith)) done))
      (λ old.
      by-whose tables s c (touch p (omega arith))
      (λ same-p. inr (same-p ∙ old ∙ sym same-q))
      (λ r f. clash (ap (λ (x : ℕ). is_undo (sort_of tables x)) old ∙ undo) (party (resp s.ops p) f.gives).1))
      (tidy.clear p q undo
      (tie-made s.ops p q
      (record { accepted = omega (arith, size-count s tidy.off_rings.ends.lasts); earlier = e; holds = sym (tie-old p q e l) ∙ g }))))
      (λ r f. clash (ap (λ (op : Operation). is_undo (sort_of tables op.responsible)) (sym f.now) ∙ u) (party r f.receives).1)
    where
      party : (x : ℕ) → no_party (sort_of tables x) ≡ false → (is_saga (sort_of tables x) ≡ false) × (is_undo (sort_of tables x) ≡ false)
      party x = off-or (is_saga (sort_of tables x)) (is_undo (sort_of tables x))

  -- an undo's new operation: what conflicts with it and is not aborted is the undo's own or committed
  at_new : (t o : ℕ) (m : Mark) → Making tables s t o m → (p : ℕ) → p < s.ops.count → is_undo (sort_of tables t) ≡ true
      → tied_to (op_at s.ops p) (new_op t o m) s.ops.count ≡ true → (is_committed_op (op_at s.ops p).fate ≡ true) ⊎ (resp s.ops p ≡ t)
  unfolding tied_to must_wait
  at_new t o m f p l u g =
      let x = on_and (conflict (op_at s.ops p) o m) (stood (op_at s.ops p) s.ops.count) g in
      let wait = and-rest (is_undo (sort_of tables t)) (must_wait s.ops t o m) f.waited u in
      let z = off-any (size s.ops) (λ i. waits_for t o m (op_at s.ops i)) wait p (omega (arith, size-count s tidy.off_rings.ends.lasts)) in
      by-fate (op_at s.ops p).fate (stands x.1) inl
      (λ running.
      let z₁ = and-rest (is_active_op (op_at s.ops p).fate) (not (eqb (resp s.ops p) t) && conflict (op_at s.ops p) o m) z running in
      bool_cases (eqb (resp s.ops p) t)
      (λ r. inr (eqb-true (resp s.ops p) t r))
      (λ r. clash x.0 (and-rest (not (eqb (resp s.ops p) t)) (conflict (op_at s.ops p) o m) z₁ (rw r))))
    where
      -- whatever was aborted was so when there were no more operations than now
      stands : stood (op_at s.ops p) s.ops.count ≡ true → is_aborted_op (op_at s.ops p).fate ≡ false
      stands h =
          is-not (is_aborted_op (op_at s.ops p).fate)
          (λ a.
          omega (
            arith,
            tidy.off_rings.ends.lasts.past p (aborted-idle (op_at s.ops p).fate a),
            ltb-true s.ops.count (op_at s.ops p).ended
                (or-rest (not (is_aborted_op (op_at s.ops p).fate)) (ltb s.ops.count (op_at s.ops p).ended) h (rw a)),
          ))

      by-fate : {A : Type 0} (f : Fate) → is_aborted_op f ≡ false → (is_committed_op f ≡ true → A) → (is_active_op f ≡ true → A) → A
      by-fate Aborted h done running = absurd (false≢true (sym h))
      by-fate Active h done running = running refl
      by-fate Committed h done running = done refl

  clear-new : (p q : ℕ) → p < q → New tables s c q → is_undo (sort_of tables (resp later q)) ≡ true → tied_to (op_at later p) (op_at later q) q ≡ true
      → Settled later p q
  clear-new p q e n u g =
      let other = n.others p (omega (arith, n.last)) in
      ⊎_elim
      (λ done. inl (ap (λ (op : Operation). is_committed_op op.fate) other ∙ done))
      (λ same. inr (ap (λ (op : Operation). op.responsible) other ∙ same ∙ sym (ap (λ (op : Operation). op.responsible) n.now)))
      (at_new n.t n.o n.m n.making p (omega (arith, n.last)) (subst (λ (op : Operation). is_undo (sort_of tables op.responsible) ≡ true) n.now u)
      (subst (λ (x : ℕ). tied_to (op_at s.ops p) (new_op n.t n.o n.m) x ≡ true) n.last (rw (other, n.now) at g)))

  pub tidy-after : Tidy tables (state_after c s)
  tidy-after =
      record {
        off_rings = freed-kept tables s c tidy.off_rings w;
        clear = λ p q u g.
            let parts = tie_parts later p q g in
            lt-or q s.ops.count
            (λ l. clear-old p q parts.earlier l u parts.holds)
            (λ l.
            clear-new p q parts.earlier
            (new tables s c w tidy.off_rings.ends.lasts q l (omega (arith, parts.accepted, size-count (state_after c s) ends.lasts))) u parts.holds);
        free = λ q l.
            lt-or q s.ops.count
            (λ low.
            by-whose tables s c (touch q low)
            (λ same. ap (λ (x : ℕ). is_saga (sort_of tables x)) same ∙ tidy.free q low)
            (λ r f.
            ap (λ (op : Operation). is_saga (sort_of tables op.responsible)) f.now
            ∙ (off-or (is_saga (sort_of tables r)) (is_undo (sort_of tables r)) f.receives).0))
            (λ high.
            let n = new tables s c w tidy.off_rings.ends.lasts q high l in
            ap (λ (op : Operation). is_saga (sort_of tables op.responsible)) n.now ∙ n.making.no_saga);
      }
    where
      ends : Together tables (state_after c s)
      ends = (freed-kept tables s c tidy.off_rings w).ends

pub tidy-kept : (tables : Tables) (s : State) (c : Change) → Tidy tables s → Step tables s c → Tidy tables (state_after c s)
tidy-kept tables s c h w = tidy-after tables s h c w

pub tidy-start : (tables : Tables) → Tidy tables empty_state
tidy-start tables =
    record {
      off_rings = freed-start tables;
      clear = λ p q u w. let parts = tie_parts empty_state.ops p q w in absurd (omega (arith, parts.accepted));
      free = λ q l. absurd (omega arith);
    }

-- ---- no dirty read, nothing before S

-- what is tied before an operation of t's is committed or t's own
abbrev pub Alone : State → ℕ → Type 0
Alone s t = (p q : ℕ) → resp s.ops q ≡ t → tied s.ops p q ≡ true → (is_committed_op (op_at s.ops p).fate ≡ true) ⊎ (resp s.ops p ≡ t)

-- S is responsible for nothing, so nothing stands before it
pub saga-off-rings : (tables : Tables) (s : State) → Tidy tables s → (t : ℕ) → is_saga (sort_of tables t) ≡ true → on_ring s.ops t ≡ false
saga-off-rings tables s tidy t e =
    ring-free s.ops t
    (λ a.
    is-not (before s.ops a t)
    (λ h.
    let w = between (size s.ops) (op_at s.ops) a t h in
    clash (ap (λ (x : ℕ). is_saga (sort_of tables x)) w.second ∙ e) (tidy.free w.q (omega (arith, w.below, size-count s tidy.off_rings.ends.lasts)))))

-- nor has it read anything
pub saga-not-dirty : (tables : Tables) (s : State) → Tidy tables s → (t : ℕ) → is_saga (sort_of tables t) ≡ true → dirty s.ops t ≡ false
unfolding dirty dirty_at
saga-not-dirty tables s tidy t e =
    any-off (size s.ops) (λ j. read_by t (op_at s.ops j) && any_below j (λ i. dirties t (op_at s.ops j) j (op_at s.ops i)))
    (λ j l.
    and-off (read_by t (op_at s.ops j)) (any_below j (λ i. dirties t (op_at s.ops j) j (op_at s.ops i)))
    (λ r.
    let q = op_at s.ops j in
    let his = eqb-true q.responsible t (on_and (eqb q.responsible t) (not (is_write q.mark) && not (is_aborted_op q.fate)) r).0 in
    clash (ap (λ (x : ℕ). is_saga (sort_of tables x)) his ∙ e) (tidy.free j (omega (arith, size-count s tidy.off_rings.ends.lasts)))))

-- an active transaction that is not plain and read nothing of another's but what is committed has no dirty read: its own is active still
pub not-dirty : (tables : Tables) (s : State) (t : ℕ) → Together tables s → is_plain (sort_of tables t) ≡ false → code (phase_of s.transactions t) ≡ 1
    → Alone s t → dirty s.ops t ≡ false
unfolding dirty dirty_at
not-dirty tables s t h sort running alone =
    any-off (size s.ops) (λ j. read_by t (op_at s.ops j) && any_below j (λ i. dirties t (op_at s.ops j) j (op_at s.ops i)))
    (λ j l.
    and-off (read_by t (op_at s.ops j)) (any_below j (λ i. dirties t (op_at s.ops j) j (op_at s.ops i)))
    (λ r. any-off j (λ i. dirties t (op_at s.ops j) j (op_at s.ops i)) (λ i m. clean i j l m r)))
  where
    clean : (i j : ℕ) → j < size s.ops → i < j → read_by t (op_at s.ops j) ≡ true → dirties t (op_at s.ops j) j (op_at s.ops i) ≡ false
    clean i j l m r =
        let p = op_at s.ops i in
        let q = op_at s.ops j in
        let mine : q.responsible ≡ t =
        eqb-true q.responsible t (on_and (eqb q.responsible t) (not (is_write q.mark) && not (is_aborted_op q.fate)) r).0 in
        and-off (is_write p.mark) (tied_to p q j && not (clean_for t p))
        (λ w.
        and-off (tied_to p q j) (not (clean_for t p))
        (λ tie.
        not-off (clean_for t p)
        (⊎_elim
        (λ done. or_left (is_committed_op p.fate) (is_active_op p.fate && eqb p.responsible t) done)
        (λ his.
        let active : is_active_op p.fate ≡ true =
        bool_cases (is_active_op p.fate) (λ a. a)
        (λ a.
        absurd
        (omega (
          arith,
          h.over i (omega (arith, size-count s h.lasts)) a (ap (λ (x : ℕ). is_plain (sort_of tables x)) his ∙ sort),
          ap (λ (x : ℕ). code (phase_of s.transactions x)) his,
        )))
        in
        or_right (is_committed_op p.fate) (is_active_op p.fate && eqb p.responsible t)
        (and_on (is_active_op p.fate) (eqb p.responsible t) active (eq-eqb p.responsible t his)))
        (alone i j mine (tie-made s.ops i j (record { accepted = l; earlier = m; holds = tie }))))))

-- a tied operation is one of those that were accepted
pub tied-counted : (s : State) → Lasting s → (p q : ℕ) → tied s.ops p q ≡ true → q < s.ops.count
tied-counted s h p q w = let parts = tie_parts s.ops p q w in omega (arith, parts.accepted, size-count s h)
