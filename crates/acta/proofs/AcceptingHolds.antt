-- Nothing else is refused (★15): each precondition in the words of the list is the one that the judge goes by.
use Prim.Native.Nat.{ℕ, ◌+◌, ◌-◌, ◌<◌, ◌≤◌}
use native.Mathlib.Omega.{arith}
use mathlib.Core.Path.{◌≡◌, refl, sym, ap, ◌∙◌}
use mathlib.Core.Bool.{true, false, not, ◌&&◌, ◌||◌}
use mathlib.Core.Logic.{◌↔◌, ⊎_elim}
use mathlib.Core.List.{List}
use lib.Dec.{leb}
use Rattle.laws.proofs.Bools.{and_on, bool_cases, clash, is-not, not_on, on_and, on-not, or_cases, or_left, or_right}
use Rattle.terms.specs.Events.{is_write}
use Rattle.terms.specs.declared.Event.{Event}
use Rattle.terms.specs.declared.Event.TheVariants.{Abort, AbortOne, Begin, Commit, CommitOne, Delegate, Operation as Invoke, Spawn}
use Rattle.terms.specs.declared.Mark.{Mark}
use Rattle.terms.specs.declared.Verdict.TheVariants.{Accepted}
use Rattle.ties.specs.Operations.{is_aborted as is_aborted_op, is_active as is_active_op, new_op, op_at, size}
use Rattle.ties.specs.Ties.{before_made, clean_for, conflict, on_ring, tied}
use Rattle.tables.specs.Accepted.{Well}
use Rattle.tables.specs.Counts.{object_count}
use Rattle.tables.specs.Sorts.{is_known, is_undo, sort_of}
use Rattle.tables.specs.declared.Sort.{Sort}
use Rattle.tables.specs.declared.Sort.TheVariants.{Plain, Saga, Step, Undo, Unknown}
use Rattle.tables.specs.declared.Tables.{Tables}
use Rattle.rules.specs.Rules.{abort_barred, begin_barred, commit_barred}
use Rattle.rules.specs.States.{has_ended, is_active, is_child, is_idle, parent_of, phase_of}
use Rattle.rules.specs.States.{Parent}
use Rattle.std.specs.Prelude.{None, Some}
use Rattle.rules.specs.declared.Phase.{Phase}
use Rattle.rules.specs.declared.Phase.TheVariants.{Aborted, Active, Committed, Idle}
use Rattle.rules.specs.declared.State.{State}
use Rattle.rules.specs.declared.Transaction.{Transaction}
use Rattle.rules.proofs.PhaseLaws.{code}
use Rattle.judge.specs.Judge.{clerk_of, judged}
use Rattle.histories.specs.Histories.{history, reached}
use Rattle.histories.specs.May.{ChildrenDone}
use Rattle.histories.specs.May
use Rattle.histories.specs.Promises.{MayEndOne, UndoRinged}
use Rattle.histories.proofs.AcceptedWhenHolds.{accepted-when}
use Rattle.histories.proofs.Invariants.{lasting}
use Rattle.histories.proofs.Kin.{clerk-is, kin}
use Rattle.histories.proofs.Lasts.{size-count}
use Rattle.histories.proofs.Singles.{ended_alone}
use Rattle.acta.specs.Accepting.{AbortsWhen, Accepting, BeginsWhen, CommitsWhen, DelegatesWhen, DropsOneWhen, HandsWhen, InvokesWhen, KeepsOneWhen, Party, ReadsClean, RingsUndo, SpawnsWhen, order_lets_abort, order_lets_begin, order_lets_commit}
use Rattle.acta.specs.Completing.{Takes}
use Rattle.acta.specs.Delegating.{works}
use Rattle.acta.specs.Told.{IsTold}
use Rattle.acta.specs.Words.{OnRing, began, committed, conflicts, ended, in_progress, invoked, kept, parent, runs}
use Rattle.acta.proofs.DependingHolds.{all-let, none-bars, twice}
use Rattle.acta.proofs.RingsTold.{ended-free, going-low, ring-given, ring-handed, ring-made}
use Rattle.acta.proofs.StuckNever.{begun-known, takes-behind}
use Rattle.acta.proofs.ToldHolds.{is_told, tie-in}

module _ (tables : Tables) (well : Well tables) (es : List Event) where
  abbrev h : List Event
  h = history tables es

  abbrev s : State
  s = reached tables es

  abbrev ts : List Transaction
  ts = s.transactions

  told : IsTold tables es h
  told = is_told tables es well

  -- ---- the saga order

  first : (f : ℕ) → f + 0 ≡ f
  first f = omega arith

  begin-order : (x : Sort) → not (begin_barred ts x) ≡ order_lets_begin h x
  begin-order (Saga f n) = refl
  begin-order (Step f n i) = rw (told.active (f + 0), first f, told.committed_is (f + (i - 1))) (twice (in_progress h f && (leb i 1 || committed h (f + (i - 1)))))
  begin-order (Undo f n i) =
      rw (told.aborted_is (f + 0), first f, told.committed_is (f + i), told.active (f + (i + 1)), told.committed_is (f + (i + 1)), told.committed_is (f + (n + (i + 1))))
      (twice (order_lets_begin h (Undo f n i)))
  begin-order Plain = refl
  begin-order Unknown = refl

  commit-order : (x : Sort) → not (commit_barred ts x) ≡ order_lets_commit h x
  commit-order (Saga f n) = rw (told.committed_is (f + n)) (twice (committed h (f + n)))
  commit-order (Step f n i) = rw (told.active (f + 0), first f) (twice (in_progress h f))
  commit-order (Undo f n i) = refl
  commit-order Plain = refl
  commit-order Unknown = refl

  abort-order : (x : Sort) → (not (is_undo x) && not (abort_barred ts x)) ≡ order_lets_abort h x
  abort-order (Saga f n) = rw (told.committed_is (f + n))
  abort-order (Step f n i) = refl
  abort-order (Undo f n i) = refl
  abort-order Plain = refl
  abort-order Unknown = refl

  -- ---- the parts

  known : (t : ℕ) → in_progress h t ≡ true → is_known (sort_of tables t) ≡ true
  known t i = begun-known tables es t (on_and (began h t) (not (ended h t)) i).0

  going : (t : ℕ) → is_active (phase_of ts t) ≡ true → in_progress h t ≡ true
  going t a = sym (told.active t) ∙ a

  active : (t : ℕ) → in_progress h t ≡ true → is_active (phase_of ts t) ≡ true
  active t i = told.active t ∙ i

  low : (q : ℕ) → q < size s.ops → q < invoked h
  low q l = omega (arith, l, told.count)

  high : (q : ℕ) → q < invoked h → q < size s.ops
  high q l = omega (arith, l, told.count)

  fresh : (t : ℕ) → is_idle (phase_of ts t) ≡ true → began h t ≡ false
  fresh t i = on-not (began h t) (sym (told.idle t) ∙ i)

  idle : (t : ℕ) → began h t ≡ false → is_idle (phase_of ts t) ≡ true
  idle t b = told.idle t ∙ not_on (began h t) b

  children : (t : ℕ) → ChildrenDone s t → (c : ℕ) → parent h c ≡ Some t → in_progress h c ≡ false
  children t d c p = sym (told.active c) ∙ d c (told.parents c ∙ p)

  done : (t : ℕ) → ((c : ℕ) → parent h c ≡ Some t → in_progress h c ≡ false) → ChildrenDone s t
  done t k c p = told.active c ∙ k c (sym (told.parents c) ∙ p)

  -- a clean write, both ways
  clean_is : (t p : ℕ) → p < invoked h → clean_for t (op_at s.ops p) ≡ (kept h p || works h t p)
  clean_is t p l = rw (told.fates p l, told.responsibles p l)

  -- the reads of q, both ways
  reads : (t q : ℕ) → q < invoked h
      → (is_write (op_at s.ops q).mark ≡ false → (p : ℕ) → is_write (op_at s.ops p).mark ≡ true → tied s.ops p q ≡ true → clean_for t (op_at s.ops p) ≡ true) → ReadsClean h t q
  reads t q l c r p w m =
      let tie = (told.ties p q).1 w in
      let i = (tie-in tables es p q tie).0 in
      or_cases (kept h p) (works h t p) (sym (clean_is t p i) ∙ c (ap is_write (told.marks q l) ∙ r) p (ap is_write (told.marks p i) ∙ m) tie)

  clean : (t q : ℕ) → q < invoked h → ReadsClean h t q
      → is_write (op_at s.ops q).mark ≡ false → (p : ℕ) → is_write (op_at s.ops p).mark ≡ true → tied s.ops p q ≡ true → clean_for t (op_at s.ops p) ≡ true
  clean t q l c r p m tie =
      let i = (tie-in tables es p q tie).0 in
      clean_is t p i
      ∙ ⊎_elim (or_left (kept h p) (works h t p)) (or_right (kept h p) (works h t p))
      (c (ap is_write (sym (told.marks q l)) ∙ r) p ((told.ties p q).0 tie) (ap is_write (sym (told.marks p i)) ∙ m))

  off : (t : ℕ) → (OnRing h t → ⊥) → on_ring s.ops t ≡ false
  off t n = is-not (on_ring s.ops t) (λ r. n ((told.rings t).0 r))

  none : (t : ℕ) → on_ring s.ops t ≡ false → OnRing h t → ⊥
  none t f w = clash ((told.rings t).1 w) f

  -- ---- the events

  through : (e : Event) {A B : Type 0} → ((judged tables s e).verdict ≡ Accepted) ↔ A → (A → B) → (B → A) → Takes tables h e ↔ B
  through e by to from = let t = takes-behind tables es e in (λ x. to (by.0 (t.0 x)), λ y. t.1 (by.1 (from y)))

  begin : (t : ℕ) → Takes tables h (Begin t) ↔ BeginsWhen tables h t
  begin t =
      through (Begin t) ((accepted-when tables es).begin t)
      (λ m. record {
        known = m.known;
        fresh = fresh t m.idle;
        order = sym (begin-order (sort_of tables t)) ∙ not_on (begin_barred ts (sort_of tables t)) m.saga;
        declared = none-bars tables es h told true t m.declared;
      })
      (λ w. record {
        known = w.known;
        idle = idle t w.fresh;
        saga = on-not (begin_barred ts (sort_of tables t)) (begin-order (sort_of tables t) ∙ w.order);
        declared = all-let tables es h told true t w.declared;
      })

  spawn : (m c : ℕ) → Takes tables h (Spawn m c) ↔ SpawnsWhen tables h m c
  spawn m c =
      through (Spawn m c) ((accepted-when tables es).spawn m c)
      (λ x. record { parent_plain = x.parent; child_plain = x.child; fresh = fresh c x.idle; going = going m x.active; declared = none-bars tables es h told true c x.declared })
      (λ w. record { parent = w.parent_plain; child = w.child_plain; idle = idle c w.fresh; active = active m w.going; declared = all-let tables es h told true c w.declared })

  commit : (t : ℕ) → parent h t ≡ None → Takes tables h (Commit t) ↔ CommitsWhen tables h t
  commit t p =
      through (Commit t) ((accepted-when tables es).commit t (told.parents t ∙ p))
      (λ m. record {
        going = going t m.active;
        order = sym (commit-order (sort_of tables t)) ∙ not_on (commit_barred ts (sort_of tables t)) m.saga;
        declared = none-bars tables es h told false t m.declared;
        children = children t m.children;
        reads = λ q l o d. reads t q l (λ r. m.clean q (high q l) (told.responsibles q l ∙ o) r (ap is_aborted_op (told.fates q l) ∙ d));
        off_rings = none t m.off_rings;
      })
      (λ w. record {
        known = known t w.going;
        active = active t w.going;
        saga = on-not (commit_barred ts (sort_of tables t)) (commit-order (sort_of tables t) ∙ w.order);
        declared = all-let tables es h told false t w.declared;
        children = done t w.children;
        clean = λ q l o r d.
            let i = low q l in clean t q i (w.reads q i (sym (told.responsibles q i) ∙ o) (ap is_aborted_op (sym (told.fates q i)) ∙ d)) r;
        off_rings = off t w.off_rings;
      })

  hand : (t m : ℕ) → parent h t ≡ Some m → Takes tables h (Commit t) ↔ HandsWhen tables h t m
  hand t m p =
      through (Commit t) ((accepted-when tables es).hand t m (told.parents t ∙ p))
      (λ x.
      let up = lasts (phase_of ts m) ((kin tables es).begun t m (told.parents t ∙ p)).1 x.could.parent in
      record {
        going = going t x.could.active;
        declared = none-bars tables es h told false t x.could.declared;
        children = children t x.could.children;
        parent_going = going m up;
        no_ring = λ r. x.no_ring ((ring-handed tables well es t m (going-low tables well es m (going m up)) p).1 r);
      })
      (λ w. record {
        could =
            record {
              active = active t w.going;
              declared = all-let tables es h told false t w.declared;
              children = done t w.children;
              parent = not-over (phase_of ts m) (active m w.parent_going);
            };
        no_ring = λ r. w.no_ring ((ring-handed tables well es t m (going-low tables well es m w.parent_going) p).0 r);
      })
    where
      lasts : (x : Phase) → 1 ≤ code x → has_ended x ≡ false → is_active x ≡ true
      lasts Idle l e = absurd (omega arith)
      lasts Active l e = refl
      lasts Committed l e = clash refl e
      lasts Aborted l e = clash refl e

      not-over : (x : Phase) → is_active x ≡ true → has_ended x ≡ false
      not-over Idle a = clash a refl
      not-over Active a = refl
      not-over Committed a = clash a refl
      not-over Aborted a = clash a refl

  abort : (t : ℕ) → Takes tables h (Abort t) ↔ AbortsWhen tables h t
  abort t =
      let x = sort_of tables t in
      through (Abort t) ((accepted-when tables es).abort t)
      (λ m. record { going = going t m.active; order = sym (abort-order x) ∙ and_on (not (is_undo x)) (not (abort_barred ts x)) (not_on (is_undo x) m.no_undo) (not_on (abort_barred ts x) m.saga) })
      (λ w.
      let both = on_and (not (is_undo x)) (not (abort_barred ts x)) (abort-order x ∙ w.order) in
      record { known = known t w.going; no_undo = on-not (is_undo x) both.0; active = active t w.going; saga = on-not (abort_barred ts x) both.1 })

  invoke : (t o : ℕ) (m : Mark) → Takes tables h (Invoke t o m) ↔ InvokesWhen tables h t o m
  invoke t o m =
      through (Invoke t o m) ((accepted-when tables es).invoke t o m)
      (λ x.
      let c = x.could in
      record {
        object_known = c.object;
        no_saga = c.no_saga;
        going = going t c.active;
        waits = λ u p l r n. sym (meets p l) ∙ c.waited u p (high p l) (ap is_active_op (told.fates p l) ∙ r) (λ e. n (sym (told.responsibles p l) ∙ e));
        no_ring = λ r. x.no_ring ((ring (going t c.active) c.object).1 r);
        room = omega (arith, x.room, told.count, size-count s (lasting tables es));
      })
      (λ w. record {
        could =
            record {
              known = known t w.going;
              object = w.object_known;
              no_saga = w.no_saga;
              active = active t w.going;
              waited = λ u p l r n.
                  let i = low p l in meets p i ∙ w.waits u p i (ap is_active_op (sym (told.fates p i)) ∙ r) (λ e. n (told.responsibles p i ∙ e));
            };
        no_ring = λ r. w.no_ring ((ring w.going w.object_known).0 r);
        room = omega (arith, w.room, told.count, size-count s (lasting tables es));
      })
    where
      meets : (p : ℕ) → p < invoked h → conflict (op_at s.ops p) o m ≡ conflicts h p o m
      meets p l = rw (told.objects p l, told.marks p l)

      ring : in_progress h t ≡ true → o < object_count tables → UndoRinged tables s (before_made s.ops (new_op t o m)) ↔ RingsUndo tables h (Invoke t o m)
      ring i l = ring-made tables well es t o m (going-low tables well es t i) (omega (arith, l))

  party : (t : ℕ) → May.Party tables s t → Party tables h t
  party t x = record { no_saga = x.no_saga; no_undo = x.no_undo; going = going t x.active }

  party-back : (t : ℕ) → Party tables h t → May.Party tables s t
  party-back t x = record { known = known t x.going; no_saga = x.no_saga; no_undo = x.no_undo; active = active t x.going }

  delegate : (t r q : ℕ) → Takes tables h (Delegate t r q) ↔ DelegatesWhen tables h t r q
  delegate t r q =
      through (Delegate t r q) ((accepted-when tables es).delegate t r q)
      (λ x.
      let c = x.could in
      let i = low q c.accepted in
      let small = going-low tables well es r (going r c.receiver.active) in
      record {
        giver = party t c.giver;
        receiver = party r c.receiver;
        differ = c.differ;
        there_is = i;
        mine = sym (told.responsibles q i) ∙ c.mine;
        no_ring = λ y.
            let z = (ring-given tables well es t r q small).1 y in
            bool_cases (runs h q) (λ a. x.no_ring (ap is_active_op (told.fates q i) ∙ a, z)) (λ a. ended-free tables well es t r q small a z);
      })
      (λ w. record {
        could =
            record {
              giver = party-back t w.giver;
              receiver = party-back r w.receiver;
              differ = w.differ;
              accepted = high q w.there_is;
              mine = told.responsibles q w.there_is ∙ w.mine;
            };
        no_ring = λ y. w.no_ring ((ring-given tables well es t r q (going-low tables well es r w.receiver.going)).0 y.1);
      })

  single : (t q : ℕ) → MayEndOne tables s t q → DropsOneWhen tables h t q
  single t q x =
      let i = low q x.accepted in
      record { plain = x.plain; going = going t x.active; there_is = i; mine = sym (told.responsibles q i) ∙ x.mine; running = ap is_active_op (sym (told.fates q i)) ∙ x.running }

  single-back : (t q : ℕ) → DropsOneWhen tables h t q → MayEndOne tables s t q
  single-back t q w =
      let i = w.there_is in
      record { plain = w.plain; active = active t w.going; accepted = high q i; mine = told.responsibles q i ∙ w.mine; running = ap is_active_op (told.fates q i) ∙ w.running }

  keep_one : (t q : ℕ) → Takes tables h (CommitOne t q) ↔ KeepsOneWhen tables h t q
  keep_one t q =
      through (CommitOne t q) (ended_alone tables s t q).commit_accepted
      (λ x.
      let ends = single t q x.may_end in
      record {
        may_end = ends;
        no_child = sym (told.parents t) ∙ sym clerk ∙ nobodys (clerk_of tables ts t) x.no_child;
        reads = reads t q ends.there_is x.clean;
        off_rings = none t x.off_rings;
      })
      (λ w. record {
        may_end = single-back t q w.may_end;
        no_child = ap is_child (clerk ∙ told.parents t ∙ w.no_child);
        clean = clean t q w.may_end.there_is w.reads;
        off_rings = off t w.off_rings;
      })
    where
      clerk : clerk_of tables ts t ≡ parent_of ts t
      clerk = clerk-is tables s (kin tables es) t

      nobodys : (p : Parent) → is_child p ≡ false → p ≡ None
      nobodys None i = refl
      nobodys (Some m) i = clash refl i

  pub accepting : Accepting tables h
  accepting =
      record {
        begin = begin;
        spawn = spawn;
        commit = commit;
        hand = hand;
        abort = abort;
        invoke = invoke;
        delegate = delegate;
        keep_one = keep_one;
        drop_one = λ t q. through (AbortOne t q) (ended_alone tables s t q).abort_accepted (single t q) (single-back t q);
      }
