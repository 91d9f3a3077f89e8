-- When a begin, an operation, a delegation, a commit and an abort are accepted, when 15, 16, 17 and 22 refuse, and which pairs a new operation adds.
use Prim.Native.Nat.{ℕ, ◌+◌, ◌<◌}
use native.Mathlib.Omega.{arith}
use mathlib.Core.Path.{◌≡◌, refl, sym, ap, ◌∙◌, subst}
use mathlib.Core.Bool.{Bool, true, false, not, ◌&&◌, ◌||◌}
use mathlib.Core.Logic.{◌↔◌, ◌⊎◌, inl, inr, ⊎_elim}
use mathlib.Core.List.{List, []}
use lib.Dec.{eqb, leb, ltb}
use lib.ListN.{drop, take}
use borrow.Author.Tests.{eq-eqb, eqb-false, eqb-true, leb-false, lt-leb, lt-ltb, ltb-true, ne_eqb}
use Rattle.laws.proofs.Bools.{and-off, and_on, and-rest, bool_cases, clash, is-not, not-off, off-not, off-or, on_and, on-not}
use Rattle.laws.proofs.Decisions.{lt-or}
use Rattle.laws.proofs.IndexLaws.{any-elim, any-off, off-any}
use Rattle.terms.specs.Limits.{most_objects, most_transactions}
use Rattle.terms.specs.declared.Event.{Event}
use Rattle.terms.specs.declared.Event.TheVariants.{Abort, Begin, Delegate, Operation as Invoke}
use Rattle.terms.specs.declared.Mark.{Mark}
use Rattle.terms.specs.declared.Refusal.TheVariants.{MustWait, UndoOnRing}
use Rattle.terms.specs.declared.Verdict.TheVariants.{Accepted, Refused}
use Rattle.ties.specs.Operations.{is_aborted, is_active as is_active_operation, most_operations, new_op, op_at, size}
use Rattle.ties.specs.Ties.{before, before_given, before_made, conflict, is_gone, must_wait, op_with, ring_with, waits_for}
use Rattle.ties.specs.declared.Operation.{Operation}
use Rattle.ties.proofs.TieLaws.{Between, Counted, between, ties-on}
use Rattle.tables.specs.Counts.{object_count}
use Rattle.tables.specs.Sorts.{is_known, is_saga, is_undo, sort_of}
use Rattle.tables.specs.declared.Tables.{Tables}
use Rattle.rules.specs.Rules.{active_undo, inactive}
use Rattle.rules.specs.States.{is_active, is_idle, phase_of}
use Rattle.rules.specs.declared.State.{State}
use Rattle.judge.specs.Judge.{judged, lines, no_party, unknown, unknown_object}
use Rattle.judge.proofs.RuleLaws.{operation-known}
use Rattle.histories.specs.Histories.{reached}
use Rattle.histories.specs.May.{AcceptedWhen, CouldDelegate, CouldInvoke, Invoker, MayAbort, MayBegin, MayDelegate, MayInvoke, Meets, NewPair, Party, RingsGiven, Waited}
use Rattle.histories.specs.Promises.{UndoRinged}
use Rattle.judge.proofs.EventLaws.{lines-off, off-lines, only-line}
use Rattle.histories.proofs.CommitsWhen.{commit_dirty, commit_rings, commit-when, hand_clean, hand_rings, hand-when, may-spawn, spawn-may}
use Rattle.histories.proofs.Orders.{bounded, stays-in}
use Rattle.histories.proofs.UndoRings.{rings_given, rings_made}

module _ (tables : Tables) (s : State) where
  -- ---- an operation: the tests of its lines, and the words

  module _ (t o : ℕ) (m : Mark) where
    abbrev missing : Bool
    missing = unknown tables t || unknown_object tables o

    abbrev waits : Bool
    waits = is_undo (sort_of tables t) && must_wait s.ops t o m

    waits-not : waits ≡ false → Waited tables s t o m
    unfolding must_wait
    waits-not off undo p l running other =
        let none = and-rest (is_undo (sort_of tables t)) (must_wait s.ops t o m) off undo in
        let at_p = off-any (size s.ops) (λ i. waits_for t o m (op_at s.ops i)) none p l in
        let rest = and-rest (is_active_operation (op_at s.ops p).fate) (not (eqb (op_at s.ops p).responsible t) && conflict (op_at s.ops p) o m) at_p running in
        and-rest (not (eqb (op_at s.ops p).responsible t)) (conflict (op_at s.ops p) o m) rest (ap not (ne_eqb (op_at s.ops p).responsible t other))

    not-waits : Waited tables s t o m → waits ≡ false
    unfolding must_wait
    not-waits waited =
        and-off (is_undo (sort_of tables t)) (must_wait s.ops t o m)
        (λ undo.
        any-off (size s.ops) (λ i. waits_for t o m (op_at s.ops i))
        (λ p l.
        and-off (is_active_operation (op_at s.ops p).fate) (not (eqb (op_at s.ops p).responsible t) && conflict (op_at s.ops p) o m)
        (λ running.
        and-off (not (eqb (op_at s.ops p).responsible t)) (conflict (op_at s.ops p) o m)
        (λ other. waited undo p l running (λ e. clash (eq-eqb (op_at s.ops p).responsible t e) (on-not (eqb (op_at s.ops p).responsible t) other))))))

    -- 17
    waits-on : waits ≡ true → (is_undo (sort_of tables t) ≡ true) × Meets s.ops t o m
    unfolding must_wait
    waits-on on =
        let both = on_and (is_undo (sort_of tables t)) (must_wait s.ops t o m) on in
        let w = any-elim (size s.ops) (λ i. waits_for t o m (op_at s.ops i)) both.1 in
        let p = op_at s.ops w.0 in
        let x = on_and (is_active_operation p.fate) (not (eqb p.responsible t) && conflict p o m) w.2 in
        let y = on_and (not (eqb p.responsible t)) (conflict p o m) x.1 in (
          both.0,
          record { p = w.0; below = w.1; running = x.0; other = eqb-false p.responsible t (on-not (eqb p.responsible t) y.0); conflicts = y.1 },
        )

    on-waits : (is_undo (sort_of tables t) ≡ true) × Meets s.ops t o m → waits ≡ true
    on-waits w =
        bool_cases waits (λ on. on) (λ off. clash w.1.conflicts (waits-not off w.0 w.1.p w.1.below w.1.running w.1.other))

    invoker : missing ≡ false → is_saga (sort_of tables t) ≡ false → inactive s.transactions t ≡ false → Invoker tables s t o
    invoker known no_saga active =
        let both = off-or (unknown tables t) (unknown_object tables o) known in
        record {
          known = off-not (is_known (sort_of tables t)) both.0;
          object = ltb-true o (object_count tables) (off-not (ltb o (object_count tables)) both.1);
          no_saga = no_saga;
          active = off-not (is_active (phase_of s.transactions t)) active;
        }

    could : missing ≡ false → is_saga (sort_of tables t) ≡ false → inactive s.transactions t ≡ false → waits ≡ false → CouldInvoke tables s t o m
    could known no_saga active waited =
        let c = invoker known no_saga active in
        record { known = c.known; object = c.object; no_saga = c.no_saga; active = c.active; waited = waits-not waited }

    can : CouldInvoke tables s t o m → Invoker tables s t o
    can c = record { known = c.known; object = c.object; no_saga = c.no_saga; active = c.active }

    module _ (c : Invoker tables s t o) where
      not-missing : missing ≡ false
      not-missing = rw (c.known, lt-ltb o (object_count tables) c.object)

      not-inactive : inactive s.transactions t ≡ false
      not-inactive = not-off (is_active (phase_of s.transactions t)) c.active

  -- ---- a delegation

  party : (t : ℕ) → unknown tables t ≡ false → no_party (sort_of tables t) ≡ false → inactive s.transactions t ≡ false → Party tables s t
  party t known parties active =
      let both = off-or (is_saga (sort_of tables t)) (is_undo (sort_of tables t)) parties in
      record {
        known = off-not (is_known (sort_of tables t)) known;
        no_saga = both.0;
        no_undo = both.1;
        active = off-not (is_active (phase_of s.transactions t)) active;
      }

  module _ (t r q : ℕ) where
    abbrev away : Bool
    away = unknown tables t || (unknown tables r || not (ltb q (size s.ops)))

    abbrev barred : Bool
    barred = no_party (sort_of tables t) || (no_party (sort_of tables r) || eqb t r)

    abbrev idle : Bool
    idle = inactive s.transactions t || inactive s.transactions r

    abbrev foreign : Bool
    foreign = not (eqb (op_at s.ops q).responsible t)

    could-give : away ≡ false → barred ≡ false → idle ≡ false → foreign ≡ false → CouldDelegate tables s t r q
    could-give known parties active own =
        let k = off-or (unknown tables t) (unknown tables r || not (ltb q (size s.ops))) known in
        let kr = off-or (unknown tables r) (not (ltb q (size s.ops))) k.1 in
        let p = off-or (no_party (sort_of tables t)) (no_party (sort_of tables r) || eqb t r) parties in
        let pr = off-or (no_party (sort_of tables r)) (eqb t r) p.1 in
        let a = off-or (inactive s.transactions t) (inactive s.transactions r) active in
        record {
          giver = party t k.0 p.0 a.0;
          receiver = party r kr.0 pr.0 a.1;
          differ = λ e. clash (eq-eqb t r e) pr.1;
          accepted = operation-known tables s.ops t r q known;
          mine = eqb-true (op_at s.ops q).responsible t (off-not (eqb (op_at s.ops q).responsible t) own);
        }

    module _ (c : CouldDelegate tables s t r q) where
      not-away : away ≡ false
      not-away = rw (c.giver.known, c.receiver.known, lt-ltb q (size s.ops) c.accepted)

      not-barred : barred ≡ false
      not-barred = rw (c.giver.no_saga, c.giver.no_undo, c.receiver.no_saga, c.receiver.no_undo, ne_eqb t r c.differ)

      not-idle : idle ≡ false
      not-idle = rw (c.giver.active, c.receiver.active)

      not-foreign : foreign ≡ false
      not-foreign = rw (eq-eqb (op_at s.ops q).responsible t c.mine)

  module _ (t : ℕ) where
    -- ---- a begin

    begin-may : (judged tables s (Begin t)).verdict ≡ Accepted → MayBegin tables s t
    begin-may v =
        let off = lines-off tables s (Begin t) v in
        record {
          known = off-not (is_known (sort_of tables t)) off.0;
          idle = off-not (is_idle (phase_of s.transactions t)) off.1.0;
          saga = off.1.1.0;
          declared = off.1.1.1.0;
        }

    may-begin : MayBegin tables s t → (judged tables s (Begin t)).verdict ≡ Accepted
    may-begin may =
        off-lines tables s (Begin t)
        (not-off (is_known (sort_of tables t)) may.known, (not-off (is_idle (phase_of s.transactions t)) may.idle, (may.saga, (may.declared, tt))))

    -- ---- an abort

    abort-may : (judged tables s (Abort t)).verdict ≡ Accepted → MayAbort tables s t
    abort-may v =
        let off = lines-off tables s (Abort t) v in
        record {
          known = off-not (is_known (sort_of tables t)) off.0;
          no_undo = off.1.0;
          active = off-not (is_active (phase_of s.transactions t)) off.1.1.0;
          saga = off.1.1.1.0;
        }

    may-abort : MayAbort tables s t → (judged tables s (Abort t)).verdict ≡ Accepted
    may-abort may =
        off-lines tables s (Abort t)
        (not-off (is_known (sort_of tables t)) may.known, (may.no_undo, (not-off (is_active (phase_of s.transactions t)) may.active, (may.saga, tt))))

-- ---- in a state that events lead to

module _ (tables : Tables) (es : List Event) where
  abbrev now : State
  now = reached tables es

  module _ (t o : ℕ) (m : Mark) where
    abbrev ring : Bool
    ring = ring_with (before_made now.ops (new_op t o m)) (active_undo tables now.transactions) t

    invoke-may : (judged tables now (Invoke t o m)).verdict ≡ Accepted → MayInvoke tables now t o m
    invoke-may v =
        let off = lines-off tables now (Invoke t o m) v in
        record {
          could = could tables now t o m off.0 off.1.0 off.1.1.0 off.1.1.1.0;
          no_ring = λ u. clash ((rings_made tables es t o m).1 u) off.1.1.1.1.0;
          room = leb-false most_operations now.ops.count off.1.1.1.1.1.0;
        }

    may-invoke : MayInvoke tables now t o m → (judged tables now (Invoke t o m)).verdict ≡ Accepted
    may-invoke may =
        off-lines tables now (Invoke t o m) (
          not-missing tables now t o m (can tables now t o m may.could),
          (
            may.could.no_saga,
            (
              not-inactive tables now t o m (can tables now t o m may.could),
              (
                not-waits tables now t o m may.could.waited,
                (
                  is-not ring (λ r. may.no_ring ((rings_made tables es t o m).0 r)),
                  (lt-leb most_operations now.ops.count may.room, tt),
                ),
              ),
            ),
          ),
        )

    invoke_waits : ((judged tables now (Invoke t o m)).verdict ≡ Refused MustWait) ↔ (Invoker tables now t o × (is_undo (sort_of tables t) ≡ true) × Meets now.ops t o m)
    invoke_waits =
        let ls = lines tables now (Invoke t o m) in
        let given = only-line tables now (Invoke t o m) MustWait (take 3 ls) (drop 4 ls) (waits tables now t o m) refl refl refl in (
          λ v. let w = given.0 v in let on = waits-on tables now t o m w.1 in (invoker tables now t o m w.0.0 w.0.1.0 w.0.1.1.0, on.0, on.1),
          λ w.
              given.1 (
                (not-missing tables now t o m w.0, (w.0.no_saga, (not-inactive tables now t o m w.0, tt))),
                on-waits tables now t o m (w.1, w.2),
              ),
        )

    invoke_rings : ((judged tables now (Invoke t o m)).verdict ≡ Refused UndoOnRing)
        ↔ (CouldInvoke tables now t o m × UndoRinged tables now (before_made now.ops (new_op t o m)))
    invoke_rings =
        let ls = lines tables now (Invoke t o m) in
        let given = only-line tables now (Invoke t o m) UndoOnRing (take 4 ls) (drop 5 ls) ring refl refl refl in (
          λ v. let w = given.0 v in (could tables now t o m w.0.0 w.0.1.0 w.0.1.1.0 w.0.1.1.1.0, (rings_made tables es t o m).0 w.1),
          λ w.
              let c = can tables now t o m w.0 in
              given.1 (
                (not-missing tables now t o m c, (c.no_saga, (not-inactive tables now t o m c, (not-waits tables now t o m w.0.waited, tt)))),
                (rings_made tables es t o m).1 w.1,
              ),
        )

    -- the pairs that it adds
    module _ (low : t < most_transactions) (within : o < most_objects) (a b : ℕ) where
      abbrev x : Operation
      x = new_op t o m

      old-at : (i : ℕ) → i < size now.ops → op_with now.ops (size now.ops) x i ≡ op_at now.ops i
      old-at i l = rw (ne_eqb i (size now.ops) (λ e. absurd (omega arith)))

      new-at : (i : ℕ) → i ≡ size now.ops → op_with now.ops (size now.ops) x i ≡ x
      new-at i e = rw (eq-eqb i (size now.ops) e)

      pairs-to : before_made now.ops x a b ≡ true → (before now.ops a b ≡ true) ⊎ NewPair now.ops t o m a b
      pairs-to h =
          let w = between (size now.ops + 1) (op_with now.ops (size now.ops) x) a b h in
          lt-or w.q (size now.ops)
          (λ l.
          let fp = old-at w.p (omega (arith, w.earlier)) in
          let fq = old-at w.q l in
          inl
          (ties-on (size now.ops) (op_at now.ops) a b
          (record {
            p = w.p;
            q = w.q;
            earlier = w.earlier;
            below = l;
            tie = rw (← fp, ← fq) w.tie;
            first = rw (← fp) w.first;
            second = rw (← fq) w.second;
          })))
          (λ l.
          let last : w.q ≡ size now.ops = omega (arith, w.below) in
          let fp = old-at w.p (omega (arith, w.earlier)) in
          let fq = new-at w.q last in
          let tie = subst (λ (y : Operation). Counted (op_at now.ops w.p) y) fq (subst (λ (y : Operation). Counted y (op_with now.ops (size now.ops) x w.q)) fp w.tie) in
          let first : (op_at now.ops w.p).responsible ≡ a = sym (ap (λ (y : Operation). y.responsible) fp) ∙ w.first in
          let second : t ≡ b = sym (ap (λ (y : Operation). y.responsible) fq) ∙ w.second in
          inr
          (record {
            p = w.p;
            below = omega (arith, w.earlier);
            conflicts = tie.conflicts;
            there = (off-or (is_aborted (op_at now.ops w.p).fate) (leb most_transactions (op_at now.ops w.p).responsible || leb most_objects (op_at now.ops w.p).object) tie.here).0;
            first = first;
            second = sym second;
            differ = λ e. tie.other (first ∙ e ∙ sym second);
          }))

      pairs-from : (before now.ops a b ≡ true) ⊎ NewPair now.ops t o m a b → before_made now.ops x a b ≡ true
      pairs-from w = ties-on (size now.ops + 1) (op_with now.ops (size now.ops) x) a b (⊎_elim kept added w)
        where
          kept : before now.ops a b ≡ true → Between (size now.ops + 1) (op_with now.ops (size now.ops) x) a b
          kept h =
              let w = between (size now.ops) (op_at now.ops) a b h in
              let fp = old-at w.p (omega (arith, w.earlier, w.below)) in
              let fq = old-at w.q w.below in
              record {
                p = w.p;
                q = w.q;
                earlier = w.earlier;
                below = omega (arith, w.below);
                tie = rw (fp, fq) w.tie;
                first = rw fp w.first;
                second = rw fq w.second;
              }

          added : NewPair now.ops t o m a b → Between (size now.ops + 1) (op_with now.ops (size now.ops) x) a b
          added n =
              let fp = old-at n.p n.below in
              let fq = new-at (size now.ops) refl in
              let here = stays-in now (bounded tables es) n.p (omega (arith, n.below)) n.there in
              let there : is_gone x ≡ false = rw (lt-leb most_transactions t low, lt-leb most_objects o within) in
              record {
                p = n.p;
                q = size now.ops;
                earlier = n.below;
                below = omega arith;
                tie = rw (fp, fq) (record { conflicts = n.conflicts; here = here; there = there; other = λ e. n.differ (sym n.first ∙ e ∙ sym n.second) });
                first = rw fp n.first;
                second = rw fq (sym n.second);
              }

  module _ (t r q : ℕ) where
    abbrev rings : Bool
    rings = ring_with (before_given now.ops q r) (active_undo tables now.transactions) r

    abbrev running : Bool
    running = is_active_operation (op_at now.ops q).fate

    rings-on : (running && rings) ≡ true → RingsGiven tables now r q
    rings-on h = let both = on_and running rings h in (both.0, (rings_given tables es q r).0 both.1)

    on-rings : RingsGiven tables now r q → (running && rings) ≡ true
    on-rings w = and_on running rings w.0 ((rings_given tables es q r).1 w.1)

    delegate-may : (judged tables now (Delegate t r q)).verdict ≡ Accepted → MayDelegate tables now t r q
    delegate-may v =
        let off = lines-off tables now (Delegate t r q) v in
        record {
          could = could-give tables now t r q off.0 off.1.0 off.1.1.0 off.1.1.1.0;
          no_ring = λ w. clash (on-rings w) off.1.1.1.1.0;
        }

    may-delegate : MayDelegate tables now t r q → (judged tables now (Delegate t r q)).verdict ≡ Accepted
    may-delegate may =
        off-lines tables now (Delegate t r q) (
          not-away tables now t r q may.could,
          (
            not-barred tables now t r q may.could,
            (
              not-idle tables now t r q may.could,
              (not-foreign tables now t r q may.could, (is-not (running && rings) (λ h. may.no_ring (rings-on h)), tt)),
            ),
          ),
        )

    delegate_rings : ((judged tables now (Delegate t r q)).verdict ≡ Refused UndoOnRing) ↔ (CouldDelegate tables now t r q × RingsGiven tables now r q)
    delegate_rings =
        let given = only-line tables now (Delegate t r q) UndoOnRing (take 4 (lines tables now (Delegate t r q))) [] (running && rings) refl refl refl in (
          λ v. let w = given.0 v in (could-give tables now t r q w.0.0 w.0.1.0 w.0.1.1.0 w.0.1.1.1.0, rings-on w.1),
          λ w.
              given.1 (
                (not-away tables now t r q w.0, (not-barred tables now t r q w.0, (not-idle tables now t r q w.0, (not-foreign tables now t r q w.0, tt)))),
                on-rings w.1,
              ),
        )

  pub accepted-when : AcceptedWhen tables es
  accepted-when =
      record {
        begin = λ t. (begin-may tables now t, may-begin tables now t);
        invoke = λ t o m. (invoke-may t o m, may-invoke t o m);
        invoke_waits = invoke_waits;
        invoke_rings = invoke_rings;
        delegate = λ t r q. (delegate-may t r q, may-delegate t r q);
        delegate_rings = delegate_rings;
        commit = commit-when tables es;
        commit_dirty = commit_dirty tables es;
        commit_rings = commit_rings tables es;
        hand = hand-when tables es;
        hand_rings = hand_rings tables es;
        hand_clean = hand_clean tables es;
        spawn = λ m c. (spawn-may tables now m c, may-spawn tables now m c);
        abort = λ t. (abort-may tables now t, may-abort tables now t);
        pairs_made = λ t o m low within a b. (pairs-to t o m low within a b, pairs-from t o m low within a b);
      }
