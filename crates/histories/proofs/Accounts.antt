-- What the history tells of every transaction and operation.
use Prim.Native.Nat.{ℕ, suc, ◌+◌, ◌<◌}
use native.Mathlib.Omega.{arith}
use mathlib.Core.Path.{◌≡◌, refl, sym, ap, subst, ◌∙◌}
use mathlib.Core.List.{List, [], ◌∷◌}
use mathlib.Core.Bool.{Bool, true, false, cond, ◌&&◌}
use lib.Dec.{eqb}
use lib.ListN.{get_or}
use borrow.Author.Tests.{eq-eqb, lt-ltb, ne_eqb}
use Rattle.laws.proofs.Decisions.{same_or}
use Rattle.terms.specs.Limits.{most_transactions}
use Rattle.terms.specs.declared.Verdict.TheVariants.{Accepted}
use Rattle.terms.specs.declared.Mark.{Mark}
use Rattle.terms.specs.declared.Event.{Event}
use Rattle.terms.specs.declared.Event.TheVariants.{Abort, AbortOne, Begin, Commit, CommitOne, Delegate, Operation as Invoke, Spawn}
use Rattle.ties.specs.Operations.{all_held_by, ended_as, ended_one, ended_ops, given, handed, is_active as is_active_op, made, new_op, only_active, op_at, passed_to, rewritten, size}
use Rattle.ties.specs.declared.Fate.{Fate}
use Rattle.ties.specs.declared.Operation.{Operation}
use Rattle.ties.specs.declared.Ops.{Ops}
use Rattle.ties.proofs.OpsLaws.{made_at, made-room, rewritten-at}
use Rattle.tables.specs.declared.Tables.{Tables}
use Rattle.rules.specs.States.{empty_state, entered, idle, parent_of, phase_of, spawned}
use Rattle.rules.specs.States.{Parent}
use Rattle.std.specs.Prelude.{None, Some}
use Rattle.rules.specs.declared.Transaction.{Transaction}
use Rattle.rules.specs.declared.Phase.{Phase}
use Rattle.rules.specs.declared.Phase.TheVariants.{Active, Committed}
use Rattle.rules.specs.declared.State.{State}
use Rattle.rules.proofs.StateLaws.{active-small, all-free, all-idle, entered-other, entered-parent, entered-same, spawned-other, spawned-same}
use Rattle.judge.specs.Judge.{change_of, commit_under, judged, state_after}
use Rattle.judge.specs.declared.Change.{Change}
use Rattle.judge.specs.declared.Change.TheVariants.{Ends, EndsOne, Enters, Gives, Hands, Makes, Nothing, Spawns}
use Rattle.histories.specs.Histories.{Account, Deed, account_of, adopted, history, invoked, kept, moved, no_account, of_the, only, reached, recounted, responsible_in, retell, run, taken, to_fate, to_receiver, told}
use Rattle.histories.specs.Promises.{AsTold}
use Rattle.histories.proofs.Invariants.{lasting-kept, lasting-start}
use Rattle.histories.proofs.Kin.{Kin, clerk-is, kin-kept, kin-start}
use Rattle.histories.proofs.Lasts.{Lasting, size-count}
use Rattle.judge.proofs.EventLaws.{by-verdict}
use Rattle.histories.proofs.RunLaws.{run-no, run_ok, taken-no, taken-ok}
use Rattle.histories.proofs.Steps.{Making, Spawning, Step, ends, ends-one, enters, gives, commit-passed, hands, makes, spawns, step}

-- the account after a change
abbrev retold : Change → Account → Account
retold Nothing a = a
retold (Enters t p) a = moved p t a
retold (Ends t p fate) a = retell (of_the t) (to_fate fate) (moved p t a)
retold (EndsOne q fate) a = retell (only q) (to_fate fate) a
retold (Makes op) a = invoked op.responsible op.object op.mark a
retold (Gives q r) a = retell (only q) (to_receiver r) a
retold (Hands t m) a = retell (of_the t) (to_receiver m) (moved Committed t a)
retold (Spawns m c) a = adopted m c (moved Active c a)

-- an account tells of a state
record Tells (tables : Tables) (a : Account) (s : State) : Type 0 where
  lasts : Lasting s
  kin : Kin tables s
  parents : (t : ℕ) → t < most_transactions → parent_of s.transactions t ≡ a.parent t
  phases : (t : ℕ) → t < most_transactions → phase_of s.transactions t ≡ a.phase t
  counted : a.made ≡ s.ops.count
  each : (q : ℕ) → q < s.ops.count → AsTold (op_at s.ops q) (a.deed q)

-- an accepted commit is of one of the 64
pub commit-low : (tables : Tables) (s : State) → Lasting s → (t : ℕ) → (judged tables s (Commit t)).verdict ≡ Accepted → t < most_transactions
commit-low tables s h t v = active-small s.transactions t h.full (commit-passed tables s t v).1

retold-is : (tables : Tables) (s : State) (e : Event) (a : Account) → Tells tables a s → (judged tables s e).verdict ≡ Accepted
    → retold (change_of tables s.transactions e) a ≡ recounted e a
retold-is tables s (Begin t) a h v = refl
retold-is tables s (Commit t) a h v =
    ap (λ (p : Parent). retold (commit_under t p) a) (clerk-is tables s h.kin t ∙ h.parents t (commit-low tables s h.lasts t v)) ∙ as-kept (a.parent t)
  where
    as-kept : (p : Parent) → retold (commit_under t p) a ≡ kept t p (moved Committed t a)
    as-kept None = refl
    as-kept (Some m) = refl
retold-is tables s (Abort t) a h v = refl
retold-is tables s (Invoke t o m) a h v = refl
retold-is tables s (Delegate t r q) a h v = refl
retold-is tables s (CommitOne t q) a h v = refl
retold-is tables s (AbortOne t q) a h v = refl
retold-is tables s (Spawn m c) a h v = refl

-- what changes only while it is active
gated : (x y : Operation) (d e : Deed) (active meant : Bool) → AsTold x d → AsTold y e → AsTold (cond (active && meant) y x) (cond meant (cond active e d) d)
gated x y d e true true h k = k
gated x y d e true false h k = h
gated x y d e false true h k = h
gated x y d e false false h k = h

rewritten-told : (x y : Operation) (d e : Deed) (meant : Bool) → AsTold x d → AsTold y e
    → AsTold (cond (is_active_op x.fate && meant) y x) (cond meant (cond (is_active_op d.fate) e d) d)
rewritten-told x y d e meant h k =
    subst (λ (f : Fate). AsTold (cond (is_active_op f && meant) y x) (cond meant (cond (is_active_op d.fate) e d) d)) (sym h.fate)
    (gated x y d e (is_active_op d.fate) meant h k)

ended-told : (x : Operation) (d : Deed) (fate : Fate) (n : ℕ) → AsTold x d → AsTold (ended_as fate n x) (to_fate fate d)
ended-told x d fate n h = record { object = h.object; mark = h.mark; responsible = h.responsible; fate = refl }

given-told : (x : Operation) (d : Deed) (r : ℕ) → AsTold x d → AsTold (passed_to r x) (to_receiver r d)
given-told x d r h = record { object = h.object; mark = h.mark; responsible = refl; fate = h.fate }

module _ (tables : Tables) (s : State) (a : Account) (h : Tells tables a s) where
  inside : (q : ℕ) → q < s.ops.count → q < size s.ops
  inside q l = omega (arith, size-count s h.lasts)

  told-phase : (p : Phase) (u t : ℕ) → t < most_transactions → phase_of (entered p u s.transactions) t ≡ (moved p u a).phase t
  told-phase p u t l =
      same_or t u
      (λ e. rw (eq-eqb t u e, e) (entered-same s.transactions u p (omega (arith, h.lasts.full))))
      (λ e. rw (ne_eqb t u e) (entered-other s.transactions u t p e ∙ h.phases t l))

  told-ended : (t : ℕ) (p : Phase) (fate : Fate) (q : ℕ) → q < s.ops.count
      → AsTold (op_at (ended_ops t fate s.ops) q) ((retell (of_the t) (to_fate fate) (moved p t a)).deed q)
  told-ended t p fate q l =
      let x = op_at s.ops q in
      let d = a.deed q in
      let now = h.each q l in
      rw (rewritten-at (all_held_by t) (ended_as fate (size s.ops)) (λ k. refl) s.ops q, lt-ltb q (size s.ops) (inside q l))
      (subst (λ (w : ℕ). AsTold (cond (is_active_op x.fate && eqb x.responsible t) (ended_as fate (size s.ops) x) x)
      (cond (eqb w t) (cond (is_active_op d.fate) (to_fate fate d) d) d)) now.responsible
      (rewritten-told x (ended_as fate (size s.ops) x) d (to_fate fate d) (eqb x.responsible t) now (ended-told x d fate (size s.ops) now)))

  told-handed : (t m q : ℕ) → q < s.ops.count → AsTold (op_at (handed t m s.ops) q) ((retell (of_the t) (to_receiver m) (moved Committed t a)).deed q)
  told-handed t m q l =
      let x = op_at s.ops q in
      let d = a.deed q in
      let now = h.each q l in
      rw (rewritten-at (all_held_by t) (passed_to m) (λ k. refl) s.ops q, lt-ltb q (size s.ops) (inside q l))
      (subst (λ (w : ℕ). AsTold (cond (is_active_op x.fate && eqb x.responsible t) (passed_to m x) x) (cond (eqb w t) (cond (is_active_op d.fate) (to_receiver m d) d) d))
      now.responsible
      (rewritten-told x (passed_to m x) d (to_receiver m d) (eqb x.responsible t) now (given-told x d m now)))

  -- whose child each is
  told_parent : (p : Phase) (u t : ℕ) → t < most_transactions → parent_of (entered p u s.transactions) t ≡ a.parent t
  told_parent p u t l = entered-parent s.transactions u t p ∙ h.parents t l

  told-spawned : (m c : ℕ) → Spawning tables s m c → Tells tables (adopted m c (moved Active c a)) (state_after (Spawns m c) s)
  unfolding state_after
  told-spawned m c f =
      record {
        lasts = lasting-kept tables s (Spawns m c) h.lasts (spawns m c f);
        kin = kin-kept tables s (Spawns m c) h.kin (spawns m c f);
        parents = λ t l. at_one (λ (x : Transaction). x.parent) (Some m) (a.parent t) t l refl (h.parents t l);
        phases = λ t l. at_one (λ (x : Transaction). x.phase) Active (a.phase t) t l refl (h.phases t l);
        counted = h.counted;
        each = h.each;
      }
    where
      at_one : {A : Type 0} (of : Transaction → A) (new old : A) (t : ℕ) → t < most_transactions → of (record { phase = Active; parent = Some m }) ≡ new
          → of (get_or s.transactions t idle) ≡ old → of (get_or (spawned m c s.transactions) t idle) ≡ cond (eqb t c) new old
      at_one of new old t l fresh before =
          same_or t c
          (λ e. rw (eq-eqb t c e, e) (ap of (spawned-same s.transactions m c (omega (arith, h.lasts.full))) ∙ fresh))
          (λ e. rw (ne_eqb t c e) (ap of (spawned-other s.transactions m c t e) ∙ before))

  told-one : (p : ℕ) (fate : Fate) (q : ℕ) → q < s.ops.count → AsTold (op_at (ended_one p fate s.ops) q) ((retell (only p) (to_fate fate) a).deed q)
  told-one p fate q l =
      let x = op_at s.ops q in
      let now = h.each q l in
      rw (rewritten-at (only_active p) (ended_as fate (size s.ops)) (λ k. refl) s.ops q, lt-ltb q (size s.ops) (inside q l))
      (rewritten-told x (ended_as fate (size s.ops) x) (a.deed q) (to_fate fate (a.deed q)) (eqb q p) now (ended-told x (a.deed q) fate (size s.ops) now))

  told-given : (p r q : ℕ) → q < s.ops.count → AsTold (op_at (given p r s.ops) q) ((retell (only p) (to_receiver r) a).deed q)
  told-given p r q l =
      let x = op_at s.ops q in
      let now = h.each q l in
      rw (rewritten-at (only_active p) (passed_to r) (λ k. refl) s.ops q, lt-ltb q (size s.ops) (inside q l))
      (rewritten-told x (passed_to r x) (a.deed q) (to_receiver r (a.deed q)) (eqb q p) now (given-told x (a.deed q) r now))

  told-made : (t o : ℕ) (m : Mark) → Making tables s t o m → Tells tables (invoked t o m a) (state_after (Makes (new_op t o m)) s)
  unfolding state_after
  told-made t o m f =
      record {
        lasts = lasting-kept tables s (Makes (new_op t o m)) h.lasts (makes t o m f);
        kin = kin-kept tables s (Makes (new_op t o m)) h.kin (makes t o m f);
        parents = h.parents;
        phases = h.phases;
        counted = ap suc h.counted ∙ omega (arith, more);
        each = λ q l. rw (here q, h.counted)
            (same_or q n (λ e. rw (eq-eqb q n e) (record { object = refl; mark = refl; responsible = refl; fate = refl }))
            (λ e. rw (ne_eqb q n e) (h.each q (omega (arith, more)))));
      }
    where
      n : ℕ
      n = s.ops.count

      more : (made (new_op t o m) s.ops).count ≡ s.ops.count + 1
      more = ap (λ (x : Ops). x.count) (made-room (new_op t o m) s.ops f.room)

      here : (q : ℕ) → op_at (made (new_op t o m) s.ops) q ≡ cond (eqb q s.ops.count) (new_op t o m) (op_at s.ops q)
      here q = made_at (new_op t o m) s.ops h.lasts.room f.room q

told_more : (tables : Tables) (s : State) (a : Account) (c : Change) → Tells tables a s → Step tables s c → Tells tables (retold c a) (state_after c s)
unfolding state_after rewritten
told_more tables s a c h (enters t f) =
    record {
      lasts = lasting-kept tables s c h.lasts (enters t f);
      kin = kin-kept tables s c h.kin (enters t f);
      parents = told_parent tables s a h Active t;
      phases = told-phase tables s a h Active t;
      counted = h.counted;
      each = h.each;
    }
told_more tables s a c h (ends t p fate f) =
    record {
      lasts = lasting-kept tables s c h.lasts (ends t p fate f);
      kin = kin-kept tables s c h.kin (ends t p fate f);
      parents = told_parent tables s a h p t;
      phases = told-phase tables s a h p t;
      counted = h.counted;
      each = told-ended tables s a h t p fate;
    }
told_more tables s a c h (ends-one t p fate f) =
    record {
      lasts = lasting-kept tables s c h.lasts (ends-one t p fate f);
      kin = kin-kept tables s c h.kin (ends-one t p fate f);
      parents = h.parents;
      phases = h.phases;
      counted = h.counted;
      each = told-one tables s a h p fate;
    }
told_more tables s a c h (makes t o m f) = told-made tables s a h t o m f
told_more tables s a c h (gives t r p f) =
    record {
      lasts = lasting-kept tables s c h.lasts (gives t r p f);
      kin = kin-kept tables s c h.kin (gives t r p f);
      parents = h.parents;
      phases = h.phases;
      counted = h.counted;
      each = told-given tables s a h p r;
    }
told_more tables s a c h (hands t m f) =
    record {
      lasts = lasting-kept tables s c h.lasts (hands t m f);
      kin = kin-kept tables s c h.kin (hands t m f);
      parents = told_parent tables s a h Committed t;
      phases = told-phase tables s a h Committed t;
      counted = h.counted;
      each = told-handed tables s a h t m;
    }
told_more tables s a c h (spawns m t f) = told-spawned tables s a h m t f

told-run : (tables : Tables) (es : List Event) (s : State) (a : Account) → Tells tables a s → Tells tables (account_of (taken tables s es) a) (run tables s es)
unfolding run taken account_of
told-run tables [] s a h = h
told-run tables (e ∷ es) s a h =
    by-verdict tables s e
    (λ v.
    rw (run_ok tables s e v es, taken-ok tables s e v es)
    (told-run tables es (state_after (change_of tables s.transactions e) s) (recounted e a)
    (subst (λ (b : Account). Tells tables b (state_after (change_of tables s.transactions e) s)) (retold-is tables s e a h v)
    (told_more tables s a (change_of tables s.transactions e) h (step tables s e v)))))
    (λ r v. rw (run-no tables s e r v es, taken-no tables s e r v es) (told-run tables es s a h))

module _ (tables : Tables) (es : List Event) where
  all_told : Tells tables (told (history tables es)) (reached tables es)
  all_told =
      told-run tables es empty_state no_account
      (record {
        lasts = lasting-start;
        kin = kin-start tables;
        parents = λ t l. all-free t;
        phases = λ t l. all-idle t;
        counted = refl;
        each = λ p u. absurd (omega arith);
      })

  pub operations-told : (q : ℕ) → q < size (reached tables es).ops → AsTold (op_at (reached tables es).ops q) ((told (history tables es)).deed q)
  operations-told q l = all_told.each q (omega (arith, size-count (reached tables es) all_told.lasts))

  pub responsible-told : (q : ℕ) → q < size (reached tables es).ops → (op_at (reached tables es).ops q).responsible ≡ responsible_in (history tables es) q
  responsible-told q l = (operations-told q l).responsible

  pub count-told : size (reached tables es).ops ≡ (told (history tables es)).made
  count-told = size-count (reached tables es) all_told.lasts ∙ sym all_told.counted

  pub phases-told : (t : ℕ) → t < most_transactions → phase_of (reached tables es).transactions t ≡ (told (history tables es)).phase t
  phases-told = all_told.phases

  pub parents-told : (t : ℕ) → t < most_transactions → parent_of (reached tables es).transactions t ≡ (told (history tables es)).parent t
  parents-told = all_told.parents
