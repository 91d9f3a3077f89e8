-- What an accepted event does to one transaction, and to one operation that was accepted before it. Whatever speaks of single transactions
-- or operations goes by these two, not by the events.
use Prim.Native.Nat.{ℕ, ◌+◌, ◌<◌, ◌≤◌}
use native.Mathlib.Omega.{arith}
use mathlib.Core.Path.{◌≡◌, refl, sym, ap, subst, ◌∙◌}
use mathlib.Core.Bool.{Bool, true, false, cond, not, or-true}
use mathlib.Core.Logic.{◌≢◌, ◌⊎◌, inl, inr}
use mathlib.Core.List.{List}
use lib.Dec.{eqb}
use lib.ListN.{length}
use borrow.Author.Tests.{eqb-true, eq-eqb, le-ltb, lt-ltb, ne_eqb}
use Rattle.laws.proofs.Bools.{and_on, and-rest, bool_cases, clash, on_and}
use Rattle.laws.proofs.IndexLaws.{any-intro}
use Rattle.terms.specs.Limits.{most_transactions}
use Rattle.laws.proofs.Decisions.{lt-or, same_or}
use Rattle.ties.specs.Operations.{all_held_by, ended_as, no_operation, held_by, is_aborted as is_aborted_op, is_active as is_active_op, is_committed as is_committed_op, new_op, only_active, op_at, passed_to, rewritten, size}
use Rattle.ties.specs.Ties.{stood}
use Rattle.ties.specs.declared.Fate.{Fate}
use Rattle.terms.specs.declared.Mark.{Mark}
use Rattle.ties.specs.declared.Operation.{Operation}
use Rattle.ties.specs.declared.Ops.{Ops}
use Rattle.ties.proofs.OrderLaws.{active-stands, active-uncommitted}
use Rattle.ties.proofs.OpsLaws.{count-rewritten, made_at, made-room, rewritten-at}
use Rattle.tables.specs.Sorts.{is_plain, sort_of}
use Rattle.tables.specs.declared.Sort.{Sort}
use Rattle.tables.specs.declared.Sort.TheVariants.{Plain, Saga, Step as StepSort, Undo, Unknown}
use Rattle.tables.specs.declared.Tables.{Tables}
use Rattle.judge.specs.Judge.{clerk_of, no_party, state_after}
use Rattle.histories.specs.Promises.{MayEndOne}
use Rattle.rules.specs.Rules.{active_child, begin_barred, child_active}
use Rattle.rules.specs.States.{entered, is_child, phase_of, spawned}
use Rattle.rules.specs.declared.Transaction.{Transaction}
use Rattle.judge.specs.declared.Change.{Change}
use Rattle.judge.specs.declared.Change.TheVariants.{Ends, EndsOne, Enters, Gives, Hands, Makes, Nothing, Spawns}
use Rattle.rules.specs.declared.Phase.{Phase}
use Rattle.rules.specs.declared.Phase.TheVariants.{Active, Committed}
use Rattle.rules.specs.declared.State.{State}
use Rattle.histories.proofs.Lasts.{Lasting, size-count}
use Rattle.rules.proofs.PhaseLaws.{code, of-active}
use Rattle.rules.proofs.StateLaws.{entered-other, entered-same, length-entered, length-spawned, past-idle, spawned-other, spawned-same}
use Rattle.histories.proofs.Steps.{Ending, EndingOne, Entering, Giving, Handing, Making, Spawning, Step, ends, ends-one, enters, gives, hands, makes, spawns}

-- the change ends operation q alone
abbrev pub ends_alone : Change → ℕ → Bool
ends_alone Nothing q = false
ends_alone (Enters t p) q = false
ends_alone (Ends t p fate) q = false
ends_alone (EndsOne p fate) q = eqb p q
ends_alone (Makes op) q = false
ends_alone (Gives p r) q = false
ends_alone (Hands t m) q = false
ends_alone (Spawns m c) q = false

module _ (tables : Tables) (s : State) (c : Change) where
  abbrev after : State
  after = state_after c s

  -- ---- a transaction

  pub data Phased (u : ℕ) : Type 0 where
    as-was : phase_of after.transactions u ≡ phase_of s.transactions u → Phased u
    entered-now : Entering tables s u → phase_of after.transactions u ≡ Active → Phased u
    ended-now : (p : Phase) → code (phase_of s.transactions u) ≡ 1 → 2 ≤ code p → phase_of after.transactions u ≡ p → Phased u

  -- ---- an operation

  -- it stays as it is, and if it is active so does whoever is responsible for it
  pub record KeptNow (p : ℕ) : Type 0 where
    pub low : p < s.ops.count
    pub still : is_active_op (op_at s.ops p).fate ≡ true → code (phase_of after.transactions (op_at s.ops p).responsible) ≡ 1
    pub now : op_at after.ops p ≡ op_at s.ops p

  -- it ends with its transaction, or alone
  pub record EndedNow (p : ℕ) (fate : Fate) : Type 0 where
    pub active : is_active_op (op_at s.ops p).fate ≡ true
    pub gone : is_active_op fate ≡ false
    pub how : (2 ≤ code (phase_of after.transactions (op_at s.ops p).responsible)) ⊎ (ends_alone c p ≡ true)
    pub keeps : is_committed_op fate ≡ true → is_child (clerk_of tables s.transactions (op_at s.ops p).responsible) ≡ false
    pub now : op_at after.ops p ≡ ended_as fate (size s.ops) (op_at s.ops p)

  -- it is given to r
  pub record PassedNow (p r : ℕ) : Type 0 where
    pub active : is_active_op (op_at s.ops p).fate ≡ true
    pub gives : no_party (sort_of tables (op_at s.ops p).responsible) ≡ false
    pub receives : no_party (sort_of tables r) ≡ false
    pub runs : code (phase_of after.transactions r) ≡ 1
    pub now : op_at after.ops p ≡ passed_to r (op_at s.ops p)

  pub data Touched (p : ℕ) : Type 0 where
    kept : KeptNow p → Touched p
    ended : (fate : Fate) → EndedNow p fate → Touched p
    passed : (r : ℕ) → PassedNow p r → Touched p

  -- ---- what follows for each

  module _ {p : ℕ} where
    pub same_object : Touched p → (op_at after.ops p).object ≡ (op_at s.ops p).object
    same_object (kept f) = ap (λ (x : Operation). x.object) f.now
    same_object (ended fate f) = ap (λ (x : Operation). x.object) f.now
    same_object (passed r f) = ap (λ (x : Operation). x.object) f.now

    pub same-mark : Touched p → (op_at after.ops p).mark ≡ (op_at s.ops p).mark
    same-mark (kept f) = ap (λ (x : Operation). x.mark) f.now
    same-mark (ended fate f) = ap (λ (x : Operation). x.mark) f.now
    same-mark (passed r f) = ap (λ (x : Operation). x.mark) f.now

    -- whether it was aborted when q was accepted does not change
    pub same-stood : (q : ℕ) → q < size s.ops → Touched p → stood (op_at after.ops p) q ≡ stood (op_at s.ops p) q
    same-stood q l (kept f) = ap (λ (x : Operation). stood x q) f.now
    same-stood q l (ended fate f) =
        ap (λ (x : Operation). stood x q) f.now
        ∙ rw (lt-ltb q (size s.ops) l, active-stands (op_at s.ops p).fate f.active, or-true (not (is_aborted_op fate)))
    same-stood q l (passed r f) = ap (λ (x : Operation). stood x q) f.now

    -- what is committed stays so
    pub committed-stays : Touched p → is_committed_op (op_at s.ops p).fate ≡ true → is_committed_op (op_at after.ops p).fate ≡ true
    committed-stays (kept f) h = ap (λ (x : Operation). is_committed_op x.fate) f.now ∙ h
    committed-stays (ended fate f) h = clash h (active-uncommitted (op_at s.ops p).fate f.active)
    committed-stays (passed r f) h = clash h (active-uncommitted (op_at s.ops p).fate f.active)

    -- whose it is: as before, or it was given
    pub by-whose : {A : Type 0} → Touched p → ((op_at after.ops p).responsible ≡ (op_at s.ops p).responsible → A) → ((r : ℕ) → PassedNow p r → A) → A
    by-whose (kept f) same given = same (ap (λ (x : Operation). x.responsible) f.now)
    by-whose (ended fate f) same given = same (ap (λ (x : Operation). x.responsible) f.now)
    by-whose (passed r f) same given = given r f

  module _ {u : ℕ} where
    pub rises : Phased u → code (phase_of s.transactions u) ≤ code (phase_of after.transactions u)
    rises (as-was e) = omega (arith, ap code e)
    rises (entered-now f e) = omega (arith, f.idle)
    rises (ended-now p a d e) = omega (arith, ap code e)

    pub stays-over : 2 ≤ code (phase_of s.transactions u) → Phased u → 2 ≤ code (phase_of after.transactions u)
    stays-over h w = omega (arith, rises w)

-- ---- by the step

entered_at : (s : State) (u t : ℕ) (p : Phase) {A : Type 0}
    → (phase_of (entered p t s.transactions) u ≡ phase_of s.transactions u → A)
    → (u ≡ t → phase_of (entered p t s.transactions) u ≡ p → A) → A
entered_at s u t p same here =
    same_or u t
    (λ e.
    lt-or t (length s.transactions)
    (λ l. here e (ap (phase_of (entered p t s.transactions)) e ∙ entered-same s.transactions t p l))
    (λ l. same (out l e)))
    (λ e. same (entered-other s.transactions t u p e))
  where
    out : length s.transactions ≤ t → u ≡ t → phase_of (entered p t s.transactions) u ≡ phase_of s.transactions u
    out l e = ap (phase_of (entered p t s.transactions)) e ∙ past-idle (entered p t s.transactions) t (omega (arith, length-entered s.transactions t p)) ∙ sym (past-idle s.transactions t l) ∙ ap (phase_of s.transactions) (sym e)

-- a child is spawned
spawned-at : (s : State) (u m t : ℕ) {A : Type 0}
    → (phase_of (spawned m t s.transactions) u ≡ phase_of s.transactions u → A)
    → (u ≡ t → phase_of (spawned m t s.transactions) u ≡ Active → A) → A
spawned-at s u m t same here =
    same_or u t
    (λ e.
    lt-or t (length s.transactions)
    (λ l. here e (ap (phase_of (spawned m t s.transactions)) e ∙ ap (λ (x : Transaction). x.phase) (spawned-same s.transactions m t l)))
    (λ l. same (out l e)))
    (λ e. same (ap (λ (x : Transaction). x.phase) (spawned-other s.transactions m t u e)))
  where
    out : length s.transactions ≤ t → u ≡ t → phase_of (spawned m t s.transactions) u ≡ phase_of s.transactions u
    out l e = ap (phase_of (spawned m t s.transactions)) e ∙ past-idle (spawned m t s.transactions) t (omega (arith, length-spawned s.transactions m t)) ∙ sym (past-idle s.transactions t l) ∙ ap (phase_of s.transactions) (sym e)

-- no saga rule speaks of a plain transaction
plain_begins : (ts : List Transaction) (x : Sort) → is_plain x ≡ true → begin_barred ts x ≡ false
plain_begins ts (Saga f n) h = refl
plain_begins ts (StepSort f n i) h = clash h refl
plain_begins ts (Undo f n i) h = clash h refl
plain_begins ts Plain h = refl
plain_begins ts Unknown h = refl

-- and it takes part in delegations
plain-party : (x : Sort) → is_plain x ≡ true → no_party x ≡ false
plain-party (Saga f n) h = clash h refl
plain-party (StepSort f n i) h = refl
plain-party (Undo f n i) h = clash h refl
plain-party Plain h = refl
plain-party Unknown h = refl

-- it enters as one that begins
pub child-enters : (tables : Tables) (s : State) (m t : ℕ) → Spawning tables s m t → Entering tables s t
child-enters tables s m t f = record { idle = f.idle; rule = plain_begins s.transactions (sort_of tables t) f.child; declared = f.declared }

pub phased : (tables : Tables) (s : State) (c : Change) → Step tables s c → (u : ℕ) → Phased tables s c u
unfolding state_after
phased tables s c (enters t f) u = entered_at s u t Active as-was (λ e. entered-now (subst (Entering tables s) (sym e) f))
phased tables s c (ends t p fate f) u =
    entered_at s u t p as-was (λ e. ended-now p (ap (λ (x : ℕ). code (phase_of s.transactions x)) e ∙ f.active) f.ended)
phased tables s c (ends-one t q fate f) u = as-was refl
phased tables s c (makes t o m f) u = as-was refl
phased tables s c (gives t r q f) u = as-was refl
phased tables s c (hands t m f) u =
    entered_at s u t Committed as-was (λ e. ended-now Committed (ap (λ (x : ℕ). code (phase_of s.transactions x)) e ∙ f.active) (omega arith))
phased tables s c (spawns m t f) u = spawned-at s u m t as-was (λ e. entered-now (subst (Entering tables s) (sym e) (child-enters tables s m t f)))

-- an operation that was accepted before
module _ (tables : Tables) (s : State) (h : Lasting s) (p : ℕ) (low : p < s.ops.count) where
  -- whoever is responsible for it is not the one that enters a phase
  other : (t : ℕ) (phase : Phase) → is_active_op (op_at s.ops p).fate ≡ true → (op_at s.ops p).responsible ≢ t
      → code (phase_of (entered phase t s.transactions) (op_at s.ops p).responsible) ≡ 1
  other t phase a e = ap code (entered-other s.transactions t (op_at s.ops p).responsible phase e) ∙ h.active p a

  here : (which : ℕ → Operation → Bool) (how : Operation → Operation) → ((k : ℕ) → which k no_operation ≡ false) → {b : Bool} → which p (op_at s.ops p) ≡ b
      → op_at (rewritten which how s.ops) p ≡ cond b (how (op_at s.ops p)) (op_at s.ops p)
  here which how quiet e = rewritten-at which how quiet s.ops p ∙ rw (lt-ltb p (size s.ops) (omega (arith, size-count s h)), e)

  -- whoever is active is one of them
  small-active : (t : ℕ) → code (phase_of s.transactions t) ≡ 1 → t < length s.transactions
  small-active t a = lt-or t (length s.transactions) (λ l. l) (λ l. absurd (omega (arith, a, ap code (past-idle s.transactions t l))))

  touched-begin : (t : ℕ) → Entering tables s t → Touched tables s (Enters t Active) p
  unfolding state_after
  touched-begin t f =
      kept (record {
        low = low;
        still = λ a. other t Active a (λ e. omega (arith, f.idle, h.active p a, ap (λ (x : ℕ). code (phase_of s.transactions x)) e));
        now = refl;
      })

  -- an operation that t holds ends with it
  touched-end : (t : ℕ) (phase : Phase) (fate : Fate) → Ending tables s t phase fate → Touched tables s (Ends t phase fate) p
  unfolding state_after
  touched-end t phase fate f =
      bool_cases (held_by t (op_at s.ops p))
      (λ b.
      let both = on_and (is_active_op (op_at s.ops p).fate) (eqb (op_at s.ops p).responsible t) b in
      let mine : (op_at s.ops p).responsible ≡ t = eqb-true (op_at s.ops p).responsible t both.1 in
      ended fate
      (record {
        active = both.0;
        gone = f.gone;
        keeps = λ k. ap (λ (x : ℕ). is_child (clerk_of tables s.transactions x)) mine ∙ f.keeps k;
        how = inl (omega (arith, f.ended, ap code (ap (phase_of (entered phase t s.transactions)) mine ∙ entered-same s.transactions t phase small)));
        now = here (all_held_by t) (ended_as fate (size s.ops)) (λ k. refl) b;
      }))
      (λ b.
      kept (record {
        low = low;
        still = λ a. other t phase a (λ e. clash (and_on (is_active_op (op_at s.ops p).fate) (eqb (op_at s.ops p).responsible t) a (eq-eqb (op_at s.ops p).responsible t e)) b);
        now = here (all_held_by t) (ended_as fate (size s.ops)) (λ k. refl) b;
      }))
    where
      small : t < length s.transactions
      small = small-active t f.active

  touched-one : (t q : ℕ) (fate : Fate) → EndingOne tables s t q fate → Touched tables s (EndsOne q fate) p
  unfolding state_after
  touched-one t q fate f =
      bool_cases (only_active q p (op_at s.ops p))
      (λ b.
      let both = on_and (is_active_op (op_at s.ops p).fate) (eqb p q) b in
      ended fate
      (record {
        active = both.0;
        gone = f.gone;
        how = inr (eq-eqb q p (sym (eqb-true p q both.1)));
        keeps = λ k.
            ap (λ (x : ℕ). is_child (clerk_of tables s.transactions x)) (ap (λ (x : ℕ). (op_at s.ops x).responsible) (eqb-true p q both.1) ∙ f.may.mine) ∙ f.keeps k;
        now = here (only_active q) (ended_as fate (size s.ops)) (λ k. refl) b;
      }))
      (λ b. kept (record { low = low; still = h.active p; now = here (only_active q) (ended_as fate (size s.ops)) (λ k. refl) b }))

  touched-given : (t r q : ℕ) → Giving tables s t r q → Touched tables s (Gives q r) p
  unfolding state_after
  touched-given t r q f =
      bool_cases (only_active q p (op_at s.ops p))
      (λ b.
      let both = on_and (is_active_op (op_at s.ops p).fate) (eqb p q) b in
      let from : (op_at s.ops p).responsible ≡ t = ap (λ (x : ℕ). (op_at s.ops x).responsible) (eqb-true p q both.1) ∙ f.from in
      passed r
      (record {
        active = both.0;
        gives = ap (λ (x : ℕ). no_party (sort_of tables x)) from ∙ f.gives;
        receives = f.receives;
        runs = f.receiver;
        now = here (only_active q) (passed_to r) (λ k. refl) b;
      }))
      (λ b. kept (record { low = low; still = h.active p; now = here (only_active q) (passed_to r) (λ k. refl) b }))

  touched-made : (t o : ℕ) (m : Mark) → Making tables s t o m → Touched tables s (Makes (new_op t o m)) p
  unfolding state_after
  touched-made t o m f =
      kept (record { low = low; still = h.active p; now = made_at (new_op t o m) s.ops h.room f.room p ∙ rw (ne_eqb p s.ops.count (λ e. omega arith)) })

  -- a parent is not its own child: it would be an active one
  other-clerk : (t m : ℕ) → Handing tables s t m → m ≢ t
  unfolding child_active
  other-clerk t m f e =
      let low : t < most_transactions = omega (arith, h.full, small-active t f.active) in
      let self : active_child s.transactions t t ≡ true =
      rw (f.helps.told, e, eq-eqb t t refl, of-active (phase_of s.transactions t) f.active) in
      clash (any-intro most_transactions (active_child s.transactions t) t low self)
      (and-rest (is_plain (sort_of tables t)) (child_active s.transactions t) f.children f.helps.helper)

  -- what t is at work on is m's
  touched-handed : (t m : ℕ) → Handing tables s t m → Touched tables s (Hands t m) p
  unfolding state_after
  touched-handed t m f =
      bool_cases (held_by t (op_at s.ops p))
      (λ b.
      let both = on_and (is_active_op (op_at s.ops p).fate) (eqb (op_at s.ops p).responsible t) b in
      let mine : (op_at s.ops p).responsible ≡ t = eqb-true (op_at s.ops p).responsible t both.1 in
      passed m
      (record {
        active = both.0;
        gives = ap (λ (x : ℕ). no_party (sort_of tables x)) mine ∙ plain-party (sort_of tables t) f.helps.helper;
        receives = plain-party (sort_of tables m) f.helps.clerk;
        runs = ap code (entered-other s.transactions t m Committed (other-clerk t m f)) ∙ f.parent;
        now = here (all_held_by t) (passed_to m) (λ k. refl) b;
      }))
      (λ b.
      kept (record {
        low = low;
        still = λ a. other t Committed a (λ e. clash (and_on (is_active_op (op_at s.ops p).fate) (eqb (op_at s.ops p).responsible t) a (eq-eqb (op_at s.ops p).responsible t e)) b);
        now = here (all_held_by t) (passed_to m) (λ k. refl) b;
      }))

  touched-spawned : (m t : ℕ) → Spawning tables s m t → Touched tables s (Spawns m t) p
  unfolding state_after
  touched-spawned m t f =
      kept (record {
        low = low;
        still = λ a.
            ap (λ (x : Transaction). code x.phase)
            (spawned-other s.transactions m t (op_at s.ops p).responsible
            (λ e. omega (arith, f.idle, h.active p a, ap (λ (x : ℕ). code (phase_of s.transactions x)) e)))
            ∙ h.active p a;
        now = refl;
      })

  pub touched : (c : Change) → Step tables s c → Touched tables s c p
  touched c (enters t f) = touched-begin t f
  touched c (ends t phase fate f) = touched-end t phase fate f
  touched c (ends-one t q fate f) = touched-one t q fate f
  touched c (makes t o m f) = touched-made t o m f
  touched c (gives t r q f) = touched-given t r q f
  touched c (hands t m f) = touched-handed t m f
  touched c (spawns m t f) = touched-spawned m t f

-- ---- how many operations there are: as many as before, or one was made

pub by-made : (tables : Tables) (s : State) (A : Change → Type 0) (c : Change) → Step tables s c
    → ((c : Change) → (state_after c s).ops.count ≡ s.ops.count → A c)
    → ((t o : ℕ) (m : Mark) → Making tables s t o m → (state_after (Makes (new_op t o m)) s).ops.count ≡ s.ops.count + 1 → A (Makes (new_op t o m))) → A c
unfolding state_after rewritten
by-made tables s A c (enters t f) same more = same c refl
by-made tables s A c (ends t p fate f) same more = same c refl
by-made tables s A c (ends-one t q fate f) same more = same c refl
by-made tables s A c (makes t o m f) same more = more t o m f (ap (λ (x : Ops). x.count) (made-room (new_op t o m) s.ops f.room))
by-made tables s A c (gives t r q f) same more = same c refl
by-made tables s A c (hands t m f) same more = same c refl
by-made tables s A c (spawns m t f) same more = same c refl

-- no accepted event lowers the count
pub count-up : (tables : Tables) (s : State) (c : Change) → Step tables s c → s.ops.count ≤ (state_after c s).ops.count
count-up tables s c w =
    by-made tables s (λ (x : Change). s.ops.count ≤ (state_after x s).ops.count) c w (λ x e. omega (arith, e)) (λ t o m f e. omega (arith, e))

-- an operation that was not there before it
pub record New (tables : Tables) (s : State) (c : Change) (p : ℕ) : Type 0 where
  pub t : ℕ
  pub o : ℕ
  pub m : Mark
  pub making : Making tables s t o m
  pub last : p ≡ s.ops.count
  pub runs : code (phase_of (state_after c s).transactions t) ≡ 1
  pub now : op_at (state_after c s).ops p ≡ new_op t o m
  pub others : (q : ℕ) → q < s.ops.count → op_at (state_after c s).ops q ≡ op_at s.ops q

pub new : (tables : Tables) (s : State) (c : Change) → Step tables s c → Lasting s → (p : ℕ) → s.ops.count ≤ p → p < (state_after c s).ops.count → New tables s c p
unfolding state_after
new tables s c w h p l =
    by-made tables s (λ (x : Change). p < (state_after x s).ops.count → New tables s x p) c w
    (λ x e u. absurd (omega (arith, e)))
    (λ t o m f e u.
    let last : p ≡ s.ops.count = omega (arith, e) in
    record {
      t = t;
      o = o;
      m = m;
      making = f;
      last = last;
      runs = f.active;
      now = made_at (new_op t o m) s.ops h.room f.room p ∙ rw (eq-eqb p s.ops.count last);
      others = λ q g. made_at (new_op t o m) s.ops h.room f.room q ∙ rw (ne_eqb q s.ops.count (λ i. omega arith));
    })

past-rewritten : (s : State) → Lasting s → (which : ℕ → Operation → Bool) (how : Operation → Operation) → ((k : ℕ) → which k no_operation ≡ false)
    → (p : ℕ) → (rewritten which how s.ops).count ≤ p → op_at (rewritten which how s.ops) p ≡ op_at s.ops p
past-rewritten s h which how quiet p l =
    rewritten-at which how quiet s.ops p ∙ rw (le-ltb p (size s.ops) (omega (arith, size-count s h, count-rewritten which how quiet s.ops)))

-- past the operations that there are nothing changes
pub rest : (tables : Tables) (s : State) (c : Change) → Step tables s c → Lasting s → (p : ℕ) → (state_after c s).ops.count ≤ p
    → op_at (state_after c s).ops p ≡ op_at s.ops p
unfolding state_after
rest tables s c (enters t f) h p l = refl
rest tables s c (ends t phase fate f) h p l = past-rewritten s h (all_held_by t) (ended_as fate (size s.ops)) (λ k. refl) p l
rest tables s c (ends-one t q fate f) h p l = past-rewritten s h (only_active q) (ended_as fate (size s.ops)) (λ k. refl) p l
rest tables s c (makes t o m f) h p l =
    made_at (new_op t o m) s.ops h.room f.room p
    ∙ rw (ne_eqb p s.ops.count (λ e. omega (arith, ap (λ (x : Ops). x.count) (made-room (new_op t o m) s.ops f.room))))
rest tables s c (gives t r q f) h p l = past-rewritten s h (only_active q) (passed_to r) (λ k. refl) p l
rest tables s c (hands t m f) h p l = past-rewritten s h (all_held_by t) (passed_to m) (λ k. refl) p l
rest tables s c (spawns m t f) h p l = refl

-- any operation after the event: kept, ended, given, new, or none
module _ (tables : Tables) (s : State) (c : Change) (w : Step tables s c) (h : Lasting s) (G : Operation → Type 0) (p : ℕ)
    (if_kept : KeptNow tables s c p → G (op_at s.ops p))
    (if-ended : (fate : Fate) → EndedNow tables s c p fate → G (ended_as fate (size s.ops) (op_at s.ops p)))
    (if-given : (r : ℕ) → PassedNow tables s c p r → G (passed_to r (op_at s.ops p))) where
  each : Touched tables s c p → G (op_at (state_after c s).ops p)
  each (kept f) = subst G (sym f.now) (if_kept f)
  each (ended fate f) = subst G (sym f.now) (if-ended fate f)
  each (passed r f) = subst G (sym f.now) (if-given r f)

  pub every : ((n : New tables s c p) → G (new_op n.t n.o n.m)) → ((state_after c s).ops.count ≤ p → G (op_at s.ops p))
      → G (op_at (state_after c s).ops p)
  every if-new if_none =
      lt-or p s.ops.count
      (λ l. each (touched tables s h p l c w))
      (λ l.
      lt-or p (state_after c s).ops.count
      (λ u. let n = new tables s c w h p l u in subst G (sym n.now) (if-new n))
      (λ u. subst G (sym (rest tables s c w h p u)) (if_none u)))

-- what ends alone might end alone
pub alone-may : (tables : Tables) (s : State) (c : Change) → Step tables s c → (q : ℕ) → ends_alone c q ≡ true → (t : ℕ) × MayEndOne tables s t q
alone-may tables s c (enters t f) q x = clash x refl
alone-may tables s c (ends t p fate f) q x = clash x refl
alone-may tables s c (ends-one t p fate f) q x = (t, subst (λ (y : ℕ). MayEndOne tables s t y) (eqb-true p q x) f.may)
alone-may tables s c (makes t o m f) q x = clash x refl
alone-may tables s c (gives t r p f) q x = clash x refl
alone-may tables s c (hands t m f) q x = clash x refl
alone-may tables s c (spawns m t f) q x = clash x refl
